use Rattle.std.proofs.Common.{sym, ◌∙◌}
use Rattle.web_url.proofs.PlainLemmas.{plain, no_separator}
use Rattle.web_url.proofs.paths.escapes_separator.Goals as goal

pub returns-then-not-holds_percent : goal.returns-then-not-holds_percent
returns-then-not-holds_percent c =
    sym (no_separator c.args.url_path.now (plain c.args.url_path.now (sym c.holds_percent.ensures ∙ c.if-not-holds_percent.true)))
