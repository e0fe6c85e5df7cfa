use Rattle.std.proofs.Common.{codes, sym, ap, ◌∙◌}
use Rattle.url_spec.specs.ServedPaths.{holds_escape}
use Rattle.web_url.proofs.NameLemmas.{slash_spells_none}
use Rattle.web_url.proofs.names.spelled_below.Goals as goal

pub returns-then-holds_escape : goal.returns-then-holds_escape
returns-then-holds_escape c =
    let rest = c.in-Some.rest.now in
    slash_spells_none c.args.base.now c.args.url.now rest (rw c.in-Some.is at c.below.ensures)
    (ap (holds_escape (codes "%2f")) (sym c.as_bytes.ensures.value) ∙ sym c.holds_escape.ensures ∙ c.if-holds_escape.true)
