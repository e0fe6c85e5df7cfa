use Rattle.std.proofs.Common.{sym, subst, ◌∙◌}
use Rattle.std.specs.Prelude.{IsUtf8}
use Rattle.tree_spec.specs.Paths.{IsPath}
use Rattle.web_url.proofs.PlainLemmas.{plain, no_separator, path_itself}
use Rattle.web_url.proofs.paths.named_path.Goals as goal

pub returns-in-Ok : goal.returns-in-Ok
returns-in-Ok c =
    let text = c.args.url_path.now in
    let bare = plain text (sym c.holds_percent.ensures ∙ c.if-holds_percent.false) in
    let found = c.in-Ok.ensures.path in record {
      no_separator = no_separator text bare;
      spelled = found.0 ∙ path_itself text found.1 bare;
      utf8 = subst IsUtf8 (sym found.0) c.utf8.url_path;
      is_path = subst IsPath (sym found.0) found.1;
    }
