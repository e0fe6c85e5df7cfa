use Rattle.std.proofs.Common.{sym, subst, ◌∙◌}
use Rattle.std.specs.Prelude.{IfOk}
use Rattle.web_url.proofs.PathLemmas.{IsFound, named_found}
use Rattle.web_url.proofs.paths.path_in_segments.Goals as goal

pub returns : goal.returns
returns c =
    named_found c.args.url_path.now c.in_ok-bytes.bytes.items c.path_of.result (sym c.escapes_separator.ensures ∙ c.if-escapes_separator.false) c.in_ok-bytes.ensures (subst (λ bytes. IfOk c.path_of.result (IsFound bytes)) c.as_slice.ensures.value c.path_of.ensures)
