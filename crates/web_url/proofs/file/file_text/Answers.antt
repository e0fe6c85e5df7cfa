use Rattle.std.proofs.Common.{◌<◌, ◌++◌, All, ap, subst, string_bytes, ◌∙◌}
use Rattle.url_spec.specs.WebNames.{escaped}
use Rattle.web_url.proofs.PathLemmas.{file_text_is}
use Rattle.web_url.proofs.file.file_text.Goals as goal

pub returns : goal.returns
returns c =
    let middle = c.in_ok-push_escaped.ensures.grown ∙ ap (λ path. string_bytes c.in_ok-text.text ++ escaped path) c.as_str.ensures.text in record {
      spelled = file_text_is c.args.path.now c.folder_end.result.now _ _ _ c.args.folder c.in_ok-text.ensures.ok middle c.in_ok-push_str.ensures.bytes c.folder_end.ensures;
      is_path = c.as_str.ensures.is_path;
      bytes = subst (All (λ b. b < 256)) c.as_str.ensures.text c.push_escaped.ensures.bytes;
    }
