use Rattle.std.proofs.Common.{◌++◌, sym, ap, ◌∙◌, lit<}
use Rattle.std.proofs.lemmas.Str.{encode_ascii}
use Rattle.web_url.proofs.NameLemmas.{path_slash}
use Rattle.web_url.proofs.names.below_root.Goals as goal

pub returns-in-None : goal.returns-in-None
returns-in-None c =
    absurd (path_slash c.args.path.now c.as_str.ensures.is_path (λ rest e. c.in-None.ensures.cases rest (c.as_str.ensures.text ∙ e ∙ ap (λ front. front ++ rest) (sym (encode_ascii 47 (lit< tt))))))
