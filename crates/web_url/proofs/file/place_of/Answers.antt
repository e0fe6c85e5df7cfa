use Rattle.std.proofs.Common.{List, ℕ, ap, subst, codes, ◌∙◌}
use Rattle.std.specs.Prelude.{MatchOption, nat_eq}
use Rattle.std.specs.List.{ends_with}
use Rattle.std.proofs.lemmas.Str.Pattern.{ends_text}
use Rattle.url_spec.specs.Suffixes.{suffix_of}
use Rattle.url_spec.specs.FileUrls.{escapes_separator, NamesPath}
use Rattle.web_url.proofs.file.place_of.Goals as goal

pub returns : goal.returns
returns c =
    let path = c.path-url_path.ensures in record {
      named = subst (λ text. MatchOption c.in_ok-named_path.field-0 ((any : List ℕ) → NamesPath text any → ⊥) (NamesPath text)) path c.in_ok-named_path.ensures;
      ends_in_slash = ends_text c.ends_with.result (codes "/") c.path-url_path.result.now c.ends_with.ensures.cases ∙ ap (λ text. ends_with nat_eq text (codes "/")) path;
      separator = c.escapes_separator.ensures ∙ ap escapes_separator path;
      tail = c.in_ok-behind.ensures ∙ ap suffix_of c.as_str.ensures.text;
    }
