-- One path is served at a URL, and a file URL names one place.
use Rattle.std.proofs.Common.{◌≡◌, sym, ap, ◌∙◌, ℕ, List, Option, Some, None, refl}
use Rattle.std.proofs.lemmas.List.{append_cancel_left}
use Rattle.std.specs.Prelude.{flat_map, MatchOption}
use Rattle.url_spec.specs.FileUrls.{NamesPath, url_path}
use Rattle.url_spec.specs.Laws.{OneServed, OnePlace}
use Rattle.url_spec.specs.ServedPaths.{read_segment, segments}
use Rattle.url_spec.specs.WebNames.{escaped}

pub one_served : OneServed
one_served base url path other a b =
    let same : a.rest ≡ b.rest = append_cancel_left base a.rest b.rest (sym a.below ∙ b.below) in
    a.spelled ∙ ap (λ rest. flat_map read_segment (segments rest)) same ∙ sym b.spelled

one_named : (text : List ℕ) (path other : Option (List ℕ)) → MatchOption path ((any : List ℕ) → NamesPath text any → ⊥) (NamesPath text) → MatchOption other ((any : List ℕ) → NamesPath text any → ⊥) (NamesPath text) → path ≡ other
one_named text None None a b = refl
one_named text None (Some other) a b = absurd (a other b)
one_named text (Some path) None a b = absurd (b path a)
one_named text (Some path) (Some other) a b = ap Some (a.spelled ∙ sym b.spelled)

pub one_place : OnePlace
one_place url path other folder_only folder_only' escaped escaped' suffix suffix' a b =
    (one_named (url_path url) path other a.named b.named, a.ends_in_slash ∙ sym b.ends_in_slash, a.separator ∙ sym b.separator, a.tail ∙ sym b.tail)
