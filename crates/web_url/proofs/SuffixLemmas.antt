-- What follows a URL's path is a suffix.
use Rattle.std.proofs.Common.{List, ℕ, [], ◌∷◌, not, refl}
use Rattle.std.proofs.lemmas.Bool.{not-false}
use Rattle.url.proofs.InputLemmas.{StopsAt, StopsAt-drop-prefix_len}
use Rattle.url_spec.specs.Suffixes.{is_suffix_mark, suffix_of}
use Rattle.web_url.specs.Suffixes.{IsSuffix}

stopped : (text : List ℕ) → StopsAt (λ b. not (is_suffix_mark b)) text → IsSuffix text
stopped [] stops = refl
stopped (b ∷ rest) stops = not-false (is_suffix_mark b) stops

pub suffix_behind : (url : List ℕ) → IsSuffix (suffix_of url)
suffix_behind url = stopped (suffix_of url) (StopsAt-drop-prefix_len (λ b. not (is_suffix_mark b)) url)
