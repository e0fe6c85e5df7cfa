-- Suffixes: the query and fragment of a URL.
use Rattle.std.specs.Prelude.{IsTrue, true, Bool, List, [], ◌∷◌, ℕ}
use Rattle.url_spec.specs.Suffixes.{is_suffix_mark}

-- the text is empty or begins with `?` or `#`
abbrev pub begins_suffix : List ℕ → Bool
begins_suffix [] = true
begins_suffix (b ∷ rest) = is_suffix_mark b

abbrev pub IsSuffix : List ℕ → Type 0
IsSuffix text = IsTrue (begins_suffix text)
