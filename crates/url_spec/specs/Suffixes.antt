-- The suffix of a URL: its query and fragment with their marks (URL Standard, URL representation).
--     suffix_of url      the suffix of the URL with this text, or nothing
--     before_suffix url      the text without it
use Rattle.std.specs.List.{prefix_len}
use Rattle.std.specs.Prelude.{◌==◌, ◌||◌, ℕ, Bool, not, List, take, drop}

-- a query begins with `?`, and a fragment with `#`
abbrev pub is_suffix_mark : ℕ → Bool
is_suffix_mark b = b == 63 || b == 35

-- how many bytes of a URL's text stand before its query and fragment
abbrev pub suffix_start : List ℕ → ℕ
suffix_start url = prefix_len (λ b. not (is_suffix_mark b)) url

-- a URL's text without its query and fragment
abbrev pub before_suffix : List ℕ → List ℕ
before_suffix url = take (suffix_start url) url

-- the query and fragment of a URL with their marks, or nothing
abbrev pub suffix_of : List ℕ → List ℕ
suffix_of url = drop (suffix_start url) url
