-- Tests of paths and of what is served.
--     parts text                     what stands between the slashes of a text, from its front to its end
--     is_segment name                the name may stand between two slashes
--     is_path text                   the text is a path
--     is_served base url path        the base serves this path at the URL
use Rattle.std.specs.Prelude.{◌&&◌, ◌||◌, ◌==◌, not, nat_le, ℕ, Bool, false, List, [], ◌∷◌, ◌++◌, length, drop, codes}
use Rattle.std.specs.Prelude.{bytes_eq, flat_map, if◌then◌else◌}
use Rattle.std.specs.List.{list_all}
use Rattle.std.specs.Str.{is_utf8}
use Rattle.url_spec.specs.Suffixes.{before_suffix}
use Rattle.url_spec.specs.ServedPaths.{holds_escape, segments, read_segment}

-- with this byte before the first part
abbrev pub with_first : ℕ → List (List ℕ) → List (List ℕ)
with_first b [] = (b ∷ []) ∷ []
with_first b (part ∷ more) = (b ∷ part) ∷ more

abbrev pub parts : List ℕ → List (List ℕ)
parts [] = [] ∷ []
parts (b ∷ rest) = if b == 47 then [] ∷ parts rest else with_first b (parts rest)

abbrev pub is_segment : List ℕ → Bool
is_segment name =
    not (bytes_eq name []) && not (bytes_eq name (codes ".")) && not (bytes_eq name (codes "..")) && list_all
    (λ b. not (b == 47) && not (b == 0)) name

-- own: `/`, or segments, each behind a `/`; at most 64 of them in at most 1,024 bytes
abbrev pub is_path : List ℕ → Bool
is_path [] = false
is_path (b ∷ rest) =
    b == 47 && (bytes_eq rest [] || list_all is_segment (parts rest) && nat_le (length (parts rest)) 64) && nat_le
    (length rest) 1023

-- the rest of a URL behind its base spells this path
abbrev pub spells : List ℕ → List ℕ → Bool
spells rest path =
    not (holds_escape (codes "%2f") rest) && bytes_eq path (flat_map read_segment (segments rest)) && is_utf8 path
    && is_path path

abbrev pub is_served : List ℕ → List ℕ → List ℕ → Bool
is_served base url path =
    bytes_eq (before_suffix url) (base ++ drop (length base) (before_suffix url)) && spells
    (drop (length base) (before_suffix url)) path
