-- Segments, and texts for `*`, as the code cuts and joins them.
use Rattle.std.specs.Prelude.{◌==◌, ◌||◌, ℕ, Bool, List, [], ◌∷◌, codes, bytes_eq, flat_map, Option, Some, None}
use Rattle.std.specs.Prelude.{if◌then◌else◌}
use Rattle.std.specs.List.{list_any}
use Rattle.url.specs.Input.{lowercase}
use Rattle.node_spec.specs.PackageTargets.{segments}

abbrev pub is_separator : ℕ → Bool
is_separator b = b == 47 || b == 92

-- the segments of a text; no text has none
abbrev pub segments_in : Option (List ℕ) → List (List ℕ)
segments_in None = []
segments_in (Some text) = segments text

-- what an invalid segment spells
abbrev pub is_invalid_name : List ℕ → Bool
is_invalid_name name =
    list_any (bytes_eq (lowercase name)) (codes "" ∷ codes "." ∷ codes ".." ∷ codes "node_modules" ∷ [])

-- the text with each `*` replaced by this part
abbrev pub replaced : List ℕ → List ℕ → List ℕ
replaced part text = flat_map (λ b. if b == 42 then part else b ∷ []) text
