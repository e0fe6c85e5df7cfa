-- Looks: what stands at one path, as it is told to the one who asks.
--     IsLook tree path limit look      what a look at the path answers, where a file may have that many bytes
--     asked_after answered path asked      the paths that were asked for, after a look at one more
use Rattle.std.specs.FinMap.{get}
use Rattle.std.specs.Prelude.{◌≡◌, ◌<◌, ◌≤◌, ℕ, List, length, Some, None, ◌++◌, [], ◌∷◌, Bool, Option, option_map}
use Rattle.std.specs.Prelude.{if◌then◌else◌}
use Rattle.tree_spec.specs.Trees.{Tree}
use Rattle.tree_spec.specs.declared.Entry.TheVariants.{Stored, Directory}
use Rattle.tree_spec.specs.declared.Look.{Look}
use Rattle.tree_spec.specs.declared.Look.TheVariants.{Absent, Folder, File, TooLarge}

-- own: what a look at a path answers, where a file may have at most `limit` bytes
abbrev pub IsLook : Tree → List ℕ → ℕ → Look → Type 0
IsLook tree path limit Absent = get tree path ≡ None
IsLook tree path limit Folder = get tree path ≡ Some Directory
IsLook tree path limit (File bytes) = (get tree path ≡ Some (Stored bytes)) × (length bytes ≤ limit)
IsLook tree path limit TooLarge = (bytes : List ℕ) × (get tree path ≡ Some (Stored bytes)) × (limit < length bytes)

-- own: the paths that were asked for, after a look that was answered or wasn't
abbrev pub asked_after : Bool → List ℕ → Option (List (List ℕ)) → Option (List (List ℕ))
asked_after answered path asked = if answered then option_map (λ paths. paths ++ path ∷ []) asked else asked
