-- What a look at a file answers.
--     IsContent bytes limit look      what a look at a file of these bytes answers
use Rattle.std.specs.Prelude.{◌≡◌, ◌≤◌, ◌<◌, ℕ, List, length}
use Rattle.tree_spec.specs.declared.Look.{Look}
use Rattle.tree_spec.specs.declared.Look.TheVariants.{Absent, Folder, File, TooLarge}

-- own: what a look at a file of these bytes answers, where it may have at most `limit` bytes
abbrev pub IsContent : List ℕ → ℕ → Look → Type 0
IsContent bytes limit Absent = ⊥
IsContent bytes limit Folder = ⊥
IsContent bytes limit (File found) = (found ≡ bytes) × (length bytes ≤ limit)
IsContent bytes limit TooLarge = limit < length bytes
