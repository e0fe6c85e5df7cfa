-- What is left of a text of names while they are read.
--     names_left rest      the names of what is left, if anything is
use Rattle.std.specs.Prelude.{◌==◌, ℕ, List, [], Option, Some, None}
use Rattle.std.specs.List.{slice_split}

abbrev pub names_left : Option (List ℕ) → List (List ℕ)
names_left None = []
names_left (Some text) = slice_split (λ b. b == 44) text
