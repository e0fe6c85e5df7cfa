-- A name that no member has, which is what distinct names say of each name and those behind it.
use Rattle.std.specs.List.{AllByRecursion}
use Rattle.std.specs.Prelude.{◌≡◌, ℕ, false, List, bytes_eq}
use Rattle.json_spec.specs.Value.{Members, names_of}

abbrev pub IsNewName : List ℕ → Members → Type 0
IsNewName name ms = AllByRecursion (λ other. bytes_eq name other ≡ false) (names_of ms)
