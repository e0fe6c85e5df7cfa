-- The laws of the tree of packages. Each is the contract of a function of this crate.
use Rattle.std.specs.Prelude.{◌≡◌, ℕ, List}
use Rattle.tree_spec.specs.Paths.{IsPath}
use Rattle.tree_spec.specs.Trees.{Tree, Places}
use Rattle.tree_spec.specs.declared.Entry.TheVariants.{Stored}
use Rattle.workload_spec.specs.Packages.{with_file}

-- own law: a file that is placed is put, with the folders above it
abbrev pub PlacedIsPut : Type 0
PlacedIsPut =
    (tree after : Tree) (path bytes : List ℕ) → IsPath path → Places tree path (Stored bytes) after
    → after ≡ with_file tree path bytes
