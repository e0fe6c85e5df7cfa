-- The tree that is seen where looks are laid over what a folder holds.
--     StandsBehind tree known        each look that is kept is the tree's
--     look_for found                 the look that sees this
--     IsThere laid behind after      this stands there afterwards, where this is laid over what stood there
--     IsLaid tree over after         the tree with the laid looks in their places
use Rattle.std.specs.Prelude.{◌≡◌, ℕ, List, Option, Some, None}
use Rattle.std.specs.FinMap.{get}
use Rattle.tree_spec.specs.Trees.{Tree}
use Rattle.tree_spec.specs.declared.Entry.{Entry}
use Rattle.tree_spec.specs.declared.Entry.TheVariants.{Stored, Directory}
use Rattle.tree_spec.specs.declared.Look.{Look}
use Rattle.tree_spec.specs.declared.Look.TheVariants.{Absent, Folder, File}
use Rattle.package_lookup.specs.declared.known.Known.{Known}
use Rattle.package_lookup.specs.declared.over.Over.{Over}
use Rattle.package_lookup.specs.Looked.{kept_at, over_at}
use Rattle.package_lookup.specs.SeenLooks.{within_limit, seen_as}

-- own: as far as a look tells
pub record StandsBehind (tree : Tree) (known : Known) : Type 0 where
  pub kept :
      (path : List ℕ) (look : Look) → kept_at known path ≡ Some look → within_limit look ≡ seen_as (get tree path)

abbrev pub look_for : Option Entry → Look
look_for None = Absent
look_for (Some Directory) = Folder
look_for (Some (Stored bytes)) = File bytes

abbrev pub IsThere : Option Look → Option Entry → Option Entry → Type 0
IsThere None behind after = after ≡ behind
IsThere (Some look) behind after = look ≡ look_for after

-- own: elsewhere it is the tree behind
pub record IsLaid (tree : Tree) (over : Over) (after : Tree) : Type 0 where
  pub each : (path : List ℕ) → IsThere (over_at over path) (get tree path) (get after path)
