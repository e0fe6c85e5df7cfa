-- The laws of what is vendored. Each is the contract of a function of this crate.
use Rattle.std.specs.FinMap.{get}
use Rattle.std.specs.Prelude.{◌≡◌, ◌≢◌, ◌⊎◌, ℕ, List, codes, Some, None}
use Rattle.tree_spec.specs.Copies.{IsCopy}
use Rattle.tree_spec.specs.Paths.{IsPath, IsAbove}
use Rattle.tree_spec.specs.Trees.{Tree, IsTree}
use Rattle.tree_spec.specs.declared.Entry.TheVariants.{Stored}
use Rattle.vendor_spec.specs.Goals.{HasLongCopy, HasDeepCopy}
use Rattle.vendor_spec.specs.Vendored.{Pair, IsBelow, Copied, IsPlan, IsApart}

-- what stands below a folder that wasn't there, once the files at some paths were written there, is a copy of these
-- files
abbrev pub CopiedIsCopy : Type 0
CopiedIsCopy =
    (old after below : Tree) (to : List ℕ) (paths : List (List ℕ)) (pairs : List Pair) → IsTree old → IsPath to
    → to ≢ codes "/" → get old to ≡ None → IsPlan old to paths pairs → Copied to old pairs after
    → IsBelow after to below → IsCopy old paths below

-- the writes leave a tree, and whatever is neither the folder, nor above it, nor below it stands as before
pub record LeavesRest (old : Tree) (to : List ℕ) (after : Tree) : Type 0 where
  pub is_tree : IsTree after
  pub stays : (path : List ℕ) → IsApart to path → get after path ≡ get old path

abbrev pub CopiedLeavesRest : Type 0
CopiedLeavesRest =
    (old after : Tree) (to : List ℕ) (paths : List (List ℕ)) (pairs : List Pair) → IsTree old → IsPath to
    → to ≢ codes "/" → get old to ≡ None → IsPlan old to paths pairs → Copied to old pairs after
    → LeavesRest old to after

-- the files that a tree has at some paths are one list
abbrev pub OnePlan : Type 0
OnePlan =
    (old : Tree) (to : List ℕ) (paths : List (List ℕ)) (pairs others : List Pair) → IsPlan old to paths pairs
    → IsPlan old to paths others → pairs ≡ others

-- where they are listed so, no copy's path has too many bytes or too many segments
abbrev pub PlanFits : Type 0
PlanFits =
    (old : Tree) (to : List ℕ) (paths : List (List ℕ)) (pairs : List Pair) → IsPlan old to paths pairs
    → (HasLongCopy old to paths → ⊥) × (HasDeepCopy old to paths → ⊥)

-- and they can be listed so, or some copy's path has too many bytes, or none has and some has too many segments
abbrev pub SomePlan : Type 0
SomePlan =
    (old : Tree) (to : List ℕ) (paths : List (List ℕ)) → IsTree old → IsPath to → to ≢ codes "/"
    → HasLongCopy old to paths
    ⊎ (((HasLongCopy old to paths → ⊥) × HasDeepCopy old to paths) ⊎ ((pairs : List Pair) × IsPlan old to paths pairs))

-- where nothing stands at the folder's path, and no file above it, they can be written
abbrev pub SomeCopied : Type 0
SomeCopied =
    (old : Tree) (to : List ℕ) (paths : List (List ℕ)) (pairs : List Pair) → IsTree old → IsPath to → to ≢ codes "/"
    → get old to ≡ None → ((file bytes : List ℕ) → get old file ≡ Some (Stored bytes) → IsAbove file to → ⊥)
    → IsPlan old to paths pairs → (after : Tree) × Copied to old pairs after

-- below each path a tree stands, which may be the root alone
abbrev pub SomeBelow : Type 0
SomeBelow = (tree : Tree) (to : List ℕ) → (below : Tree) × IsBelow tree to below
