-- The laws of plans. Each is the contract of a function of this crate.
use Rattle.std.specs.FinMap.{get}
use Rattle.std.specs.Prelude.{◌≡◌, ◌≢◌, ◌↔◌, ℕ, List, map, codes, None, Contains}
use Rattle.package_lookup.specs.Looked.{Sees, known_at, laid_at}
use Rattle.package_lookup.specs.SeenLooks.{IsWithin}
use Rattle.package_lookup.specs.declared.known.Known.{Known}
use Rattle.tree_spec.specs.Trees.{Tree, IsTree}
use Rattle.vendor_spec.specs.Vendored.{Pair, Written, Copied, IsPlan}
use Rattle.tree_vendor.specs.Copying.{Step, AreKept, bytes_at, copies}
use Rattle.vendor_spec.specs.Goals.{HasLongCopy, HasDeepCopy}
use Rattle.tree_vendor.specs.Planning.{ArePlanned, HasLongGoal, HasDeepGoal}

-- the path and the bytes of each file
abbrev pub pairs : Known → List Step → List Pair
pairs known steps = map (λ step. (step.0, bytes_at known step.0)) steps

-- own: no look is laid, what is kept is what looks at the tree see, and of each of these paths a look is kept that saw
-- no file above the limit
pub record KeepsFootprint (tree : Tree) (known : Known) (footprint : List (List ℕ)) : Type 0 where
  pub none_laid : (path : List ℕ) → laid_at known path ≡ None
  pub sees : Sees tree known (get tree)
  pub covered : (path : List ℕ) → Contains footprint path → IsWithin (known_at known path)

-- the plan is one of exactly the tree's files at these paths, and its writes are those of their copies below the folder
pub record IsPlanOf (tree : Tree) (to : List ℕ) (footprint : List (List ℕ)) (known : Known) (steps : List Step)
    : Type 0 where
  pub is_plan : IsPlan tree to footprint (pairs known steps)
  pub copied :
      (before after : Tree) → Written before (copies known steps) after → Copied to before (pairs known steps) after

abbrev pub PlannedIsPlan : Type 0
PlannedIsPlan =
    (tree : Tree) (to : List ℕ) (footprint : List (List ℕ)) (known : Known) (steps : List Step) → IsTree tree
    → to ≢ codes "/" → KeepsFootprint tree known footprint → ArePlanned footprint known to steps
    → IsPlanOf tree to footprint known steps

-- a copy's path that has too much is one of the tree's files, and the other way round
pub record FaultsAgree (tree : Tree) (to : List ℕ) (footprint : List (List ℕ)) (known : Known) : Type 0 where
  pub long : HasLongGoal footprint known to ↔ HasLongCopy tree to footprint
  pub deep : HasDeepGoal footprint known to ↔ HasDeepCopy tree to footprint

abbrev pub FaultsAreOfTree : Type 0
FaultsAreOfTree =
    (tree : Tree) (to : List ℕ) (footprint : List (List ℕ)) (known : Known) → IsTree tree → to ≢ codes "/"
    → KeepsFootprint tree known footprint → FaultsAgree tree to footprint known

-- of each source of a plan a file is kept
abbrev pub PlannedAreKept : Type 0
PlannedAreKept =
    (footprint : List (List ℕ)) (known : Known) (to : List ℕ) (steps : List Step)
    → ArePlanned footprint known to steps → AreKept known steps
