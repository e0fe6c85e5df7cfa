-- What is copied, and where to.
--     IsOfBytes path, AreOfBytes paths  the texts are made of bytes
--     IsSource known path               a file is kept for the path, which isn't the root
--     InOrder steps                     the sources ascend in the order of bytes
--     ArePlanned footprint known to steps
--                                       exactly the files that are kept for these paths, each with its goal, in order
--     IsTooLong known to path           a file is kept for the path, and its goal has too many bytes
--     HasLongGoal, HasDeepGoal footprint known to
--                                       the goal of some file that is kept for one of the paths has too many bytes, too
--                                       many segments
--     IsBad known to path               a file is kept for the path, and its goal is no path
--     HasBadGoal footprint known to     this is so of one of the paths
--     Plans footprint known to result   the plan, or why there is none
--     AreGoals known to done goals      the goals of the files that are kept for these paths
use Rattle.std.specs.BTreeMap.{BTreeMap, get}
use Rattle.std.specs.Cmp.Lexicographic.{slice_cmp}
use Rattle.std.specs.List.Sorted.{IsStrictlySortedBy}
use Rattle.std.specs.Map.{keys_of}
use Rattle.std.specs.Ordering.{nat_cmp}
use Rattle.std.specs.Prelude.{◌≡◌, ◌≢◌, ◌<◌, ⊤, ℕ, true, List, length, codes}
use Rattle.std.specs.Prelude.{All, Contains, Some, Result, Ok, Err, is_some}
use Rattle.package_lookup.specs.declared.known.Known.{Known}
use Rattle.tree_spec.specs.Paths.{IsPath, HasDepth}
use Rattle.vendor_spec.specs.Goals.{goal_of, most_path_bytes, most_path_segments}
use Rattle.tree_vendor.specs.Copying.{Step, file_at}
use Rattle.tree_vendor.specs.declared.planning.VendorFault.{VendorFault}
use Rattle.tree_vendor.specs.declared.planning.VendorFault.TheVariants.{PathTooLong, TooManySegments, Memory}

abbrev pub IsOfBytes : List ℕ → Type 0
IsOfBytes path = All (λ b. b < 256) path

abbrev pub AreOfBytes : List (List ℕ) → Type 0
AreOfBytes paths = (path : List ℕ) → Contains paths path → IsOfBytes path

-- own: in a tree the root is no file
pub record IsSource (known : Known) (path : List ℕ) : Type 0 where
  pub below_root : path ≢ codes "/"
  pub kept : is_some (file_at known path) ≡ true

abbrev pub InOrder : List Step → Type 0
InOrder steps = IsStrictlySortedBy (slice_cmp nat_cmp) (keys_of steps)

pub record ArePlanned (footprint : List (List ℕ)) (known : Known) (to : List ℕ) (steps : List Step) : Type 0 where
  pub looked_at : (step : Step) → Contains steps step → Contains footprint step.0
  pub sources : (step : Step) → Contains steps step → IsSource known step.0
  pub goals : (step : Step) → Contains steps step → step.1 ≡ goal_of to step.0
  pub paths : (step : Step) → Contains steps step → IsPath step.1
  pub whole :
      (path : List ℕ) → Contains footprint path → IsSource known path → Contains steps (path, goal_of to path)
  pub in_order : InOrder steps
  pub bytes : AreOfBytes footprint

-- ---- why there is no plan

pub record IsTooLong (known : Known) (to path : List ℕ) : Type 0 where
  pub source : IsSource known path
  pub long : most_path_bytes < length (goal_of to path)

pub record HasLongGoal (footprint : List (List ℕ)) (known : Known) (to : List ℕ) : Type 0 where
  pub path : List ℕ
  pub looked_at : Contains footprint path
  pub too_long : IsTooLong known to path

pub record HasDeepGoal (footprint : List (List ℕ)) (known : Known) (to : List ℕ) : Type 0 where
  pub path : List ℕ
  pub looked_at : Contains footprint path
  pub source : IsSource known path
  pub depth : ℕ
  pub segments : HasDepth depth (goal_of to path)
  pub deep : most_path_segments < depth

abbrev pub Plans : List (List ℕ) → Known → List ℕ → Result (List Step) VendorFault → Type 0
Plans footprint known to (Ok steps) = ArePlanned footprint known to steps
Plans footprint known to (Err PathTooLong) = HasLongGoal footprint known to
Plans footprint known to (Err TooManySegments) = (HasLongGoal footprint known to → ⊥) × HasDeepGoal footprint known to
Plans footprint known to (Err Memory) = ⊤

-- ---- the goals as they are gathered

pub record IsBad (known : Known) (to path : List ℕ) : Type 0 where
  pub source : IsSource known path
  pub to_is : IsPath to
  pub is_path : IsPath path
  pub bad : IsPath (goal_of to path) → ⊥

pub record HasBadGoal (footprint : List (List ℕ)) (known : Known) (to : List ℕ) : Type 0 where
  pub path : List ℕ
  pub looked_at : Contains footprint path
  pub is_bad : IsBad known to path

pub record IsGoal (known : Known) (to : List ℕ) (done : List (List ℕ)) (path goal : List ℕ) : Type 0 where
  pub looked_at : Contains done path
  pub source : IsSource known path
  pub is : goal ≡ goal_of to path
  pub is_path : IsPath goal

pub record AreGoals (known : Known) (to : List ℕ) (done : List (List ℕ)) (goals : BTreeMap (List ℕ) (List ℕ))
    : Type 0 where
  pub each :
      (path goal : List ℕ) → get (slice_cmp nat_cmp) goals path ≡ Some goal → IsGoal known to done path goal
  pub whole :
      (path : List ℕ) → Contains done path → IsSource known path
      → get (slice_cmp nat_cmp) goals path ≡ Some (goal_of to path)
