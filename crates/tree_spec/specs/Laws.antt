-- The laws of paths, trees, looks and askings over looks. Each is the contract of a function of this crate.
use Rattle.std.specs.FinMap.{get, insert}
use Rattle.std.specs.List.{IsDistinct}
use Rattle.std.specs.Prelude.{◌≡◌, ◌++◌, ℕ, List, [], ◌≢◌, Some, ◌↔◌, codes, bytes_eq}
use Rattle.asking_spec.specs.Askings.{outcome}
use Rattle.asking_spec.specs.Evaluation.{ends, stopped, evaluated}
use Rattle.asking_spec.specs.Laws.{AgreesOn}
use Rattle.tree_spec.specs.FoldersAbove.{folders_from, folder_of, Climbs}
use Rattle.tree_spec.specs.LookAskings.{Sights, LookAsking, looks, is_seen, noted, footprint}
use Rattle.tree_spec.specs.LookLimits.{LookLimits, Trail, limited, IsFirstLimit, Counts}
use Rattle.tree_spec.specs.Copies.{IsCopy}
use Rattle.tree_spec.specs.LeftOutFolders.{IsThinned, Spares}
use Rattle.tree_spec.specs.Looks.{IsLook}
use Rattle.tree_spec.specs.Paths.{IsParent, IsPath}
use Rattle.tree_spec.specs.Trees.{Tree, Places, IsTree, bare_tree}
use Rattle.tree_spec.specs.declared.Entry.{Entry}
use Rattle.tree_spec.specs.declared.Entry.TheVariants.{Directory}
use Rattle.tree_spec.specs.declared.LimitName.{LimitName}
use Rattle.tree_spec.specs.declared.Look.{Look}

-- a path has one parent
abbrev pub OneParent : Type 0
OneParent = (parent other path : List ℕ) → IsParent parent path → IsParent other path → parent ≡ other

-- two outcomes of one placing are the same map
abbrev pub OnePlacing : Type 0
OnePlacing =
    (tree : Tree) (path : List ℕ) (entry : Entry) (a b : Tree) → IsPath path → Places tree path entry a
    → Places tree path entry b → a ≡ b

-- a placing where no folder stands leaves a tree
abbrev pub PlacingKeepsTree : Type 0
PlacingKeepsTree =
    (tree : Tree) (path : List ℕ) (entry : Entry) (after : Tree) → IsTree tree → IsPath path
    → get tree path ≢ Some Directory → Places tree path entry after → IsTree after

-- in a tree, to place an entry in a folder that is there is to insert it
abbrev pub PlacingInFolder : Type 0
PlacingInFolder =
    (tree : Tree) (parent path : List ℕ) (entry : Entry) (after : Tree) → IsTree tree → IsParent parent path
    → get tree parent ≡ Some Directory → Places tree path entry after ↔ (after ≡ insert tree path entry)

-- in a tree, to place an entry in the root is to insert it
abbrev pub PlacingInRoot : Type 0
PlacingInRoot =
    (tree : Tree) (path : List ℕ) (entry : Entry) (after : Tree) → IsTree tree → IsParent (codes "/") path
    → Places tree path entry after ↔ (after ≡ insert tree path entry)

-- the root alone is a tree
abbrev pub RootAlone : Type 0
RootAlone = (tree : Tree) → tree ≡ bare_tree → IsTree tree

-- a look has one answer
abbrev pub OneLook : Type 0
OneLook =
    (tree : Tree) (path : List ℕ) (limit : ℕ) (look other : Look) → IsLook tree path limit look
    → IsLook tree path limit other → look ≡ other

-- own: what an asking comes to is the same, and so are the paths at which it looks
pub record IsSameAsking {X : Type 0} (one other : Sights) (asking : LookAsking X) : Type 0 where
  pub outcome : outcome one asking ≡ outcome other asking
  pub looks : looks one asking ≡ looks other asking
  pub footprint : footprint one asking ≡ footprint other asking

-- where the same stands at each path of the footprint that an asking has in the first, it comes to the same in both, by
-- the same looks
abbrev pub SameByFootprint : Type 0 → Type 0
SameByFootprint X =
    (one other : Sights) (asking : LookAsking X) → AgreesOn one other (footprint one asking)
    → IsSameAsking one other asking

-- nor do limits tell the two apart
abbrev pub SameLimited : Type 0 → Type 0
SameLimited X =
    (limits : LookLimits) (one other : Sights) (trail : Trail) (asking : LookAsking X)
    → AgreesOn one other (footprint one asking)
    → evaluated (limited limits one) trail asking ≡ evaluated (limited limits other) trail asking

-- a limit stops an asking exactly where it is the first that the asking's looks pass
abbrev pub FirstLimitStops : Type 0 → Type 0
FirstLimitStops X =
    (limits : LookLimits) (sights : Sights) (trail : Trail) (asking : LookAsking X) (name : LimitName) (before : Trail)
    → (evaluated (limited limits sights) trail asking ≡ stopped name before
    ↔ IsFirstLimit limits sights trail (looks sights asking) name before)

-- own: the asking came to its outcome, and its looks were counted
pub record IsCounted {X : Type 0} (sights : Sights) (before : Trail) (asking : LookAsking X) (value : X)
    (after : Trail) : Type 0 where
  pub is : value ≡ outcome sights asking
  pub counts : Counts sights before (looks sights asking) after

-- where no limit stops it, an asking comes to its outcome, and the trail has counted its looks
abbrev pub EndsCounted : Type 0 → Type 0
EndsCounted X =
    (limits : LookLimits) (sights : Sights) (before : Trail) (asking : LookAsking X) (value : X) (after : Trail)
    → evaluated (limited limits sights) before asking ≡ ends value after → IsCounted sights before asking value after

-- the folders from a path on are those that are reached from it by parents
abbrev pub FoldersClimb : Type 0
FoldersClimb = (path : List ℕ) → IsPath path → Climbs path (folders_from path)

-- a path stands in its parent
abbrev pub FolderIsParent : Type 0
FolderIsParent = (parent path : List ℕ) → IsParent parent path → folder_of path ≡ parent

-- own: a footprint has, once each, the paths at which an asking looks, and no other
pub record IsFootprintOf {X : Type 0} (sights : Sights) (asking : LookAsking X) : Type 0 where
  pub distinct : IsDistinct bytes_eq (footprint sights asking)
  pub same_paths :
      (path : List ℕ) → is_seen path (footprint sights asking) ≡ is_seen path (looks sights asking)

-- the footprint of an asking has, once each, the paths at which it looks, and no other
abbrev pub FootprintIsSet : Type 0 → Type 0
FootprintIsSet X = (sights : Sights) (asking : LookAsking X) → IsFootprintOf sights asking

-- the footprints of askings are joined as their looks are: to note all looks of an asking is to note its footprint
pub record FootprintsJoin : Type 0 where
  pub one_after_another :
      (seen front back : List (List ℕ)) → noted seen (front ++ back) ≡ noted (noted seen front) back
  pub by_footprint : (seen paths : List (List ℕ)) → noted seen (noted [] paths) ≡ noted seen paths

-- own: what an asking comes to is the same, at the same paths, and the limits tell no more
pub record IsSparedAsking {X : Type 0} (one other : Sights) (asking : LookAsking X) : Type 0 where
  pub same : IsSameAsking one other asking
  pub limited :
      (limits : LookLimits) (trail : Trail)
      → evaluated (limited limits one) trail asking ≡ evaluated (limited limits other) trail asking

-- where folders are left out of a footprint, and nothing else, an asking that spares them comes to the same, by the same
-- looks, under every limit
abbrev pub SparedSame : Type 0 → Type 0
SparedSame X =
    (one other : Sights) (asking : LookAsking X) → IsThinned one other (footprint one asking) → Spares one [] asking
    → IsSparedAsking one other asking

-- a copy of the files at some paths differs from the tree, at these paths, by folders that are left out
abbrev pub CopyIsThinned : Type 0
CopyIsThinned =
    (old : Tree) (paths : List (List ℕ)) (copy : Tree) → IsTree old → IsCopy old paths copy
    → IsThinned (get old) (get copy) paths
