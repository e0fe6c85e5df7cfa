-- What stands below a folder, and what writes of files there leave.
--     Pair                            a path, and the bytes of the file that stands there
--     IsBelow tree to below           the tree whose entry at each path is that of `tree` at the folder's path followed
--                                     by this path
--     Written tree files after        these files were written, one after another
--     Copied to tree pairs after      these files were written below the folder, one after another
--     IsPlan old to paths pairs       the pairs are the files of a tree at these paths, in byte order, each with a path as
--                                     its goal
--     IsApart to path                 the path is neither the folder, nor above it, nor below it
use Rattle.std.specs.Cmp.Lexicographic.{slice_cmp}
use Rattle.std.specs.FinMap.{get}
use Rattle.std.specs.List.Sorted.{IsStrictlySortedBy}
use Rattle.std.specs.Ordering.{nat_cmp}
use Rattle.std.specs.Prelude.{◌≡◌, ◌≢◌, ◌++◌, ℕ, List, [], ◌∷◌, codes, map, Some, Contains}
use Rattle.tree_spec.specs.Paths.{IsPath, IsAbove}
use Rattle.tree_spec.specs.Trees.{Tree, Places}
use Rattle.tree_spec.specs.declared.Entry.{Entry}
use Rattle.tree_spec.specs.declared.Entry.TheVariants.{Stored, Directory}

abbrev pub Pair : Type 0
Pair = List ℕ × List ℕ

-- own: the root is a folder, and each other path that has an entry is a path by itself
pub record IsBelow (tree : Tree) (to : List ℕ) (below : Tree) : Type 0 where
  pub root : get below (codes "/") ≡ Some Directory
  pub paths : (path : List ℕ) (entry : Entry) → get below path ≡ Some entry → IsPath path
  pub each : (path : List ℕ) → IsPath path → path ≢ codes "/" → get below path ≡ get tree (to ++ path)

-- own: each file is placed, in this order
pub data Written : Tree → List Pair → Tree → Type 0 where
  nothing : (tree : Tree) → Written tree [] tree
  one_more :
      (tree middle after : Tree) (file : Pair) (more : List Pair) → Places tree file.0 (Stored file.1) middle
      → Written middle more after → Written tree (file ∷ more) after

-- own: each file at the folder's path followed by its own
abbrev pub goals : List ℕ → List Pair → List Pair
goals to pairs = map (λ pair. (to ++ pair.0, pair.1)) pairs

abbrev pub Copied : List ℕ → Tree → List Pair → Tree → Type 0
Copied to tree pairs after = Written tree (goals to pairs) after

-- own: exactly the files at these paths, each once
pub record IsPlan (old : Tree) (to : List ℕ) (paths : List (List ℕ)) (pairs : List Pair) : Type 0 where
  pub files : (pair : Pair) → Contains pairs pair → get old pair.0 ≡ Some (Stored pair.1)
  pub looked_at : (pair : Pair) → Contains pairs pair → Contains paths pair.0
  pub whole :
      (path bytes : List ℕ) → Contains paths path → get old path ≡ Some (Stored bytes)
      → Contains pairs (path, bytes)
  pub in_order : IsStrictlySortedBy (slice_cmp nat_cmp) (map (λ pair. pair.0) pairs)
  pub goals : (pair : Pair) → Contains pairs pair → IsPath (to ++ pair.0)

-- own: what is written below the folder makes the folders above it, and touches nothing else
pub record IsApart (to path : List ℕ) : Type 0 where
  pub other : path ≢ to
  pub not_above : IsAbove path to → ⊥
  pub not_below : IsAbove to path → ⊥
