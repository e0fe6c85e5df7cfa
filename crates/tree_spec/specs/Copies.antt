-- Copies of some of a tree's files.
--     IsAboveFile tree folder     a file of the tree stands below the folder
--     IsCopy old paths copy       a tree of the files that the old tree has at these paths, and of the folders above them
use Rattle.std.specs.FinMap.{get}
use Rattle.std.specs.Prelude.{◌≡◌, ◌⊎◌, ℕ, List, codes, Some, Contains}
use Rattle.tree_spec.specs.Paths.{IsAbove}
use Rattle.tree_spec.specs.Trees.{Tree, IsTree}
use Rattle.tree_spec.specs.declared.Entry.TheVariants.{Stored, Directory}

-- own: some file stands below the folder
pub record IsAboveFile (tree : Tree) (folder : List ℕ) : Type 0 where
  pub path : List ℕ
  pub bytes : List ℕ
  pub stored : get tree path ≡ Some (Stored bytes)
  pub above : IsAbove folder path

-- own: the files of the old tree at these paths with their bytes, no other file, and no folder but the root and those
-- above a file
pub record IsCopy (old : Tree) (paths : List (List ℕ)) (copy : Tree) : Type 0 where
  pub is_tree : IsTree copy
  pub files :
      (path bytes : List ℕ) → Contains paths path → get old path ≡ Some (Stored bytes)
      → get copy path ≡ Some (Stored bytes)
  pub looked_at : (path bytes : List ℕ) → get copy path ≡ Some (Stored bytes) → Contains paths path
  pub no_more : (path bytes : List ℕ) → get copy path ≡ Some (Stored bytes) → get old path ≡ Some (Stored bytes)
  pub folders : (path : List ℕ) → get copy path ≡ Some Directory → (path ≡ codes "/") ⊎ IsAboveFile copy path
