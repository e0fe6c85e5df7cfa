-- Where copies stand, and when one can't.
--     goal_of to path                   the path of a file's copy: the folder's path followed by the file's own; the
--                                       root's slash isn't written twice
--     most_path_bytes, most_path_segments      the most of a path
--     HasLongCopy old to paths, HasDeepCopy old to paths
--                                       the copy of some file that a tree has at these paths has too many bytes, too many
--                                       segments, below another folder than the root
use Rattle.std.specs.FinMap.{get}
use Rattle.std.specs.Prelude.{◌≡◌, ◌<◌, ◌++◌, [], ℕ, List, length, codes, bytes_eq, if◌then◌else◌, Some, Contains}
use Rattle.tree_spec.specs.Paths.{HasDepth}
use Rattle.tree_spec.specs.Trees.{Tree}
use Rattle.tree_spec.specs.declared.Entry.TheVariants.{Stored}

abbrev pub goal_of : List ℕ → List ℕ → List ℕ
goal_of to path = (if bytes_eq to (codes "/") then [] else to) ++ path

-- own: as `IsPath` of the trees has them
abbrev pub most_path_bytes : ℕ
most_path_bytes = 1024

abbrev pub most_path_segments : ℕ
most_path_segments = 64

pub record HasLongCopy (old : Tree) (to : List ℕ) (paths : List (List ℕ)) : Type 0 where
  pub path : List ℕ
  pub bytes : List ℕ
  pub looked_at : Contains paths path
  pub is_file : get old path ≡ Some (Stored bytes)
  pub long : most_path_bytes < length (to ++ path)

pub record HasDeepCopy (old : Tree) (to : List ℕ) (paths : List (List ℕ)) : Type 0 where
  pub path : List ℕ
  pub bytes : List ℕ
  pub looked_at : Contains paths path
  pub is_file : get old path ≡ Some (Stored bytes)
  pub depth : ℕ
  pub segments : HasDepth depth (to ++ path)
  pub deep : most_path_segments < depth
