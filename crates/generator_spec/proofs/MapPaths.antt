-- Paths of files in the root.
use Rattle.std.proofs.Common.{ℕ, List, ◌∷◌, codes, refl, lit≤}
use Rattle.tree_spec.specs.Paths.{IsSegment, IsPath, IsParent, root}
use Rattle.url_spec.proofs.PathDecisions.{path_by_test, segment_by_test}
use Rattle.generator_spec.specs.Commands.{map_path}
use Rattle.config_spec.specs.Projects.{project_path}

pub project_is_path : IsPath project_path
project_is_path = path_by_test project_path refl

pub map_is_path : IsPath map_path
map_is_path = path_by_test map_path refl

in_root : (name : List ℕ) → IsSegment name → IsParent (codes "/") (47 ∷ name)
in_root name is = record {
  name = name;
  segment = is;
  is_path = record { depth = 0; segments = root (codes "/") refl; few = lit≤ tt; short = lit≤ tt };
  text = refl;
}

pub map_in_root : IsParent (codes "/") map_path
map_in_root = in_root (codes "importmap.json") (segment_by_test (codes "importmap.json") refl)

pub project_in_root : IsParent (codes "/") project_path
project_in_root = in_root (codes "importmap.project.json") (segment_by_test (codes "importmap.project.json") refl)
