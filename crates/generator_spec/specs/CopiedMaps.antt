-- What is generated for a copy of the files that a generation looks at.
--     generation_paths tree config      the paths of the generation's footprint
--     CopyGenerates          a copy of these files has the map that the tree has
--     IsVendored old config to after below map      what stands behind the writes of these files into a folder
--     VendoredGenerates      the folder holds such a copy, all else stands, and the map is the same
use Rattle.std.specs.FinMap.{get}
use Rattle.std.specs.Prelude.{◌≡◌, ◌≢◌, ℕ, List, codes, None}
use Rattle.tree_spec.specs.Copies.{IsCopy}
use Rattle.tree_spec.specs.LookAskings.{footprint}
use Rattle.tree_spec.specs.Paths.{IsPath}
use Rattle.tree_spec.specs.Trees.{Tree, IsTree}
use Rattle.trace_spec.specs.Copied.{AreBytes}
use Rattle.trace_spec.specs.Modules.{Config}
use Rattle.trace_spec.specs.Traces.{generation}
use Rattle.vendor_spec.specs.Laws.{LeavesRest}
use Rattle.vendor_spec.specs.Vendored.{Pair, IsBelow, Copied, IsPlan}
use Rattle.generator_spec.specs.Generation.{Generates}

abbrev pub generation_paths : Tree → Config → List (List ℕ)
generation_paths tree config = footprint (get tree) (generation config)

-- where a text is generated for a tree, it is generated for each copy of the files of the generation's footprint
abbrev pub CopyGenerates : Type 0
CopyGenerates =
    (old copy : Tree) (config : Config) (map : List ℕ) → IsTree old → AreBytes (generation_paths old config)
    → IsCopy old (generation_paths old config) copy → Generates old config map → Generates copy config map

-- own: below the folder stand the files of the footprint alone, and the map is generated for them; whatever is neither
-- the folder, nor above it, nor below it stands as before
pub record IsVendored (old : Tree) (config : Config) (to : List ℕ) (after below : Tree) (map : List ℕ) : Type 0 where
  pub copy : IsCopy old (generation_paths old config) below
  pub rest : LeavesRest old to after
  pub generates : Generates below config map

-- where a text is generated for a tree, and the files of the generation's footprint were written below a folder that
-- wasn't there, the folder holds a copy of them for which the same text is generated, and all else stands as before
abbrev pub VendoredGenerates : Type 0
VendoredGenerates =
    (old after below : Tree) (config : Config) (to : List ℕ) (pairs : List Pair) (map : List ℕ) → IsTree old
    → AreBytes (generation_paths old config) → IsPath to → to ≢ codes "/" → get old to ≡ None
    → IsPlan old to (generation_paths old config) pairs → Copied to old pairs after → IsBelow after to below
    → Generates old config map → IsVendored old config to after below map
