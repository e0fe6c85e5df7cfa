-- Traces of a copy of the files that a generation looks at.
--     AreBytes paths        the texts of the paths are made of bytes
--     GenerationSpares      the folders that are left out decide nothing in a generation that comes to a trace
--     SameGeneration        the trace of a copy is the trace of the tree
use Rattle.std.specs.FinMap.{get}
use Rattle.std.specs.Prelude.{◌≡◌, ◌<◌, ℕ, List, Ok, Contains, All}
use Rattle.tree_spec.specs.Copies.{IsCopy}
use Rattle.tree_spec.specs.LeftOutFolders.{Spares}
use Rattle.tree_spec.specs.LookAskings.{Sights, footprint}
use Rattle.tree_spec.specs.Trees.{Tree, IsTree}
use Rattle.node_spec.specs.Laws.{SeesBytes}
use Rattle.trace_spec.specs.Checks.{Gathered}
use Rattle.trace_spec.specs.Modules.{Config}
use Rattle.trace_spec.specs.Traces.{traced, generation}

-- own: each text of these is made of bytes
pub record AreBytes (paths : List (List ℕ)) : Type 0 where
  pub small : (path : List ℕ) → Contains paths path → All (λ b. b < 256) path

-- where a generation comes to a trace, the folders that are left out decide nothing in it, whatever is looked at behind
-- it
abbrev pub GenerationSpares : Type 0
GenerationSpares =
    (sights : Sights) → SeesBytes sights
    → (later : List (List ℕ)) (config : Config) (all : Gathered) → traced sights config ≡ Ok all
    → Spares sights later (generation config)

-- where the generation of a tree comes to a trace, that of a copy of the files of its footprint comes to the same trace
abbrev pub SameGeneration : Type 0
SameGeneration =
    (old copy : Tree) (config : Config) (all : Gathered) → IsTree old
    → AreBytes (footprint (get old) (generation config))
    → IsCopy old (footprint (get old) (generation config)) copy → traced (get old) config ≡ Ok all
    → traced (get copy) config ≡ Ok all
