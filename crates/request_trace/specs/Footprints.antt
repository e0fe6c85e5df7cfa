-- Where was looked for a trace.
--     IsFootprint config before known later paths      the paths are the footprint of the generation, and of each a look
--                                                      is known
use Rattle.std.specs.Prelude.{◌≡◌, ℕ, List, Contains, IfSome}
use Rattle.tree_spec.specs.LookAskings.{Sights, footprint}
use Rattle.tree_spec.specs.States.{FolderState}
use Rattle.trace_spec.specs.Modules.{Config}
use Rattle.trace_spec.specs.Traces.{generation}
use Rattle.package_lookup.specs.Looked.{Sees, known_at}
use Rattle.package_lookup.specs.SeenLooks.{IsWithin}
use Rattle.package_lookup.specs.declared.known.Known.{Known}

-- own: where a tree is told, by all that looks tell; and whatever is told, the look of each path saw no file above the
-- limit
pub record IsFootprint (config : Config) (before : FolderState) (known later : Known) (paths : List (List ℕ))
    : Type 0 where
  pub is :
      IfSome before.holds
      (λ tree. (sights : Sights) → Sees tree known sights → paths ≡ footprint sights (generation config))
  pub kept : (path : List ℕ) → Contains paths path → IsWithin (known_at later path)
