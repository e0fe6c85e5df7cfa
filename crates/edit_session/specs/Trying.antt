-- A generation over other looks and for other entries, both of which are taken back.
--     IfLaid right before known over P     of the tree that is seen, where what is kept is right
--     TriesMap right before known config over entries result after later left      the map, or why there is none
use Rattle.std.specs.Prelude.{◌≡◌, ℕ, List, Some, Result, Err, IfOk, IfErr}
use Rattle.std.specs.FinMap.{get}
use Rattle.tree_spec.specs.States.{FolderState}
use Rattle.tree_spec.specs.Trees.{Tree}
use Rattle.trace_spec.specs.Laws.{IsLookedAt}
use Rattle.trace_spec.specs.Modules.{Config}
use Rattle.config_spec.specs.declared.Command.TheVariants.{Refresh}
use Rattle.generator_spec.specs.Commands.{Refuses, IsRefusalOf}
use Rattle.package_lookup.specs.declared.known.Known.{Known}
use Rattle.package_lookup.specs.declared.over.Over.{Over}
use Rattle.package_lookup.specs.LaidTrees.{StandsBehind, IsLaid}
use Rattle.package_lookup.specs.Looked.{over_at}
use Rattle.generation.specs.Generating.{IfRefused}
use Rattle.generation.specs.declared.generated.Generated.{Generated}
use Rattle.generation.specs.declared.stop.Stop.{Stop}
use Rattle.generation.specs.declared.stop.Stop.TheVariants.{ReadFault, Memory}
use Rattle.session_spec.specs.SessionStates.{config_with, IsGenerated}
use Rattle.edit_session.specs.LooksOn.{LooksOn}
use Rattle.edit_session.specs.SessionTrees.{counts_in}

-- own: of the tree that is seen where the looks are laid, if what is kept is right
abbrev pub IfLaid : Type 0 → FolderState → Known → Over → (Tree → Type 0) → Type 0
IfLaid right before known over P =
    right → (tree seen : Tree) → before.holds ≡ Some tree → StandsBehind tree known → IsLaid tree over seen → P seen

pub record TriesMap (right : Type 0) (before : FolderState) (known : Known) (config : Config) (over : Over)
    (entries : List (List ℕ)) (result : Result Generated Stop) (after : FolderState) (later : Known)
    (left : Over) : Type 0 where
  pub looks :
      LooksOn before known after later (result ≡ Err ReadFault) (result ≡ Err Memory)
      (λ tree path. right → (seen : Tree) → StandsBehind tree known → IsLaid tree over seen
      → IsLookedAt (get seen) (config_with config entries) path)
  pub same_over : (path : List ℕ) → over_at left path ≡ over_at over path
  pub generated :
      IfOk result (λ found. IfLaid right before known over
      (λ seen. IsGenerated seen (config_with config entries) found.map.items (counts_in found)))
  pub refused :
      IfErr result (IfRefused (λ why. IfLaid right before known over
      (λ seen. Refuses seen (config_with config entries) Refresh why)))
  pub kind : IfErr result (IfRefused (λ why. IsRefusalOf (config_with config entries) Refresh why))
