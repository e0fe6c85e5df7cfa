-- A generation by kept answers.
--     IfKnown right before known P         of the tree that is seen, where what is kept is right
--     GeneratesIf right config before known result after later      where what is kept is right, what generation gives;
--                                          and whatever is kept, all that is owed of a folder that tells no tree
--     IsKeptFor kept config next seen      what is kept next are the answers of the trace of what is seen, if what was
--                                          kept before was kept under the config's conditions
--     LeavesAnswers kept config before known next      so it is where what was kept is right
use Rattle.std.specs.Prelude.{◌≡◌, Result, IfSome}
use Rattle.tree_spec.specs.States.{FolderState}
use Rattle.tree_spec.specs.Trees.{Tree}
use Rattle.trace_spec.specs.Modules.{Config}
use Rattle.package_lookup.specs.Learning.{IsSameIn}
use Rattle.package_lookup.specs.declared.known.Known.{Known}
use Rattle.request_trace.specs.Tracing.{known_of}
use Rattle.kept_answers.specs.RightAnswers.{untold}
use Rattle.kept_trace.specs.Ready.{AreAllRight}
use Rattle.kept_trace.specs.declared.kept.Kept.{Kept}
use Rattle.generation.specs.Generating.{GeneratingOver, IfSeen}
use Rattle.generation.specs.declared.generated.Generated.{Generated}
use Rattle.generation.specs.declared.stop.Stop.{Stop}
use Rattle.edit_session.specs.KeptAnswers.{AreAnswersOf}

abbrev pub IfKnown : Type 0 → FolderState → Known → (Tree → Type 0) → Type 0
IfKnown right before known P = right → IfSome before.holds (λ tree. IfSeen tree known P)

-- own: and whatever is kept, the tree is as before, and so is what a look at each path answers
pub record GeneratesIf (right : Type 0) (config : Config) (before : FolderState) (known : Known)
    (result : Result Generated Stop) (after : FolderState) (later : Known) : Type 0 where
  pub is : right → GeneratingOver config before known result after later
  pub always : GeneratingOver config (untold before) known result (untold after) later
  pub tree : after.holds ≡ before.holds
  pub same : IfSome before.holds (λ tree. IsSameIn tree (known_of before known) (known_of after later))

abbrev pub IsKeptFor : Kept → Config → Kept → Tree → Type 0
IsKeptFor kept config next seen = kept.requests.names ≡ config.conditions → AreAnswersOf next seen config

abbrev pub LeavesAnswers : Kept → Config → FolderState → Known → Kept → Type 0
LeavesAnswers kept config before known next =
    AreAllRight kept → IfSome before.holds (λ tree. IfSeen tree known (IsKeptFor kept config next))
