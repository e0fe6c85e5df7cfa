-- What is promised of a run, by what its words ask for.
--     IsIdle words      they ask neither for a command on a project nor for a session
--     CommandEnds words before after out out_after result spent spent_after
--                       how a run of words ends that ask for no session, what it asks its folder for, and how many
--                       steps it takes
--     RunEnds words before after source later out out_after seen seen_after result spent spent_after
--                       the same; and a session ends as sessions do
use Rattle.std.specs.Prelude.{ℕ, List, Option, IfSome}
use Rattle.tree_spec.specs.States.{FolderState, SourceState, SinkState}
use Rattle.config_spec.specs.declared.Command.{Command}
use Rattle.config_spec.specs.Words.{IsCommandOf, IsSession}
use Rattle.generator_spec.specs.Asked.{AsksInOrder}
use Rattle.generator_spec.specs.Ending.{EndsAs}
use Rattle.generator_spec.specs.Steps.{RunSpends}
use Rattle.session_spec.specs.SessionRuns.{SessionEnds}
use Rattle.session_spec.specs.Showings.{Shown}

pub record IsIdle (words : List (List ℕ)) : Type 0 where
  pub no_command : (command : Command) → IsCommandOf words command → ⊥
  pub no_session : IsSession words → ⊥

pub record CommandEnds (words : List (List ℕ)) (before after : FolderState) (out out_after : SinkState)
    (result spent spent_after : ℕ) : Type 0 where
  pub end : EndsAs words before after out out_after result
  pub asked : IfSome before.asked (λ old. AsksInOrder words before old after)
  pub steps : RunSpends words before.holds out out_after result spent spent_after

-- own: words ask for a session or they don't
pub record RunEnds (words : List (List ℕ)) (before after : FolderState) (source later : SourceState)
    (out out_after : SinkState) (seen seen_after : Option (List (List Shown))) (result spent spent_after : ℕ)
    : Type 0 where
  pub command : (IsSession words → ⊥) → CommandEnds words before after out out_after result spent spent_after
  pub session :
      IsSession words → SessionEnds before after source later out out_after seen seen_after result spent spent_after
