-- Answers by what is kept, which is right or isn't.
--     untold folder, untold_state at      the same, but that no tree is told
--     AnsweredIf right before asking response after      where what is kept is right, the call does what `Answered` says;
--                                         and whatever is kept, it does so of a folder that tells no tree
use Rattle.std.specs.Prelude.{◌≡◌, None, IfSome}
use Rattle.tree_spec.specs.LookAskings.{LookAsking}
use Rattle.tree_spec.specs.States.{FolderState}
use Rattle.package_lookup.specs.Answered.{State, state, Answered}
use Rattle.package_lookup.specs.Learning.{IsSameIn}
use Rattle.package_lookup.specs.Responses.{Response}

abbrev pub untold : FolderState → FolderState
untold folder =
    record {
      holds = None;
      asked = folder.asked;
      look_faults = folder.look_faults;
      write_faults = folder.write_faults;
    }

abbrev pub untold_state : State → State
untold_state at = state (untold at.folder) at.known at.trail

-- own: and whatever is kept, the tree is as before, and so is what a look at each path answers
pub record AnsweredIf {X : Type 0} (right : Type 0) (before : State) (asking : LookAsking X) (response : Response X)
    (after : State) : Type 0 where
  pub is : right → Answered before asking response after
  pub always : Answered (untold_state before) asking response (untold_state after)
  pub tree : after.folder.holds ≡ before.folder.holds
  pub same : IfSome before.folder.holds (λ tree. IsSameIn tree before after)
