-- What one command does.
--     RunsCommand command config before after out out_after result steps later
--                                                    the run ends as words end that ask for this command with this
--                                                    config; it asks for few paths; and it takes few steps
use Rattle.std.specs.Prelude.{ℕ, List, IfSome}
use Rattle.tree_spec.specs.States.{FolderState, SinkState}
use Rattle.trace_spec.specs.Modules.{Config}
use Rattle.config_spec.specs.declared.Command.{Command}
use Rattle.generator_spec.specs.Asked.{IsConfigAt, AsksFew}
use Rattle.generator_spec.specs.Ending.{EndsAs}
use Rattle.generator_core.specs.Spending.{FitsTrace, OrderSpends}

pub record RunsCommand (command : Command) (config : Config) (before after : FolderState) (out out_after : SinkState)
    (result steps later : ℕ) : Type 0 where
  pub end :
      (words : List (List ℕ)) → IsConfigAt words command config before
      → EndsAs words before after out out_after result
  pub asked : IfSome before.asked (λ old. AsksFew command config before.holds old after)
  pub spends : OrderSpends command out out_after result steps later
  pub by_trace : FitsTrace command config before.holds steps later
