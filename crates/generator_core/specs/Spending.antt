-- How many steps a command takes.
--     CommandSpends generates out out_after result before after      no more than its line tells, where a command that
--                                                                    generates is done and the output tells what it
--                                                                    took; and never more than there may be modules
--                                                                    and requests
--     OrderSpends command out out_after result before after      the same of a command on a project, with one step more
--                                                                    a module where each is checked once more
--     FitsOpening command config holds before after      no step, unless a told tree has what the command needs before
--                                                        its trace
--     FitsTrace command config holds before after      no more steps than a told tree's trace asks questions until it
--                                                      ends, and come behind it; and so it is before the trace
--     FitsWords words holds before after      so it is of words
use Rattle.std.specs.Prelude.{◌≡◌, ◌≢◌, ◌≤◌, ◌⊎◌, ◌+◌, ℕ, List, Option, IfSome}
use Rattle.tree_spec.specs.declared.LimitName.TheVariants.{Modules, Requests}
use Rattle.tree_spec.specs.Limits.{limit_number}
use Rattle.tree_spec.specs.States.{SinkState}
use Rattle.tree_spec.specs.Trees.{Tree}
use Rattle.trace_spec.specs.Modules.{Config}
use Rattle.config_spec.specs.declared.Command.{Command}
use Rattle.config_spec.specs.declared.Command.TheVariants.{CheckStrictly}
use Rattle.generator_spec.specs.Commands.{IsGenerating, Opens}
use Rattle.generator_spec.specs.Statuses.{done_status}
use Rattle.generator_spec.specs.Steps.{SpendsByTrace, SpendsFew, TraceSpends}

-- own: `told` where the command generates and answers 0; `bounded` however it ends
pub record CommandSpends (generates : Type 0) (out out_after : SinkState) (result before after : ℕ) : Type 0 where
  pub told : generates → result ≡ done_status → SpendsFew out out_after before after
  pub bounded : after ≤ before + (limit_number Modules + limit_number Requests)

pub record OrderSpends (command : Command) (out out_after : SinkState) (result before after : ℕ) : Type 0 where
  pub told : IsGenerating command → result ≡ done_status → SpendsFew out out_after before after
  pub bounded : command ≢ CheckStrictly → after ≤ before + (limit_number Modules + limit_number Requests)
  pub strictly : after ≤ before + (limit_number Modules + limit_number Requests) + limit_number Modules

-- ---- by the trace

-- own: nothing is traced, unless what the command needs before its trace is there
abbrev pub FitsOpening : Command → Config → Option Tree → ℕ → ℕ → Type 0
FitsOpening command config holds before after =
    IfSome holds (λ tree. (after ≡ before) ⊎ Opens tree config command)

abbrev pub FitsTrace : Command → Config → Option Tree → ℕ → ℕ → Type 0
FitsTrace command config holds before after = IfSome holds (λ tree. SpendsByTrace tree command config before after)

abbrev pub FitsWords : List (List ℕ) → Option Tree → ℕ → ℕ → Type 0
FitsWords words holds before after = IfSome holds (λ tree. TraceSpends words tree before after)
