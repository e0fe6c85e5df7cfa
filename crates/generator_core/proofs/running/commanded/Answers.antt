use Rattle.std.proofs.Common.{◌≡◌, ℕ, sym, subst}
use Rattle.tree_spec.specs.States.{FolderState, SinkState}
use Rattle.trace_spec.specs.Modules.{Config}
use Rattle.config_spec.specs.declared.Command.{Command}
use Rattle.config_spec.specs.declared.Command.TheVariants.{Link, Unlink, Refresh, Check, CheckStrictly}
use Rattle.generator_core.specs.Checking.{AsksGrammar as asks}
use Rattle.generator_core.specs.Preparing.{KeepsProject as keeps}
use Rattle.generator_core.specs.Running.{RunsCommand}
use Rattle.generator_core.proofs.running.commanded.Goals as goal

-- what is run for the command that it is
runs_as : (config : Config) (before after : FolderState) (out out_after : SinkState) (result steps later : ℕ) (command is : Command) → command ≡ is → RunsCommand is config before after out out_after result steps later → RunsCommand command config before after out out_after result steps later
runs_as config before after out out_after result steps later command is same runs =
    subst (λ one. RunsCommand one config before after out out_after result steps later) (sym same) runs

pub returns-in-Link : goal.returns-in-Link
returns-in-Link g c = runs_as _ _ _ _ _ _ _ _ _ _ c.in-Link.is (c.write_map.ensures Link keeps.link)

pub returns-in-Unlink : goal.returns-in-Unlink
returns-in-Unlink g c = runs_as _ _ _ _ _ _ _ _ _ _ c.in-Unlink.is (c.write_map-in-Unlink.ensures Unlink keeps.unlink)

pub returns-in-Refresh : goal.returns-in-Refresh
returns-in-Refresh g c = runs_as _ _ _ _ _ _ _ _ _ _ c.in-Refresh.is (c.write_map-in-Refresh.ensures Refresh keeps.refresh)

pub returns-in-Inject : goal.returns-in-Inject
returns-in-Inject g c = runs_as _ _ _ _ _ _ _ _ _ _ c.in-Inject.is c.inject.ensures

pub returns-in-Check : goal.returns-in-Check
returns-in-Check g c = runs_as _ _ _ _ _ _ _ _ _ _ c.in-Check.is (c.check.ensures Check asks.plainly)

pub returns-in-CheckStrictly : goal.returns-in-CheckStrictly
returns-in-CheckStrictly g c = runs_as _ _ _ _ _ _ _ _ _ _ c.in-CheckStrictly.is (c.check-in-CheckStrictly.ensures CheckStrictly asks.strictly)

pub returns-in-List : goal.returns-in-List
returns-in-List g c = runs_as _ _ _ _ _ _ _ _ _ _ c.in-List.is c.list.ensures

pub unreachable-requires : goal.unreachable-requires
unreachable-requires g c = c.requires.explains c.in-Why.is

pub unreachable-requires-in-Vendor : goal.unreachable-requires-in-Vendor
unreachable-requires-in-Vendor g c = c.requires.vendors c.in-Vendor.is
