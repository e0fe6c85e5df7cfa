use Rattle.std.proofs.Common.{ℕ, subst}
use Rattle.std.specs.Prelude.{⊤}
use Rattle.tree_spec.specs.States.{SinkState}
use Rattle.config_spec.specs.declared.Command.{Command}
use Rattle.generator_spec.specs.Commands.{IsGenerating}
use Rattle.generator_core.specs.Preparing.{Prepares}
use Rattle.generator_core.specs.Spending.{CommandSpends}
use Rattle.generator_core.proofs.Endings.{stop_end, write_end, stop_spends, done_spends, order_spends}
use Rattle.generator_core.proofs.Preparings.{counts, still_few}
use Rattle.generator_core.proofs.StepsByTrace.{fits_to_end, map_opening}
use Rattle.generator_core.proofs.running.write_map.Goals as goal

-- what a command that generates may take, any command may
any_command : (command : Command) (out out_after : SinkState) (result steps later : ℕ) → CommandSpends ⊤ out out_after result steps later → CommandSpends (IsGenerating command) out out_after result steps later
any_command command out out_after result steps later spends = record { told = λ _ zero. spends.told tt zero; bounded = spends.bounded }

pub returns-in-Ok : goal.returns-in-Ok
returns-in-Ok g c =
    λ command kept.
    record {
      end = λ words is_config. write_end words command c.args.config.now _ _ _ _ _ _ c.in-Ok.prepared (counts c.args.keeps kept) is_config (subst (λ r. Prepares command c.args.config.now (g.F.Folder.state c.args.folder.now) r (g.F.Folder.state c.prepare_map.new.folder)) c.in-Ok.is (c.prepare_map.ensures.prepares command kept)).ready c.finish.ensures;
      asked = still_few command c.args.config.now (g.F.Folder.state c.args.folder.now).holds _ (g.F.Folder.state c.prepare_map.new.folder) _ c.finish.ensures.asked (c.prepare_map.ensures.prepares command kept).asked;
      spends = order_spends command _ _ _ _ _ (any_command command _ _ _ _ _ (done_spends c.in-Ok.prepared _ _ _ _ _ _ _ c.finish.ensures (rw c.in-Ok.is at c.prepare_map.ensures.steps)));
      by_trace = fits_to_end command c.args.config.now (g.F.Folder.state c.args.folder.now).holds _ _ (map_opening command c.args.keeps c.args.config.now (g.F.Folder.state c.args.folder.now).holds _ _ kept) c.prepare_map.ensures.to_end;
    }

pub returns-in-Err : goal.returns-in-Err
returns-in-Err g c =
    λ command kept. record {
      end = λ words is_config. stop_end words command c.args.config.now _ _ _ _ _ is_config c.in-Err.stop (subst (λ r. Prepares command c.args.config.now (g.F.Folder.state c.args.folder.now) r (g.F.Folder.state c.prepare_map.new.folder)) c.in-Err.is (c.prepare_map.ensures.prepares command kept)).stopped c.close.ensures.tells c.close.ensures.later;
      asked = (c.prepare_map.ensures.prepares command kept).asked;
      spends = order_spends command _ _ _ _ _ (stop_spends (IsGenerating command) c.in-Err.stop _ _ _ _ _ c.close.ensures.tells c.prepare_map.ensures.steps.bounded);
      by_trace = fits_to_end command c.args.config.now (g.F.Folder.state c.args.folder.now).holds _ _ (map_opening command c.args.keeps c.args.config.now (g.F.Folder.state c.args.folder.now).holds _ _ kept) c.prepare_map.ensures.to_end;
    }
