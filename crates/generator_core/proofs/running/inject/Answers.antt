use Rattle.std.proofs.Common.{subst}
use Rattle.std.specs.Prelude.{⊤}
use Rattle.config_spec.specs.declared.Command.TheVariants.{Inject}
use Rattle.generator_core.specs.Preparing.{Prepares}
use Rattle.generator_core.proofs.Endings.{stop_end, write_end, stop_spends, done_spends, order_spends}
use Rattle.generator_core.proofs.Preparings.{still_few}
use Rattle.generator_core.proofs.StepsByTrace.{fits_to_end}
use Rattle.generator_core.proofs.running.inject.Goals as goal

pub returns-in-Ok : goal.returns-in-Ok
returns-in-Ok g c = record {
  end = λ words is_config. write_end words Inject c.args.config.now _ _ _ _ _ _ c.in-Ok.prepared tt is_config (subst (λ r. Prepares Inject c.args.config.now (g.F.Folder.state c.args.folder.now) r (g.F.Folder.state c.prepare_page.new.folder)) c.in-Ok.is c.prepare_page.ensures.prepares).ready c.finish.ensures;
  asked = still_few Inject c.args.config.now (g.F.Folder.state c.args.folder.now).holds _ (g.F.Folder.state c.prepare_page.new.folder) _ c.finish.ensures.asked c.prepare_page.ensures.prepares.asked;
  spends = order_spends Inject _ _ _ _ _ (done_spends c.in-Ok.prepared _ _ _ _ _ _ _ c.finish.ensures (rw c.in-Ok.is at c.prepare_page.ensures.steps));
  by_trace = fits_to_end Inject c.args.config.now (g.F.Folder.state c.args.folder.now).holds _ _ c.prepare_page.ensures.opened c.prepare_page.ensures.to_end;
}

pub returns-in-Err : goal.returns-in-Err
returns-in-Err g c = record {
  end = λ words is_config. stop_end words Inject c.args.config.now _ _ _ _ _ is_config c.in-Err.stop (subst (λ r. Prepares Inject c.args.config.now (g.F.Folder.state c.args.folder.now) r (g.F.Folder.state c.prepare_page.new.folder)) c.in-Err.is c.prepare_page.ensures.prepares).stopped c.close.ensures.tells c.close.ensures.later;
  asked = c.prepare_page.ensures.prepares.asked;
  spends = order_spends Inject _ _ _ _ _ (stop_spends ⊤ c.in-Err.stop _ _ _ _ _ c.close.ensures.tells c.prepare_page.ensures.steps.bounded);
  by_trace = fits_to_end Inject c.args.config.now (g.F.Folder.state c.args.folder.now).holds _ _ c.prepare_page.ensures.opened c.prepare_page.ensures.to_end;
}
