use Rattle.std.proofs.Common.{subst}
use Rattle.config_spec.specs.declared.Command.TheVariants.{List as ListModules}
use Rattle.generator_spec.specs.Ending.{Ends}
use Rattle.generator_core.specs.Listing.{Lists}
use Rattle.generator_core.proofs.Listings.{list_ends}
use Rattle.generator_core.proofs.Endings.{stop_end, order_spends}
use Rattle.generator_core.proofs.StepsByTrace.{fits_to_end, list_opening}
use Rattle.generator_core.proofs.running.list.Goals as goal

pub returns-in-Ok : goal.returns-in-Ok
returns-in-Ok g c = record {
  end = λ words is_config. list_ends words c.args.config.now _ _ _ _ _ c.in-Ok.report is_config (subst (λ r. Lists c.args.config.now (g.F.Folder.state c.args.folder.now) r (g.F.Folder.state c.listed.new.folder)) c.in-Ok.is c.listed.ensures.lists).listed (subst (λ text. Ends c.in-Ok.report.status text (g.O.Sink.state c.args.out.now) (g.O.Sink.state c.tell.new.out) c.tell.result) c.as_slice.ensures.value c.tell.ensures.ends) c.tell.ensures.later;
  asked = c.listed.ensures.lists.asked;
  spends = order_spends ListModules _ _ _ _ _ (record { told = λ none. absurd none; bounded = c.listed.ensures.bounded });
  by_trace = fits_to_end ListModules c.args.config.now (g.F.Folder.state c.args.folder.now).holds _ _ (list_opening c.args.config.now (g.F.Folder.state c.args.folder.now).holds _ _) c.listed.ensures.to_end;
}

pub returns-in-Err : goal.returns-in-Err
returns-in-Err g c = record {
  end = λ words is_config. stop_end words ListModules c.args.config.now _ _ _ _ _ is_config c.in-Err.stop (subst (λ r. Lists c.args.config.now (g.F.Folder.state c.args.folder.now) r (g.F.Folder.state c.listed.new.folder)) c.in-Err.is c.listed.ensures.lists).stopped c.close.ensures.tells c.close.ensures.later;
  asked = c.listed.ensures.lists.asked;
  spends = order_spends ListModules _ _ _ _ _ (record { told = λ none. absurd none; bounded = c.listed.ensures.bounded });
  by_trace = fits_to_end ListModules c.args.config.now (g.F.Folder.state c.args.folder.now).holds _ _ (list_opening c.args.config.now (g.F.Folder.state c.args.folder.now).holds _ _) c.listed.ensures.to_end;
}
