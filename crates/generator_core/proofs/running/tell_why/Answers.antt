use Rattle.std.proofs.Common.{subst}
use Rattle.config_spec.specs.declared.Command.TheVariants.{Why}
use Rattle.generator_spec.specs.Ending.{Ends}
use Rattle.generator_core.specs.Explaining.{ExplainsFile}
use Rattle.generator_core.proofs.Endings.{stop_end}
use Rattle.generator_core.proofs.Explainings.{why_ends}
use Rattle.generator_core.proofs.StepsByTrace.{fits_to_end, why_opening}
use Rattle.generator_core.proofs.running.tell_why.Goals as goal

pub returns-in-Ok : goal.returns-in-Ok
returns-in-Ok g c = record {
  end = λ words asks is_config. why_ends words c.args.path.now c.args.config.now _ _ _ _ _ c.in-Ok.report asks is_config (subst (λ r. ExplainsFile c.args.path.now c.args.config.now (g.F.Folder.state c.args.folder.now) r (g.F.Folder.state c.explained.new.folder)) c.in-Ok.is c.explained.ensures.explains).explained (subst (λ text. Ends c.in-Ok.report.status text (g.O.Sink.state c.args.out.now) (g.O.Sink.state c.tell.new.out) c.tell.result) c.as_slice.ensures.value c.tell.ensures.ends) c.tell.ensures.later;
  asked = c.explained.ensures.explains.asked;
  spends = record { told = λ none. absurd none; bounded = c.explained.ensures.bounded };
  by_trace = fits_to_end Why c.args.config.now (g.F.Folder.state c.args.folder.now).holds _ _ (why_opening c.args.config.now (g.F.Folder.state c.args.folder.now).holds _ _) c.explained.ensures.to_end;
}

pub returns-in-Err : goal.returns-in-Err
returns-in-Err g c = record {
  end = λ words asks is_config. stop_end words Why c.args.config.now _ _ _ _ _ is_config c.in-Err.stop (subst (λ r. ExplainsFile c.args.path.now c.args.config.now (g.F.Folder.state c.args.folder.now) r (g.F.Folder.state c.explained.new.folder)) c.in-Err.is c.explained.ensures.explains).stopped c.close.ensures.tells c.close.ensures.later;
  asked = c.explained.ensures.explains.asked;
  spends = record { told = λ none. absurd none; bounded = c.explained.ensures.bounded };
  by_trace = fits_to_end Why c.args.config.now (g.F.Folder.state c.args.folder.now).holds _ _ (why_opening c.args.config.now (g.F.Folder.state c.args.folder.now).holds _ _) c.explained.ensures.to_end;
}
