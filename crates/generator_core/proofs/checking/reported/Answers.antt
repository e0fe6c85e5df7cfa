use Rattle.std.proofs.Common.{length, ap, subst, refl, ◌∙◌}
use Rattle.generator_core.specs.Checking.{IsReportOf}
use Rattle.generator_core.proofs.checking.reported.Goals as goal

pub returns-in-Err : goal.returns-in-Err
returns-in-Err c = record { told = tt; stopped = refl }

pub returns-in-Ok : goal.returns-in-Ok
returns-in-Ok c = record {
  told = subst (λ n. IsReportOf n c.args.lines.now c.in-Ok.report) (c.len.ensures.len ∙ ap length c.needs.ensures.needs) c.in-Ok.ensures;
  stopped = tt;
}
