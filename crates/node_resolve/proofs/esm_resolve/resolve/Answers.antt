use Rattle.node_spec.specs.EsmResolve.{specifier_url, judged}
use Rattle.node_resolve.proofs.Answering.{resolved_fails, then_ok}
use Rattle.node_resolve.proofs.esm_resolve.resolve.Goals as goal

pub returns-in-Err-clause-answered : goal.returns-in-Err-clause-answered
returns-in-Err-clause-answered g c =
    resolved_fails _ _ (specifier_url c.args.conditions.now c.args.parent.now c.args.specifier.now) judged c.in-Err.fault
    (rw (c.in-Err.is, c.begin.ensures) at c.specifier_url.ensures.answered)

pub returns-in-Ok-clause-answered : goal.returns-in-Ok-clause-answered
returns-in-Ok-clause-answered g c =
    then_ok _ _ _ (specifier_url c.args.conditions.now c.args.parent.now c.args.specifier.now) judged c.in-Ok.url _
    (rw (c.in-Ok.is, c.begin.ensures) at c.specifier_url.ensures.answered) c.found_at.ensures.answered
