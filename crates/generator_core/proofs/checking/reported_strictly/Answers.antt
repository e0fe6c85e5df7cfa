use Rattle.std.proofs.Common.{subst, arith}
use Rattle.std.specs.Prelude.{OnOk}
use Rattle.generator_core.specs.Strictness.{PushesStrict, StandBehind}
use Rattle.generator_core.proofs.ReportLemmas.{told_strictly}
use Rattle.generator_core.proofs.checking.reported_strictly.Goals as goal

pub returns-in-Err-clause-reports : goal.returns-in-Err-clause-reports
returns-in-Err-clause-reports g c =
    let all = c.args.trace.now.gathered in
    record {
      told = tt;
      stopped = (subst (PushesStrict all c.args.lines c.push_strict.new.lines) c.in-Err.is c.push_strict.ensures.pushes).stopped;
      few = c.push_strict.ensures.few;
    }

pub returns-in-Err-clause-cost : goal.returns-in-Err-clause-cost
returns-in-Err-clause-cost g c =
    let few = c.push_strict.ensures.few in
    let cost = c.push_strict.ensures.cost in
    omega (arith, few, cost)

pub returns-clause-reports : goal.returns-clause-reports
returns-clause-reports g c =
    let all = c.args.trace.now.gathered in
    told_strictly all c.args.lines c.push_strict.new.lines c.reported.result
    (subst (λ r. OnOk r (StandBehind all c.args.lines c.push_strict.new.lines)) c.in-Ok.is c.push_strict.ensures.pushes.pushed)
    c.push_strict.ensures.few c.reported.ensures
