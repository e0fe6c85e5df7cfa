use Rattle.std.proofs.Common.{subst}
use Rattle.generator_core.specs.Measuring.{RunsMeasure, Measures}
use Rattle.generator_core.proofs.Measurings.{runs_measure, stops_measure}
use Rattle.generator_core.proofs.running.measure.Goals as goal

pub returns-in-Ok : goal.returns-in-Ok
returns-in-Ok g c =
    subst (λ n. RunsMeasure n (g.O.Sink.state c.args.out.now) (g.O.Sink.state c.tell_measure.new.out) c.tell_measure.result c.args.steps.now c.measured.new.steps) c.narrow-count.ensures
    (runs_measure c.narrow-count.result _ _ _ _ _ c.in-Ok.generated (subst (Measures c.narrow-count.result) c.in-Ok.is c.measured.ensures.measures) c.tell_measure.ensures.tells c.tell_measure.ensures.later (rw c.in-Ok.is at c.measured.ensures.steps))

pub returns-in-Err : goal.returns-in-Err
returns-in-Err g c =
    subst (λ n. RunsMeasure n (g.O.Sink.state c.args.out.now) (g.O.Sink.state c.close.new.out) c.close.result c.args.steps.now c.measured.new.steps) c.narrow-count.ensures
    (stops_measure c.narrow-count.result _ _ _ _ _ c.in-Err.stop (subst (Measures c.narrow-count.result) c.in-Err.is c.measured.ensures.measures) c.close.ensures.tells c.close.ensures.later c.measured.ensures.steps.bounded)
