use Rattle.asking_spec.specs.Askings.{answered}
use Rattle.package_lookup.specs.SeenLooks.{entry_of}
use Rattle.package_lookup.specs.declared.fault.LookupFault.TheVariants.{Memory}
use Rattle.package_lookup.proofs.Questions.{looked_err, unfinished}
use Rattle.tree_spec.specs.LookAskings.{look_at}
use Rattle.trace_spec.specs.Questions.{read_module, by_entry}
use Rattle.module_sources.specs.Shown.{source_in}
use Rattle.module_sources.proofs.SourceAnswers.{look_fails, look_given}
use Rattle.module_sources.proofs.reading.read_module.Goals as goal

pub returns-in-Err-clause-answered : goal.returns-in-Err-clause-answered
returns-in-Err-clause-answered g c =
    look_fails _ _ c.args.path.now c.args.is_detected c.in-Err.fault (rw c.in-Err.is at c.look.ensures.answered)

pub returns-in_ok-source_seen-in-Ok-clause-answered : goal.returns-in_ok-source_seen-in-Ok-clause-answered
returns-in_ok-source_seen-in-Ok-clause-answered g c =
    look_given _ _ c.args.path.now c.args.is_detected (entry_of c.in-Ok.seen) _ c.in_ok-source_seen-in-Ok.ensures.source
    (rw c.in-Ok.is at c.look.ensures.answered)

pub returns-in_err-source_seen-in-Ok-clause-answered : goal.returns-in_err-source_seen-in-Ok-clause-answered
returns-in_err-source_seen-in-Ok-clause-answered g c =
    looked_err source_in _ _ (read_module c.args.is_detected c.args.path.now) c.from_residual.result Memory
    c.from_residual.ensures.1
    (unfinished _ _ (look_at c.args.path.now) (λ found. answered (by_entry c.args.is_detected found)) (entry_of c.in-Ok.seen)
    (rw c.in-Ok.is at c.look.ensures.answered))
