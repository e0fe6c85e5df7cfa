use Rattle.tree_spec.specs.LookAskings.{look_at_each}
use Rattle.package_lookup.specs.Lookups.{state_of}
use Rattle.package_lookup.specs.declared.fault.LookupFault.TheVariants.{Memory}
use Rattle.package_lookup.proofs.Questions.{looked_err, no_memory_now}
use Rattle.kept_answers.specs.KnownLooks.{done}
use Rattle.kept_answers.proofs.looks.looks_of.Goals as goal

pub returns-in_err-paths-clause-answered : goal.returns-in_err-paths-clause-answered
returns-in_err-paths-clause-answered g c =
    looked_err done _ _ (look_at_each c.args.lookup.now.trail.now.question) c.from_residual.result Memory c.from_residual.ensures.1
    (no_memory_now (state_of g.F.Folder.state c.args.lookup.now)
    (look_at_each c.args.lookup.now.trail.now.question))
