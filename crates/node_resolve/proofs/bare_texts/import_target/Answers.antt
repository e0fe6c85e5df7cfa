use Rattle.package_lookup.proofs.Questions.{then_given}
use Rattle.package_lookup.specs.Responses.{itself}
use Rattle.node_spec.specs.PackageTargetResolve.{came, target_url}
use Rattle.node_spec.specs.declared.Cause.TheVariants.{ImportNotDefined}
use Rattle.node_resolve.specs.BareTexts.{last_shown}
use Rattle.node_resolve.proofs.Answering.{now_comes}
use Rattle.node_resolve.proofs.BareLemmas.{chosen_fails}
use Rattle.node_resolve.proofs.bare_texts.import_target.Goals as goal

pub returns-in-Err-clause-answered : goal.returns-in-Err-clause-answered
returns-in-Err-clause-answered g c = λ given comes.
    chosen_fails _ _ _ (target_url c.args.package_folder.now ImportNotDefined) c.in-Err.fault
    (rw c.in-Err.is at (c.chosen.ensures.answered given comes))

pub returns-in-Ok-clause-answered : goal.returns-in-Ok-clause-answered
returns-in-Ok-clause-answered g c = λ given comes.
    then_given _ _ _ _ (target_url c.args.package_folder.now ImportNotDefined)
    (came c.in-Ok.outcome (last_shown c.chosen.new.last)) _ (rw c.in-Ok.is at (c.chosen.ensures.answered given comes))
    (now_comes itself _ _ c.url_of.result c.url_of.ensures)
