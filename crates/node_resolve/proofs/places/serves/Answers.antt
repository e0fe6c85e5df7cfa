use Rattle.package_lookup.specs.Responses.{itself}
use Rattle.package_lookup.specs.declared.fault.LookupFault.TheVariants.{Memory}
use Rattle.package_lookup.proofs.Questions.{looked_err, no_memory_now}
use Rattle.node_resolve.proofs.PlaceLemmas.{serving}
use Rattle.node_resolve.proofs.places.serves.Goals as goal

pub returns-in_err-place-clause-answered : goal.returns-in_err-place-clause-answered
returns-in_err-place-clause-answered g c =
    looked_err itself _ _ (serving c.args.url.now) c.from_residual.result Memory c.from_residual.ensures.1
    (no_memory_now _ (serving c.args.url.now))

pub returns-clause-answered : goal.returns-clause-answered
returns-clause-answered g c = c.serves_at.ensures.answered c.args.url.now c.in_ok-place.ensures
