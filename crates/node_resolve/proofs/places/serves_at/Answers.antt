use Rattle.std.proofs.Common.{subst}
use Rattle.url_spec.specs.FileUrls.{IsPlace}
use Rattle.package_lookup.specs.SeenLooks.{entry_of}
use Rattle.node_resolve.proofs.PlaceLemmas.{serves_nameless, serves_seen, serves_unseen}
use Rattle.node_resolve.proofs.places.serves_at.Goals as goal

pub returns-in-None-clause-answered : goal.returns-in-None-clause-answered
returns-in-None-clause-answered g c = λ url is.
    serves_nameless _ url c.args.place.folder_only c.args.place.escaped c.args.place.suffix
    (subst (λ p. IsPlace url p c.args.place.folder_only c.args.place.escaped c.args.place.suffix) c.in-None.is is)

pub returns-in-Err-clause-answered : goal.returns-in-Err-clause-answered
returns-in-Err-clause-answered g c = λ url is.
    serves_unseen _ _ url c.in-Some.path c.args.place.folder_only c.args.place.escaped c.args.place.suffix
    (subst (λ p. IsPlace url p c.args.place.folder_only c.args.place.escaped c.args.place.suffix) c.in-Some.is is)
    c.in-Err.fault (rw c.in-Err.is at c.look.ensures.answered)

pub returns-clause-answered : goal.returns-clause-answered
returns-clause-answered g c = λ url is.
    serves_seen _ _ url c.in-Some.path c.args.place.folder_only c.args.place.escaped c.args.place.suffix
    (subst (λ p. IsPlace url p c.args.place.folder_only c.args.place.escaped c.args.place.suffix) c.in-Some.is is)
    (entry_of c.in-Ok.seen) c.is_served.result c.is_served.ensures (rw c.in-Ok.is at c.look.ensures.answered)
