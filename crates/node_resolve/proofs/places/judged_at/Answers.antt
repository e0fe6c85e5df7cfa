use Rattle.std.proofs.Common.{subst}
use Rattle.url_spec.specs.FileUrls.{IsPlace}
use Rattle.package_lookup.specs.SeenLooks.{entry_of}
use Rattle.node_resolve.specs.Places.{module_at}
use Rattle.node_resolve.specs.Responses.{responded}
use Rattle.node_resolve.proofs.PlaceLemmas.{judged_escaped, judged_nameless, judged_seen, judged_unseen}
use Rattle.node_resolve.proofs.places.judged_at.Goals as goal

pub returns-then-escaped-clause-answered : goal.returns-then-escaped-clause-answered
returns-then-escaped-clause-answered g c = λ url is.
    judged_escaped _ url c.args.place.path c.args.place.folder_only c.args.place.escaped c.args.place.suffix is c.if-escaped.true

pub returns-in-None-clause-answered : goal.returns-in-None-clause-answered
returns-in-None-clause-answered g c = λ url is.
    judged_nameless _ url c.args.place.folder_only c.args.place.escaped c.args.place.suffix
    (subst (λ p. IsPlace url p c.args.place.folder_only c.args.place.escaped c.args.place.suffix) c.in-None.is is) c.if-escaped.false

pub returns-in-Err-clause-answered : goal.returns-in-Err-clause-answered
returns-in-Err-clause-answered g c = λ url is.
    judged_unseen _ _ url c.in-Some.path c.args.place.folder_only c.args.place.escaped c.args.place.suffix
    (subst (λ p. IsPlace url p c.args.place.folder_only c.args.place.escaped c.args.place.suffix) c.in-Some.is is) c.if-escaped.false
    c.in-Err.fault c.behind.result c.behind.ensures (rw c.in-Err.is at c.look.ensures.answered)

pub returns-in-Ok-clause-answered : goal.returns-in-Ok-clause-answered
returns-in-Ok-clause-answered g c = λ url is.
    judged_seen _ _ url c.in-Some.path c.args.place.folder_only c.args.place.escaped c.args.place.suffix
    (subst (λ p. IsPlace url p c.args.place.folder_only c.args.place.escaped c.args.place.suffix) c.in-Some.is is) c.if-escaped.false
    (entry_of c.in-Ok.seen) (responded module_at c.module_of.result) (rw c.in-Ok.is at c.look.ensures.answered)
    c.module_of.ensures
