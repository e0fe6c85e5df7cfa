use Rattle.std.proofs.Common.{sym, refl, length}
use Rattle.std.proofs.lemmas.Bool.{ltb-true}
use Rattle.std.proofs.lemmas.Option.{slice_get_past, slice_get_read}
use Rattle.es_grammar.proofs.Sayings.{put_none, put_pushed}
use Rattle.es_grammar.proofs.requests.put_request.Goals as goal

pub returns-in-None : goal.returns-in-None
returns-in-None c =
    put_none c.args.text.now c.args.spots.now c.args.at c.args.found.now
    (slice_get_past c.args.spots.now c.args.at c.in-None.ensures.lookup.3)

pub returns-in_ok-request_of-in-Some : goal.returns-in_ok-request_of-in-Some
returns-in_ok-request_of-in-Some c =
    let within = ltb-true c.args.at (length c.args.spots.now) (sym c.in-Some.ensures.lookup.0) in
    put_pushed c.args.text.now c.args.spots.now c.args.at c.push.result c.args.found.now c.push.new.self c.in-Some.spot.now
    c.in_ok-request_of-in-Some.field-0
    (slice_get_read c.args.spots.now (length c.args.spots.now) c.args.at c.in-Some.spot.now refl within c.in-Some.ensures.lookup.1)
    c.in_ok-request_of-in-Some.ensures c.push.ensures
