use Rattle.std.proofs.Common.{refl}
use Rattle.es_module_parser.specs.Outlines.{as_outline}
use Rattle.es_grammar.proofs.Sayings.{nothing_on, match_on, by_miss, by_fault, by_depth}
use Rattle.es_grammar.proofs.saying.answer.Goals as goal

pub returns-in-Nothing : goal.returns-in-Nothing
returns-in-Nothing c =
    nothing_on c.args.text.now c.args.spots.now (as_outline c.args.outline.now) c.args.asked.now c.args.told
    c.compared.result c.new.result c.in-Nothing.is c.new.ensures c.compared.ensures

pub returns-in_ok-requests_at-in-Matches : goal.returns-in_ok-requests_at-in-Matches
returns-in_ok-requests_at-in-Matches c =
    match_on c.args.text.now c.args.spots.now (as_outline c.args.outline.now) c.args.asked.now c.args.told
    c.compared-in-Matches.result c.in_ok-requests_at-in-Matches.field-0 c.in-Matches.is
    c.in_ok-requests_at-in-Matches.ensures c.compared-in-Matches.ensures

pub returns-in-Misses : goal.returns-in-Misses
returns-in-Misses c =
    by_miss c.args.text.now c.args.spots.now (as_outline c.args.outline.now) c.args.asked.now c.args.told _
    c.place_of.result c.in-Misses.is c.place_of.ensures refl

pub returns-in-Faults : goal.returns-in-Faults
returns-in-Faults c =
    by_fault c.args.text.now c.args.spots.now (as_outline c.args.outline.now) c.args.asked.now c.args.told _
    c.in-Faults.at c.place_of-in-Faults.result c.in-Faults.is c.place_of-in-Faults.ensures refl

pub returns-in-TooDeep : goal.returns-in-TooDeep
returns-in-TooDeep c =
    by_depth c.args.text.now c.args.spots.now (as_outline c.args.outline.now) c.args.asked.now c.args.told _
    c.in-TooDeep.is refl
