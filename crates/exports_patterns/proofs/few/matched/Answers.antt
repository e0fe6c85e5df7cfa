use Rattle.node_spec.proofs.PatternParts.{many_stars}
use Rattle.exports_patterns.proofs.few.matched.Goals as goal

pub returns-in-Some-at_star-clause-matches : goal.returns-in-Some-at_star-clause-matches
returns-in-Some-at_star-clause-matches c = many_stars c.args.asked.now c.args.name.now c.in-Some.base.now c.in-Some.trailer.now c.in-Some-at_star.field-0.0.now c.in-Some-at_star.field-0.1.now c.in-Some.ensures.0 c.in-Some.ensures.1 c.in-Some-at_star.ensures.0
