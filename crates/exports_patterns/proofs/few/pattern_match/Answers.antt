use Rattle.std.proofs.Common.{refl, rules}
use Rattle.node_spec.proofs.PatternParts.{no_pattern_match}
use Rattle.exports_patterns.proofs.KeyLemmas.{is_pattern_match, span_of_pattern}
use Rattle.exports_patterns.proofs.few.pattern_match.Goals as goal

pub returns-in-None-clause-matches : goal.returns-in-None-clause-matches
returns-in-None-clause-matches c = λ name p. no_pattern_match c.args.asked.now name c.args.base.now c.args.trailer.now p c.in-None.ensures

pub returns-in-Some-clause-matches : goal.returns-in-Some-clause-matches
returns-in-Some-clause-matches c = λ name p. (refl, is_pattern_match c.args.asked.now name c.args.base.now c.args.trailer.now c.in-Some.ensures.0 c.args.index c.in-Some.to p c.in-Some.ensures.1 c.in-Some.ensures.2 c.in-Some.ensures.3)

pub returns-in-Some-clause-span : goal.returns-in-Some-clause-span
returns-in-Some-clause-span c = span_of_pattern c.args.asked.now c.args.base.now c.args.trailer.now c.in-Some.ensures.0 c.args.index c.in-Some.to (search rules) (search rules) (search rules) c.in-Some.ensures.1 c.in-Some.ensures.3
