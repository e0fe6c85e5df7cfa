use Rattle.std.proofs.Common.{refl, rules}
use Rattle.node_spec.proofs.PatternParts.{no_exact_match}
use Rattle.exports_patterns.proofs.FewLemmas.{is_exact_match}
use Rattle.exports_patterns.proofs.KeyLemmas.{span_of_key}
use Rattle.exports_patterns.proofs.few.exact_match.Goals as goal

pub returns-then-ne-clause-matches : goal.returns-then-ne-clause-matches
returns-then-ne-clause-matches c = no_exact_match c.args.asked.now c.args.name.now c.requires (search rules)

pub returns-clause-matches : goal.returns-clause-matches
returns-clause-matches c = (refl, is_exact_match c.args.asked.now c.args.name.now c.args.index c.requires (search rules))

pub returns-clause-span : goal.returns-clause-span
returns-clause-span c = span_of_key c.args.asked.now c.args.index (search rules)
