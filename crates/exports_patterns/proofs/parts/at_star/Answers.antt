use Rattle.std.proofs.Common.{arith}
use Rattle.std.proofs.lemmas.Str.Pattern.{split_parts}
use Rattle.exports_patterns.proofs.KeyLemmas.{star_parts}
use Rattle.exports_patterns.proofs.parts.at_star.Goals as goal

pub returns : goal.returns
returns c = star_parts c.args.text.now c.split_once.result (split_parts 42 c.args.text.now c.split_once.result c.split_once.ensures.cases (omega arith))
