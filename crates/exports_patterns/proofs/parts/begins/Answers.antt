use Rattle.std.proofs.Common.{rules}
use Rattle.std.proofs.lemmas.Slice.Eq.{strip_prefix_is}
use Rattle.std.proofs.lemmas.Bool.Decides.{Decides-eqb}
use Rattle.exports_patterns.proofs.FrontLemmas.{starts_by}
use Rattle.exports_patterns.proofs.parts.begins.Goals as goal

pub returns : goal.returns
returns c =
    starts_by c.args.text.now c.args.front.now c.strip_prefix.result c.is_some.result
    (strip_prefix_is Decides-eqb c.args.text.now c.args.front.now c.strip_prefix.result c.strip_prefix.ensures.cases)
    (search rules)
