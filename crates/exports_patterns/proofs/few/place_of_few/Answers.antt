use Rattle.std.proofs.Common.{Some, arith, sym, ap, ◌∙◌}
use Rattle.std.proofs.lemmas.Bool.{true≢false}
use Rattle.std.proofs.lemmas.Slice.Eq.{bytes_eq-Decides}
use Rattle.ordered_json.specs.Lists.{pairs_of}
use Rattle.exports_patterns.specs.Found.{keys_of}
use Rattle.exports_patterns.proofs.FewLemmas.{not_before, one_more_not, none_of_few}
use Rattle.exports_patterns.proofs.few.place_of_few.Goals as goal

pub returns-in_default : goal.returns-in_default
returns-in_default c = not_before (keys_of c.args.keys.now) c.args.asked.now c.loop-index.index c.in_default.ensures c.loop-index.invariant

pub returns-then-eq : goal.returns-then-eq
returns-then-eq c = c.in-Some.ensures ∙ ap Some ((bytes_eq-Decides c.in-Some.name.now c.args.asked.now).0 (sym c.eq.ensures ∙ c.if-eq.true))

pub loop-index-preserved : goal.loop-index-preserved
loop-index-preserved c =
    one_more_not (keys_of c.args.keys.now) c.args.asked.now c.in-Some.name.now c.loop-index.index c.in-Some.ensures
    (λ same. true≢false (sym ((bytes_eq-Decides c.in-Some.name.now c.args.asked.now).1 same) ∙ (sym c.eq.ensures ∙ c.if-eq.false)))
    c.loop-index.invariant

pub returns : goal.returns
returns c = none_of_few (pairs_of c.args.keys.now) c.args.asked.now c.loop-index.index (omega (arith, c.len-index-end.ensures)) c.loop-index.invariant
