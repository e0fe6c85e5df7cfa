use Rattle.std.proofs.Common.{length, ap, inl, inr, refl, arith}
use Rattle.slot_arena.proofs.Times.{below_or_not}
use Rattle.module_graph.proofs.WellMade.{span-past, span-next}
use Rattle.module_graph.proofs.module.Module.is_well_made.Goals as goal

pub loop-index-init : goal.loop-index-init
loop-index-init c = λ i lt. absurd (omega (arith, lt))

pub loop-index-preserved : goal.loop-index-preserved
loop-index-preserved c = λ i lt. span-next c.args.self.now c.loop-index.index i c.loop-index.invariant (c.has_span.ensures.0 c.if-not-has_span.false) lt

pub returns : goal.returns
returns c =
    let m = c.args.self.now in let last = c.loop-index.index in let same = ap length c.deref.ensures in (
      λ yes. record {
        one_each = omega (arith, same, c.len.ensures, c.len-count.ensures, c.if-len-count.false);
        inside = λ i. elim (below_or_not i last) [
          | inl lt ↦ c.loop-index.invariant i lt
          | inr past ↦ span-past m i (omega (arith, same, c.len-count.ensures, c.loop-index-test.false, past))
        ];
      },
      λ ok. refl,
    )
