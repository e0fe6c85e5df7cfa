use Rattle.std.proofs.Common.{◌+◌, refl, sym, ◌∙◌, arith}
use Rattle.std.proofs.lemmas.List.{take_all, length-drop}
use Rattle.condition_match.proofs.SegmentLemmas.{cut_at, uncut}
use Rattle.condition_match.proofs.segments.cut_segment.Goals as goal

pub returns-then-is_separator : goal.returns-then-is_separator
returns-then-is_separator c =
    cut_at c.args.text.now _ _ c.loop-at.at c.loop-at-test.true refl (take_all _ _ (omega (arith, length-drop (c.loop-at.at + 1) c.args.text.now))) c.loop-at.invariant (sym c.is_separator.ensures ∙ c.if-is_separator.true)

pub returns : goal.returns
returns c = uncut c.args.text.now (λ k below. c.loop-at.invariant k (omega arith))
