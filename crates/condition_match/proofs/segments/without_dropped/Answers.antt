use Rattle.std.proofs.Common.{sym, ◌∙◌, arith}
use Rattle.condition_match.proofs.SegmentLemmas.{byte_kept, all_kept}
use Rattle.condition_match.proofs.segments.without_dropped.Goals as goal

pub loop-byte-preserved : goal.loop-byte-preserved
loop-byte-preserved c =
    byte_kept c.args.text.now c.loop-byte.kept.items _ _ c.loop-byte.byte-index c.loop-byte-test.true (sym c.is_dropped.ensures ∙ c.if-is_dropped.false) c.in_ok-push.ensures.items c.loop-byte.invariant

pub returns : goal.returns
returns c = all_kept c.args.text.now c.loop-byte.kept.items _ c.loop-byte.byte-index (omega arith) c.loop-byte.invariant
