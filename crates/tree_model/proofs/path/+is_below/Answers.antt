use Rattle.std.proofs.Common.{◌≡◌, true}
use Rattle.tree_model.proofs.Segments.{none_below, segment_below, below_first, below_more, back_below, none_test, some_test}
use Rattle.tree_model.proofs.path.+is_below.Goals as goal

pub returns-in-None : goal.returns-in-None
returns-in-None t c = ((λ f. cc), (λ below. absurd (none_below _ _ c.in-None.ensures below)))

pub returns-then-not-is_segment : goal.returns-then-not-is_segment
returns-then-not-is_segment t c =
    ((λ f. cc), (λ below. let found : c.is_segment.result ≡ true = c.is_segment.ensures.1 (segment_below _ _ _ _ c.in-Some.ensures.0 c.in-Some.ensures.1 below) in cc))

pub returns-then-is_empty : goal.returns-then-is_empty
returns-then-is_empty t c =
    let segment : c.is_segment.result ≡ true = cc in
    ((λ f. below_first _ _ _ _ c.if-most-gt0.true (none_test _ _ c.is_empty.ensures c.if-is_empty.true) (c.is_segment.ensures.0 segment) c.in-Some.ensures.0), (λ below. c.if-is_empty.true))

pub returns-else-is_empty : goal.returns-else-is_empty
returns-else-is_empty t c =
    let segment : c.is_segment.result ≡ true = cc in (
      (λ f. below_more _ _ _ _ c.if-most-gt0.true (c.is_below.ensures.0 f) (c.is_segment.ensures.0 segment) c.in-Some.ensures.0),
      (λ below. c.is_below.ensures.1 (back_below _ _ _ _ c.in-Some.ensures.0 c.in-Some.ensures.1 (some_test _ _ c.is_empty.ensures c.if-is_empty.false) below)),
    )
