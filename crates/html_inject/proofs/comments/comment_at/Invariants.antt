use Rattle.std.proofs.Common.{◌≡◌, ◌+◌, length}
use Rattle.page_spec.specs.Faults.{comment_at}
use Rattle.html_inject.proofs.comments.comment_at.Given as goal

abbrev pub invariant-loop-b : goal.invariant-loop-b
invariant-loop-b l = (comment_at l.from l.bytes ≡ comment_at l.at l.rest) × (l.at + length l.rest ≡ l.to)

abbrev pub decreases-loop-b : goal.decreases-loop-b
decreases-loop-b l = length l.rest
