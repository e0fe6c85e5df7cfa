use Rattle.std.proofs.Common.{◌≡◌, length}
use Rattle.page_spec.specs.Pieces.{behind_raw}
use Rattle.html_scan.proofs.front.behind_raw.Given as goal

abbrev pub invariant-loop-b : goal.invariant-loop-b
invariant-loop-b l = behind_raw l.element l.bytes ≡ behind_raw l.element l.rest

abbrev pub decreases-loop-b : goal.decreases-loop-b
decreases-loop-b l = length l.rest
