use Rattle.std.proofs.Common.{◌≡◌, length}
use Rattle.page_spec.specs.Pieces.{behind_text}
use Rattle.html_scan.proofs.front.behind_text.Given as goal

abbrev pub invariant-loop-b : goal.invariant-loop-b
invariant-loop-b l = behind_text l.bytes ≡ behind_text l.rest

abbrev pub decreases-loop-b : goal.decreases-loop-b
decreases-loop-b l = length l.rest
