use Rattle.std.proofs.Common.{◌≡◌, length}
use Rattle.page_spec.specs.Attributes.{behind}
use Rattle.html_scan.specs.Fronts.{test_of}
use Rattle.html_scan.proofs.runs.behind.Given as goal

abbrev pub invariant-loop-b : goal.invariant-loop-b
invariant-loop-b l = behind (test_of l.end) l.bytes ≡ behind (test_of l.end) l.rest

abbrev pub decreases-loop-b : goal.decreases-loop-b
decreases-loop-b l = length l.rest
