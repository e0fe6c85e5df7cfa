use Rattle.std.proofs.Common.{◌≡◌, length}
use Rattle.page_spec.specs.Attributes.{skip_whitespace}
use Rattle.html_scan.proofs.names.skip_whitespace.Given as goal

abbrev pub invariant-loop-b : goal.invariant-loop-b
invariant-loop-b l = skip_whitespace l.bytes ≡ skip_whitespace l.rest

abbrev pub decreases-loop-b : goal.decreases-loop-b
decreases-loop-b l = length l.rest
