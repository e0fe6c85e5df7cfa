use Rattle.std.proofs.Common.{◌≡◌, length, reverse}
use Rattle.page_spec.specs.Attributes.{skip_whitespace}
use Rattle.html_inject.proofs.import_maps.without_last_whitespace.Given as goal

abbrev pub invariant-loop-b : goal.invariant-loop-b
invariant-loop-b l = reverse (skip_whitespace (reverse l.bytes)) ≡ reverse (skip_whitespace (reverse l.rest))

abbrev pub decreases-loop-b : goal.decreases-loop-b
decreases-loop-b l = length l.rest
