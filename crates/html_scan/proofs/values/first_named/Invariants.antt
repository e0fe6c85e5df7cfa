use Rattle.std.proofs.Common.{◌≡◌, length}
use Rattle.page_spec.specs.declared.kinds.State.TheVariants.{TagOpen}
use Rattle.page_spec.specs.Attributes.{attributes, first_named}
use Rattle.html_scan.proofs.values.first_named.Given as goal

abbrev pub invariant-loop-b : goal.invariant-loop-b
invariant-loop-b l = first_named l.wanted (attributes TagOpen l.bytes) ≡ first_named l.wanted (attributes l.state l.rest)

abbrev pub decreases-loop-b : goal.decreases-loop-b
decreases-loop-b l = length l.rest
