use Rattle.std.proofs.Common.{◌≡◌, length}
use Rattle.page_spec.specs.Pieces.{tag_name, is_name}
use Rattle.html_scan.proofs.names.is_whole_name.Given as goal

abbrev pub invariant-loop-b : goal.invariant-loop-b
invariant-loop-b l = is_name l.wanted (tag_name l.bytes) ≡ is_name l.left (tag_name l.rest)

abbrev pub decreases-loop-b : goal.decreases-loop-b
decreases-loop-b l = length l.rest
