use Rattle.std.proofs.Common.{◌≤◌, length}
use Rattle.map_parse.proofs.text_map.common_blocks.Given as goal

abbrev pub invariant-loop-left : goal.invariant-loop-left
invariant-loop-left l = length l.left ≤ length l.one

abbrev pub decreases-loop-left : goal.decreases-loop-left
decreases-loop-left l = length l.left
