use Rattle.std.proofs.Common.{rules}
use Rattle.map_print.proofs.PrintedParts.{line_more}
use Rattle.map_print.proofs.print.push_line.Goals as goal

pub loop-preserved : goal.loop-preserved
loop-preserved c = line_more c.loop.counter c.loop.invariant (search rules)
