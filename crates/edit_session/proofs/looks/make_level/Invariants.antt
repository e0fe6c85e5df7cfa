use Rattle.std.proofs.Common.{length}
use Rattle.edit_session.specs.Agreement.{AgreeBut}
use Rattle.edit_session.proofs.looks.make_level.Given as goal

abbrev pub invariant-loop-path : goal.invariant-loop-path
invariant-loop-path l = AgreeBut l.rest l.fn.laid l.over × AgreeBut l.fn.changed l.fn.laid l.over

abbrev pub decreases-loop-path : goal.decreases-loop-path
decreases-loop-path l = length l.rest
