use Rattle.std.proofs.Common.{◌≡◌, [], length}
use Rattle.tree_spec.specs.LookAskings.{noted}
use Rattle.package_lookup.proofs.question.Noted.of.Given as goal

abbrev pub invariant-loop-path : goal.invariant-loop-path
invariant-loop-path l = noted l.own l.rest ≡ noted [] l.fn.paths

abbrev pub decreases-loop-path : goal.decreases-loop-path
decreases-loop-path l = length l.rest
