use Rattle.std.proofs.Common.{◌≡◌, take}
use Rattle.kept_answers.proofs.looks.copy_of.Given as goal

abbrev pub invariant-loop-path : goal.invariant-loop-path
invariant-loop-path l = l.copy ≡ take l.path-index l.fn.paths
