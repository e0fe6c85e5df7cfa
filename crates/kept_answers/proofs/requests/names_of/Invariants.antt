use Rattle.std.proofs.Common.{◌≡◌, take}
use Rattle.kept_answers.proofs.requests.names_of.Given as goal

abbrev pub invariant-loop-index : goal.invariant-loop-index
invariant-loop-index l = l.names ≡ take l.index l.fn.conditions
