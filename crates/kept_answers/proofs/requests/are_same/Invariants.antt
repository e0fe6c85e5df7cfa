use Rattle.std.proofs.Common.{◌≡◌, take}
use Rattle.kept_answers.proofs.requests.are_same.Given as goal

abbrev pub invariant-loop-index : goal.invariant-loop-index
invariant-loop-index l = take l.index l.fn.names ≡ take l.index l.fn.conditions
