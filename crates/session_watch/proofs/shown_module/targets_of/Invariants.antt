use Rattle.std.proofs.Common.{◌≡◌, take}
use Rattle.session_watch.proofs.shown_module.targets_of.Given as goal

abbrev pub invariant-loop-request : goal.invariant-loop-request
invariant-loop-request l = l.targets ≡ take l.request l.module.targets
