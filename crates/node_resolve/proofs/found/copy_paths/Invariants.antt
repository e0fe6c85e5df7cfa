use Rattle.std.proofs.Common.{◌≡◌, take}
use Rattle.node_resolve.proofs.found.copy_paths.Given as goal

abbrev pub invariant-loop-path : goal.invariant-loop-path
invariant-loop-path l = l.copy ≡ take l.path-index l.fn.paths
