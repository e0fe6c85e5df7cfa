use Rattle.std.proofs.Common.{◌≡◌, take}
use Rattle.std.specs.List.{sum_by}
use Rattle.map_print.specs.LeastSizes as definition
use Rattle.map_print.proofs.least_size.pairs_least.Given as goal

abbrev pub invariant-loop-pair : goal.invariant-loop-pair
invariant-loop-pair l = l.size ≡ sum_by (definition.pair_least l.fn.folder) (take l.pair-index l.fn.pairs)
