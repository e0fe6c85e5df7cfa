use Rattle.std.proofs.Common.{◌≡◌, take}
use Rattle.std.specs.List.{sum_by}
use Rattle.map_print.specs.LeastSizes as definition
use Rattle.map_print.proofs.least_size.scopes_least.Given as goal

abbrev pub invariant-loop-scope : goal.invariant-loop-scope
invariant-loop-scope l = l.size ≡ sum_by (definition.scope_least l.fn.folder) (take l.scope-index l.fn.scopes)
