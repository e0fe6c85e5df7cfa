use Rattle.std.proofs.Common.{◌≡◌, ◌+◌, take, length}
use Rattle.std.specs.List.{sum_by}
use Rattle.layout.proofs.count.mappings.Given as goal

abbrev pub invariant-loop-scope : goal.invariant-loop-scope
invariant-loop-scope l = l.count ≡ length l.fn.layout.imports + sum_by (λ scope. length scope.1) (take l.scope-index l.scope-items)
