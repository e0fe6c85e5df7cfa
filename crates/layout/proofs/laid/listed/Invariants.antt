use Rattle.std.proofs.Common.{◌≡◌, ◌++◌, map}
use Rattle.std.specs.Prelude.{All}
use Rattle.scope_builder.specs.Keys.{InKeyOrder}
use Rattle.layout.specs.Grouped.{listed_scope}
use Rattle.layout.proofs.laid.listed.Given as goal

abbrev pub invariant-loop-place : goal.invariant-loop-place
invariant-loop-place l =
    (goal.iterator-loop-place).can_next l.place-iterator
    × (goal.iterator-loop-place).is_finite l.place-iterator
    × (l.scopes ++ map listed_scope l.place-iterator ≡ map listed_scope l.fn.grouped.entries)
    × All (λ scope. InKeyOrder scope.1) l.scopes
