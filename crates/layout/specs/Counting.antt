-- The number of mappings of the lists that stand for a map.
use Rattle.std.specs.Prelude.{ℕ, ◌+◌, length}
use Rattle.std.specs.List.{sum_by}
use Rattle.scope_builder.specs.declared.keyed.Layout.{Layout}

abbrev pub listed_count : Layout → ℕ
listed_count layout = length layout.imports + sum_by (λ scope. length scope.1) layout.scopes
