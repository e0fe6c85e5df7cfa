-- The number of mappings of a map.
--     mapping_count map      how many mappings its imports and its scopes have
use Rattle.std.specs.FinMap.{entries, len}
use Rattle.std.specs.List.{sum_by}
use Rattle.std.specs.Prelude.{ℕ, ◌+◌}
use Rattle.import_map_spec.specs.ParsedMap.{ParsedMap}

-- own: the mappings of the imports and of each scope, where one in two scopes counts twice
abbrev pub mapping_count : ParsedMap → ℕ
mapping_count m = len m.imports + sum_by (λ scope. len scope.1) (entries m.scopes)
