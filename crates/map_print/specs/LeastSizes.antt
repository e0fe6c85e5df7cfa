-- How many bytes the printed lists have at least, whatever is escaped in them, and although a short form lacks the folder.
--     pair_least folder pair, scope_least folder scope      a mapping or a digest, and a scope with its mappings
--     map_least folder layout integrity      the whole map
use Rattle.std.specs.List.{sum_by}
use Rattle.std.specs.Prelude.{ℕ, ◌+◌, ◌-◌, List, length}
use Rattle.scope_builder.specs.declared.keyed.Layout.{Layout}

abbrev pub pair_least : ℕ → List ℕ × List ℕ → ℕ
pair_least folder pair = length pair.0 + (length pair.1 - folder)

abbrev pub scope_least : ℕ → List ℕ × List (List ℕ × List ℕ) → ℕ
scope_least folder scope = length scope.0 - folder + sum_by (pair_least folder) scope.1

abbrev pub map_least : ℕ → Layout → List (List ℕ × List ℕ) → ℕ
map_least folder layout integrity =
    sum_by (pair_least folder) layout.imports + sum_by (scope_least folder) layout.scopes
    + sum_by (pair_least folder) integrity
