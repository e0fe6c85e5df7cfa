-- How lists stand for an import map.
--     Lists layout integrity m      the lists are the entries of the map m
use Rattle.std.specs.Prelude.{◌≡◌, ℕ, List, map, Option, Some}
use Rattle.std.specs.FinMap.{entries}
use Rattle.import_map_spec.specs.ParsedMap.{Addresses, ParsedMap}
use Rattle.scope_builder.specs.declared.keyed.Layout.{Layout}

-- a mapping as an entry of a module specifier map: its address is a URL, and never null
abbrev pub address_entry : List ℕ × List ℕ → List ℕ × Option (List ℕ)
address_entry mapping = (mapping.0, Some mapping.1)

-- a scope's key, with the entries of its map
abbrev pub scope_entries : List ℕ × Addresses → List ℕ × List (List ℕ × Option (List ℕ))
scope_entries scope = (scope.0, entries scope.1)

abbrev pub scope_entry : List ℕ × List (List ℕ × List ℕ) → List ℕ × List (List ℕ × Option (List ℕ))
scope_entry scope = (scope.0, map address_entry scope.1)

-- own: the lists are the entries of the map's parts, in the same order
pub record Lists (layout : Layout) (integrity : List (List ℕ × List ℕ)) (m : ParsedMap) : Type 0 where
  pub imports : entries m.imports ≡ map address_entry layout.imports
  pub scopes : map scope_entries (entries m.scopes) ≡ map scope_entry layout.scopes
  pub integrity_texts : entries m.integrity ≡ integrity
