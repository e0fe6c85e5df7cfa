-- Maps into which mappings are put, one after another.
--     nothing_mapped                           the map without mappings
--     mapped_at place asked target map         the map with this mapping at this place
use Rattle.std.specs.FinMap.{insert, empty}
use Rattle.std.specs.Prelude.{ℕ, List, [], ◌∷◌, Some}
use Rattle.import_map_spec.specs.ParsedMap.{ParsedMap}
use Rattle.layout_spec.specs.Serving.{addresses_at}

abbrev pub nothing_mapped : ParsedMap
nothing_mapped = record { imports = empty; scopes = empty; integrity = empty }

-- own: the mapping stands over one of its specifier that is there
abbrev pub mapped_at : List ℕ → List ℕ → List ℕ → ParsedMap → ParsedMap
mapped_at [] asked target m =
    record { imports = insert m.imports asked (Some target); scopes = m.scopes; integrity = m.integrity }
mapped_at (b ∷ rest) asked target m = record {
  imports = m.imports;
  scopes = insert m.scopes (b ∷ rest) (insert (addresses_at m (b ∷ rest)) asked (Some target));
  integrity = m.integrity;
}
