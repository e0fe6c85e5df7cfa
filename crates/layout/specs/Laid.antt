-- Mappings in maps in memory, as the import map that they make up.
--     laid_map laid      the import map
use Rattle.std.specs.FinMap.{empty}
use Rattle.import_map_spec.specs.ParsedMap.{ParsedMap}
use Rattle.layout.specs.Grouped.{addresses_of, scopes_of}
use Rattle.layout.specs.declared.laid.Laid.{Laid}

abbrev pub laid_map : Laid → ParsedMap
laid_map laid =
    record { imports = addresses_of laid.imports.entries; scopes = scopes_of laid.scopes; integrity = empty }
