-- Import maps (HTML, import maps: import map).
--     ParsedMap      a map: its imports, its scopes and its integrity
--     Addresses      a module specifier map, from keys to addresses
--     Texts X      a finite map from texts
--     MapFault      why a text has no map
use Rattle.std.specs.Cmp.Lexicographic.{slice_cmp}
use Rattle.std.specs.FinMap.{FinMap}
use Rattle.std.specs.Ordering.{nat_cmp}
use Rattle.std.specs.Prelude.{ℕ, List, Option}
use Rattle.json_spec.specs.Grammar.{Fault}
use Rattle.import_map_spec.specs.declared.MapPart.{MapPart}

-- a finite map from texts
abbrev pub Texts : Type 0 → Type 0
Texts X = FinMap (slice_cmp nat_cmp) X

-- a module specifier map: from keys to URLs by their texts, where none is null
abbrev pub Addresses : Type 0
Addresses = Texts (Option (List ℕ))

-- HTML, import maps: an import map has imports, scopes and integrity
pub record ParsedMap : Type 0 where
  pub imports : Addresses
  pub scopes : Texts Addresses
  pub integrity : Texts (List ℕ)

-- why a text is no import map: it is no JSON, or what should be an object is none
pub data MapFault : Type 0 where
  NoJson : Fault → MapFault
  NotObject : MapPart → MapFault
