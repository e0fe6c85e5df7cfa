-- The faults of the code, in the words of the definition.
--     FailsPart fault out      the part that the fault names is the first that is no object, or no memory was found
--     IsMapFault base bytes fault      the text has this first fault, or no memory was found
use Rattle.std.specs.Prelude.{◌≡◌, ℕ, List, Result, Err, ⊤}
use Rattle.json_spec.specs.Grammar as grammar
use Rattle.import_map_spec.specs.declared.MapPart.{MapPart}
use Rattle.import_map_spec.specs.ParsedMap as definition
use Rattle.import_map_spec.specs.Parsing.{ParsesMap}
use Rattle.map_parse.specs.declared.fault.MapFault.{MapFault}
use Rattle.map_parse.specs.declared.fault.MapFault.TheVariants.{NotJson, NotObject, TooDeep, Memory}

abbrev pub IsPartOf : {A : Type 0} → Result A MapPart → MapFault → Type 0
IsPartOf out (NotJson at) = ⊥
IsPartOf out (NotObject which) = out ≡ Err which
IsPartOf out (TooDeep at) = ⊥
IsPartOf out Memory = ⊤

pub record FailsPart {A : Type 0} (fault : MapFault) (out : Result A MapPart) : Type 0 where
  pub part : IsPartOf out fault

abbrev pub IsMapFault : List ℕ → List ℕ → MapFault → Type 0
IsMapFault base bytes (NotJson at) = ParsesMap base bytes (Err (definition.NoJson (grammar.NotJson at)))
IsMapFault base bytes (NotObject which) = ParsesMap base bytes (Err (definition.NotObject which))
IsMapFault base bytes (TooDeep at) = ParsesMap base bytes (Err (definition.NoJson (grammar.TooDeep at)))
IsMapFault base bytes Memory = ⊤
