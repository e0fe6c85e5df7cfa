-- Members of the objects in a record.
--     json_in found                        the value of an `exports` or `imports`
--     IsTarget members asked found         the target of the key that is taken, with what stands for `*`
--     IsLeftTarget conditions imports members asked made found      this is left of it under these conditions
use Rattle.std.specs.Prelude.{◌≡◌, ℕ, Bool, List, Option, Some}
use Rattle.json_spec.specs.Value.{Json, Members, names_of}
use Rattle.ordered_json.specs.Shown.{json_of}
use Rattle.package_record.specs.declared.subpaths.Subpaths.{Subpaths}
use Rattle.condition_match.specs.Reducing.{ComesAs}
use Rattle.node_spec.specs.PatternKeyCompare.{KeyFound, first_key, pattern_match}
use Rattle.node_spec.specs.Records.{field}

abbrev pub json_in : Subpaths → Json
json_in found = json_of found.value

pub record IsTarget (members : Members) (asked : List ℕ) (target : Json) (star : Option (List ℕ)) : Type 0 where
  pub chosen : KeyFound
  pub first : first_key asked (names_of members) ≡ Some chosen
  pub target_is : field chosen.key members ≡ target
  pub star_is : pattern_match asked chosen.found ≡ star

pub record IsLeftTarget (conditions : List (List ℕ)) (imports : Bool) (members : Members) (asked : List ℕ) (made : Json)
    (star : Option (List ℕ)) : Type 0 where
  pub target : Json
  pub is : IsTarget members asked target star
  pub comes : ComesAs conditions imports target made
