-- The keys of a value of `exports` or `imports`.
--     HasKeys members index      the index has the keys of these members
--     IsIndexOf value index      the same of the object that the value is
--     HasTargets imports found      the keys of the value are indexed, and what is kept of its targets is left of them
--     IsSubpaths imports found      the same, and the keys of each object in the value are distinct
use Rattle.std.specs.Prelude.{◌≡◌, Bool, IfSome}
use Rattle.std.specs.List.{list_all}
use Rattle.json_spec.specs.Value.{HasDistinctNames, Members, an_object, names_of}
use Rattle.node_spec.specs.PackageExportsResolve.{is_dotted, has_dotted}
use Rattle.ordered_json.specs.Shown.{json_of}
use Rattle.ordered_json.specs.declared.value.Value.{Value}
use Rattle.exports_patterns.specs.Indexes.{IsIndex}
use Rattle.package_record.specs.Targets.{IsLeftOf}
use Rattle.package_record.specs.declared.subpaths.Index.{Index}
use Rattle.package_record.specs.declared.subpaths.Subpaths.{Subpaths}

pub record HasKeys (members : Members) (index : Index) : Type 0 where
  pub keys : IsIndex (names_of members) index.keys
  pub has_dotted : index.has_dotted ≡ has_dotted members
  pub are_dotted : index.are_dotted ≡ list_all is_dotted (names_of members)

abbrev pub IsIndexOf : Value → Index → Type 0
IsIndexOf value index = (members : Members) → json_of value ≡ an_object members → HasKeys members index

pub record HasTargets (imports : Bool) (found : Subpaths) : Type 0 where
  pub indexed : IsIndexOf found.value found.index
  pub left : IfSome found.left (IsLeftOf imports found.value)

pub record IsSubpaths (imports : Bool) (found : Subpaths) : Type 0 where
  pub distinct : HasDistinctNames (json_of found.value)
  pub indexed : IsIndexOf found.value found.index
  pub left : IfSome found.left (IsLeftOf imports found.value)
