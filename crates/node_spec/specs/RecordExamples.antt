-- Worked examples of records.
--     RecordExamples      the bytes of a package.json, with their record or the reason for having none
use Rattle.std.specs.Prelude.{◌∷◌, codes, replicate, Some, None, Ok, Err}
use Rattle.json_spec.specs.Value.{a_null, a_text, an_object, no_members, a_member}
use Rattle.node_spec.specs.Records.{InvalidRecord, DeepRecord, ReadsRecord}
use Rattle.node_spec.specs.declared.PackageKind.TheVariants.{Module, CommonJs, Unstated}

pub record RecordExamples : Type 0 where
  pub module_type :
      ReadsRecord (codes "{\"type\":\"module\"}")
      (Ok (record { name = None; kind = Module; main = None; exports = a_null; imports = a_null }))
  pub commonjs_type :
      ReadsRecord (codes "{\"type\":\"commonjs\",\"name\":\"p\"}")
      (Ok (record { name = Some (codes "p"); kind = CommonJs; main = None; exports = a_null; imports = a_null }))
  pub other_type :
      ReadsRecord (codes "{\"type\":\"Module\",\"main\":3}")
      (Ok (record { name = None; kind = Unstated; main = None; exports = a_null; imports = a_null }))
  pub repeated_key :
      ReadsRecord (codes "{\"exports\":{\"import\":\"./1.mjs\",\"default\":\"./2.mjs\",\"import\":\"./3.mjs\"}}")
      (Ok (record {
        name = None;
        kind = Unstated;
        main = None;
        exports =
            an_object
            (a_member (codes "import") (a_text (codes "./3.mjs"))
            (a_member (codes "default") (a_text (codes "./2.mjs")) no_members));
        imports = a_null;
      }))
  pub byte_order_mark :
      ReadsRecord (239 ∷ 187 ∷ 191 ∷ codes "{\"main\":\"m\"}")
      (Ok (record { name = None; kind = Unstated; main = Some (codes "m"); exports = a_null; imports = a_null }))
  pub two_marks : ReadsRecord (239 ∷ 187 ∷ 191 ∷ 239 ∷ 187 ∷ 191 ∷ codes "{}") (Err InvalidRecord)
  pub a_list : ReadsRecord (codes "[]") (Err InvalidRecord)
  pub cut_off : ReadsRecord (codes "{\"name\":") (Err InvalidRecord)
  pub deep : ReadsRecord (replicate 129 91) (Err DeepRecord)
