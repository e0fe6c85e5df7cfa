-- The fields among an object's members.
use Rattle.std.specs.Prelude.{◌≡◌, codes}
use Rattle.json_spec.specs.Value.{Members}
use Rattle.node_spec.specs.Records.{field}
use Rattle.ordered_json.specs.Shown.{json_of}
use Rattle.package_record.specs.declared.fields.Fields.{Fields}

pub record HoldsFields (fields : Fields) (members : Members) : Type 0 where
  pub name : json_of fields.name ≡ field (codes "name") members
  pub kind : json_of fields.kind ≡ field (codes "type") members
  pub main : json_of fields.main ≡ field (codes "main") members
  pub exports : json_of fields.exports ≡ field (codes "exports") members
  pub imports : json_of fields.imports ≡ field (codes "imports") members
