use Rattle.std.specs.Prelude.{Ok}
use Rattle.node_spec.specs.Records.{ReadsRecord}
use Rattle.ordered_json.proofs.IsJsonLemmas.{reads_json}
use Rattle.node_spec.proofs.OneRecord.{record_names_are_distinct}
use Rattle.package_record.specs.Shown.{record_shown}
use Rattle.package_record.proofs.RecordLemmas.{record_from, object_record, no_object}
use Rattle.package_record.proofs.package_json.read_package_under.Goals as goal

pub returns-in-Ok-package_of : goal.returns-in-Ok-package_of
returns-in-Ok-package_of c =
    let reads : ReadsRecord c.args.bytes.now (Ok (record_shown c.in-Ok-package_of.package)) = object_record _ _ _ _ _ c.behind_mark.ensures (reads_json c.in-Ok.ensures) c.in-Some.ensures (c.in-Ok-package_of.ensures.shown _ c.in-Ok-fields_of.ensures) in
    let apart = record_names_are_distinct c.args.bytes.now (Ok (record_shown c.in-Ok-package_of.package)) reads in
    let exports = c.in-Ok-package_of.ensures.exports in
    let imports = c.in-Ok-package_of.ensures.imports in
    record {
      reads = reads;
      exports = record { distinct = apart.0; indexed = exports.indexed; left = exports.left };
      imports = record { distinct = apart.1; indexed = imports.indexed; left = imports.left };
    }

pub returns-in-None : goal.returns-in-None
returns-in-None c = no_object _ _ _ c.behind_mark.ensures (reads_json c.in-Ok.ensures) c.in-None.ensures

pub returns-in-Err-NotJson : goal.returns-in-Err-NotJson
returns-in-Err-NotJson c = record_from _ _ _ c.behind_mark.ensures (rw c.in-Err-NotJson.field-0-is at c.in-Err-NotJson.ensures)

pub returns-in-Err-TooDeep : goal.returns-in-Err-TooDeep
returns-in-Err-TooDeep c = record_from _ _ _ c.behind_mark.ensures (rw c.in-Err-TooDeep.field-0-is at c.in-Err-TooDeep.ensures)
