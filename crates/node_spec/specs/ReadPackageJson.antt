-- The record of a folder (Node.js, ECMAScript modules: READ_PACKAGE_JSON).
--     read_record bytes                the record of a file's bytes, as a function
--     record_at folder                 the asking for the record of a folder, where there is one
--     IsRecordAt tree folder out       what the record of a folder is
use Rattle.std.specs.FinMap.{get}
use Rattle.std.specs.Prelude.{◌≡◌, ℕ, List, false, Option, Some, None, Result, Ok, Err}
use Rattle.asking_spec.specs.Askings.{answered, and_then}
use Rattle.json_spec.specs.PlainReader.{read_json}
use Rattle.tree_spec.specs.Trees.{Tree}
use Rattle.tree_spec.specs.declared.Entry.{Entry}
use Rattle.tree_spec.specs.declared.Entry.TheVariants.{Stored, Directory}
use Rattle.node_spec.specs.FileLooks.{look_at_text, is_file}
use Rattle.node_spec.specs.LookupPackageScope.{package_json}
use Rattle.node_spec.specs.NodeAnswers.{Refusal, by_cause, too_deep, Resolving}
use Rattle.node_spec.specs.Records.{Record, RecordFault, InvalidRecord, DeepRecord, record_outcome, after_mark}
use Rattle.node_spec.specs.Records.{ReadsRecord}
use Rattle.node_spec.specs.declared.Cause.TheVariants.{InvalidConfig}

-- what `ReadsRecord` relates to the bytes
unfoldable pub read_record : List ℕ → Result Record RecordFault
read_record bytes = record_outcome (read_json (after_mark bytes))

-- READ_PACKAGE_JSON: "Throw an Invalid Package Configuration error"
abbrev pub record_or_refusal : Result Record RecordFault → Result (Option Record) Refusal
record_or_refusal (Ok of_file) = Ok (Some of_file)
record_or_refusal (Err InvalidRecord) = Err (by_cause InvalidConfig)
record_or_refusal (Err DeepRecord) = Err too_deep

-- READ_PACKAGE_JSON: "If the file at pjsonURL does not exist, then Return null"
abbrev pub record_of_entry : Option Entry → Result (Option Record) Refusal
record_of_entry None = Ok None
record_of_entry (Some Directory) = Ok None
record_of_entry (Some (Stored bytes)) = record_or_refusal (read_record bytes)

abbrev pub record_at : List ℕ → Resolving (Option Record)
record_at folder = and_then (look_at_text (package_json folder)) (λ found. answered (record_of_entry found))

-- ---- what it is in a tree

pub data IsRecordAt (tree : Tree) (folder : List ℕ) : Result (Option Record) Refusal → Type 0 where
  no_file : is_file (get tree (package_json folder)) ≡ false → IsRecordAt tree folder (Ok None)
  from_file :
      (bytes : List ℕ) (out : Result Record RecordFault) → get tree (package_json folder) ≡ Some (Stored bytes)
      → ReadsRecord bytes out → IsRecordAt tree folder (record_or_refusal out)
