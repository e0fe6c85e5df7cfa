-- The worked examples of records, by computation.
use Rattle.std.proofs.Common.{refl}
use Rattle.std.specs.Char.{encode_utf8}
use Rattle.std.specs.Prelude.{◌≡◌, ℕ, List, Result}
use Rattle.std.specs.Str.{is_utf8, chars}
use Rattle.json_spec.proofs.PlainReader.{json_sound}
use Rattle.json_spec.specs.Grammar.{most_depth}
use Rattle.json_spec.specs.PlainReader.{read_json}
use Rattle.node_spec.specs.RecordExamples.{RecordExamples}
use Rattle.node_spec.specs.Records.{Record, RecordFault, record_outcome, after_mark, ReadsRecord, reads_record}

reads : (bytes : List ℕ) (out : Result Record RecordFault) → record_outcome (read_json (after_mark bytes)) ≡ out → ReadsRecord bytes out
reads bytes out e = rw (← e) (reads_record (read_json (after_mark bytes)) (json_sound (after_mark bytes)))

pub record_examples : RecordExamples
unfolding most_depth is_utf8 chars encode_utf8
record_examples = record {
  module_type = reads _ _ refl;
  commonjs_type = reads _ _ refl;
  other_type = reads _ _ refl;
  repeated_key = reads _ _ refl;
  byte_order_mark = reads _ _ refl;
  two_marks = reads _ _ refl;
  a_list = reads _ _ refl;
  cut_off = reads _ _ refl;
  deep = reads _ _ refl;
}
