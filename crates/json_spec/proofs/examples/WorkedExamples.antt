-- The worked examples, by computation.
use Rattle.std.proofs.Common.{refl}
use Rattle.std.specs.Char.{encode_utf8}
use Rattle.std.specs.Prelude.{◌≡◌, ℕ, List, Result}
use Rattle.std.specs.Str.{is_utf8, chars}
use Rattle.json_spec.proofs.PlainReader.{json_sound}
use Rattle.json_spec.specs.Grammar.{Fault, ReadsJson, most_depth}
use Rattle.json_spec.specs.PlainReader.{read_json}
use Rattle.json_spec.specs.Value.{Json}
use Rattle.json_spec.specs.WorkedExamples.{PrintedExamples, TokenExamples, TextExamples, ByteExamples, WorkedExamples}

printed_examples : PrintedExamples
printed_examples = record { string = refl; value = refl }

token_examples : TokenExamples
unfolding encode_utf8
token_examples = record { number = refl; zero = refl; point = refl; exponent = refl; minus = refl; pair = refl; lone_high = refl; two_high = refl; lone_low = refl; slash = refl; quote = refl }

reads : (bytes : List ℕ) (out : Result Json Fault) → read_json bytes ≡ out → ReadsJson bytes out
reads bytes out e = rw (← e) (json_sound bytes)

text_examples : TextExamples
unfolding most_depth is_utf8 chars encode_utf8
text_examples = record {
  repeated = reads _ _ refl;
  spaced = reads _ _ refl;
  comma = reads _ _ refl;
  empty = reads _ _ refl;
  leading_zero = reads _ _ refl;
  deep = reads _ _ refl;
  byte_order_mark = reads _ _ refl;
  word = reads _ _ refl;
  open_string = reads _ _ refl;
  bad_escape = reads _ _ refl;
  control = reads _ _ refl;
  no_colon = reads _ _ refl;
  no_name = reads _ _ refl;
  name_after_comma = reads _ _ refl;
  second_value = reads _ _ refl;
  cut_off = reads _ _ refl;
  point = reads _ _ refl;
  not_too_deep = reads _ _ refl;
}

byte_examples : ByteExamples
unfolding most_depth is_utf8 chars encode_utf8
byte_examples = record { in_string = reads _ _ refl; in_name = reads _ _ refl; cut_character = reads _ _ refl; after_fault = reads _ _ refl; no_token = reads _ _ refl; after_deep = reads _ _ refl }

pub worked_examples : WorkedExamples
worked_examples = (printed_examples, token_examples, text_examples, byte_examples)
