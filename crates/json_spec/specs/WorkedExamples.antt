-- Worked examples.
--     PrintedExamples      strings and values as they are printed
--     TokenExamples      numbers and escapes at the front of bytes
--     TextExamples, ByteExamples      texts, each with its value or its first fault
use Rattle.std.specs.Prelude.{◌≡◌, true, [], ◌∷◌, codes, ℕ, List, Err, replicate, Ok, ◌++◌}
use Rattle.json_spec.specs.Grammar.{NotJson, ReadsJson, TooDeep}
use Rattle.json_spec.specs.Numbers.{number_at}
use Rattle.json_spec.specs.PrintedString.{quoted}
use Rattle.json_spec.specs.PrintedValue.{printed_text}
use Rattle.json_spec.specs.Strings.{escape_at}
use Rattle.json_spec.specs.Taken.{taken, refused}
use Rattle.json_spec.specs.Value.{a_null, a_bool, a_text, a_list, an_object, no_items, an_item, no_members, a_member}

pub record PrintedExamples : Type 0 where
  pub string : quoted (97 ∷ 34 ∷ 60 ∷ 10 ∷ []) ≡ codes "\"a\\\"\\u003c\\u000a\""
  pub value :
      printed_text
      (an_object
      (a_member (codes "a") (a_list no_items)
      (a_member (codes "b") (an_object (a_member (codes "c") a_null no_members))
      (a_member (codes "d") (a_list (an_item (a_text (codes "e")) (an_item (a_bool true) no_items))) no_members))))
      ≡ codes "{\n  \"a\": [],\n  \"b\": {\n    \"c\": null\n  },\n  \"d\": [\n    \"e\",\n    true\n  ]\n}\n"

-- the longest number stands; a surrogate pair is one character, and half of one is none
pub record TokenExamples : Type 0 where
  pub number : number_at (codes "-10.5e+3x") ≡ taken (codes "-10.5e+3") (codes "x")
  pub zero : number_at (codes "01") ≡ taken (codes "0") (codes "1")
  pub point : number_at (codes "1.") ≡ taken (codes "1") (codes ".")
  pub exponent : number_at (codes "1e+") ≡ taken (codes "1") (codes "e+")
  pub minus : number_at (codes "-") ≡ refused tt
  pub pair : escape_at (codes "ud83d\\uDE00;") ≡ taken (240 ∷ 159 ∷ 152 ∷ 128 ∷ []) (codes ";")
  pub lone_high : escape_at (codes "ud83dx") ≡ refused tt
  pub two_high : escape_at (codes "ud83d\\ud83d") ≡ refused tt
  pub lone_low : escape_at (codes "ude00") ≡ refused tt
  pub slash : escape_at (codes "/") ≡ taken (codes "/") []
  pub quote : escape_at (codes "'") ≡ refused tt

-- a text, and its value or its first fault
abbrev pub Fails : List ℕ → ℕ → Type 0
Fails bytes at = ReadsJson bytes (Err (NotJson at))

pub record TextExamples : Type 0 where
  pub repeated :
      ReadsJson (codes "{\"a\":1,\"b\":[],\"a\":null}")
      (Ok (an_object (a_member (codes "a") a_null (a_member (codes "b") (a_list no_items) no_members))))
  pub spaced :
      ReadsJson (codes " [ true , \"\\u003c\" ]\n")
      (Ok (a_list (an_item (a_bool true) (an_item (a_text (codes "<")) no_items))))
  pub comma : Fails (codes "[1,]") 3
  pub empty : Fails [] 0
  pub leading_zero : Fails (codes "01") 1
  pub deep : ReadsJson (replicate 129 91) (Err (TooDeep 128))
  pub byte_order_mark : Fails (239 ∷ 187 ∷ 191 ∷ codes "1") 0
  pub word : Fails (codes "[tru]") 1
  pub open_string : Fails (codes "[\"a") 1
  pub bad_escape : Fails (codes "[\"a\\x\"]") 1
  pub control : Fails (codes "\"\n\"") 0
  pub no_colon : Fails (codes "{\"a\" 1}") 5
  pub no_name : Fails (codes "{1:1}") 1
  pub name_after_comma : Fails (codes "{\"a\":1,}") 7
  pub second_value : Fails (codes "1 2") 2
  pub cut_off : Fails (codes "[1 ") 3
  pub point : Fails (codes "[1.]") 2
  pub not_too_deep : Fails (replicate 128 91) 128

-- bytes that no character has: within a string the string fails, at its opening quote, and elsewhere they begin no
-- token
pub record ByteExamples : Type 0 where
  pub in_string : Fails (34 ∷ 255 ∷ 34 ∷ []) 0
  pub in_name : Fails (123 ∷ 34 ∷ 97 ∷ 255 ∷ 34 ∷ codes ":1}") 1
  pub cut_character : Fails (34 ∷ 195 ∷ codes "\\u00a9\"") 0
  pub after_fault : Fails (120 ∷ 34 ∷ 255 ∷ 34 ∷ []) 0
  pub no_token : Fails (91 ∷ 255 ∷ 93 ∷ []) 1
  pub after_deep : ReadsJson (replicate 129 91 ++ 255 ∷ []) (Err (TooDeep 128))

abbrev pub WorkedExamples : Type 0
WorkedExamples = PrintedExamples × TokenExamples × TextExamples × ByteExamples
