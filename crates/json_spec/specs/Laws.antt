-- The laws of JSON texts and of their printed form. Each is the contract of a function of this crate.
use Rattle.std.specs.Prelude.{◌≡◌, ◌≤◌, ◌==◌, ℕ, true, false, not, List, ◌∷◌, ◌++◌, length, filter, Result, IfOk, Ok}
use Rattle.std.specs.Prelude.{IsUtf8, All, ◌↔◌}
use Rattle.std.specs.List.Sorted.{IsPermutation, IsNonDecreasingBy}
use Rattle.json_spec.specs.Grammar.{Fault, ReadsJson, most_depth}
use Rattle.json_spec.specs.Numbers.{IsNumber, number_at}
use Rattle.json_spec.specs.PropertyOrder.{Pair, pairs_of, is_array_index, number_of, index_members, other_members}
use Rattle.json_spec.specs.PropertyOrder.{in_property_order}
use Rattle.json_spec.specs.PlainReader.{read_json}
use Rattle.json_spec.specs.PrintedString.{escaped, quoted}
use Rattle.json_spec.specs.PrintedValue.{printed_text, IsPrintable}
use Rattle.json_spec.specs.Strings.{ReadsText}
use Rattle.json_spec.specs.Taken.{taken, refused}
use Rattle.json_spec.specs.Value.{Json, a_text, Members, HasDistinctNames}

-- own law: one text has one outcome
abbrev pub OneJson : Type 0
OneJson = (bytes : List ℕ) (a c : Result Json Fault) → ReadsJson bytes a → ReadsJson bytes c → a ≡ c

-- own law: each text has a value or a first fault
abbrev pub SomeJson : Type 0
SomeJson = (bytes : List ℕ) → (out : Result Json Fault) × ReadsJson bytes out

-- own law: the plain reader answers the outcome of each text, so what is said by its answer is said by the grammar
abbrev pub JsonIsRead : Type 0
JsonIsRead = (bytes : List ℕ) (out : Result Json Fault) → ReadsJson bytes out ↔ (read_json bytes ≡ out)

-- own law: a value that a text has holds no name twice in one object
abbrev pub NamesAreDistinct : Type 0
NamesAreDistinct = (bytes : List ℕ) (out : Result Json Fault) → ReadsJson bytes out → IfOk out HasDistinctNames

-- RFC 8259, 6: what is read at the front of the bytes is a number, and no longer front of them is one; where nothing is
-- read, no front is a number
pub record LongestNumber : Type 0 where
  pub is_number :
      (bytes number rest : List ℕ) → number_at bytes ≡ taken number rest → IsNumber number × (bytes ≡ number ++ rest)
  pub longest :
      (bytes number rest front back : List ℕ) → number_at bytes ≡ taken number rest → bytes ≡ front ++ back
      → IsNumber front
      → length front ≤ length number
  pub none : (bytes front back : List ℕ) → number_at bytes ≡ refused tt → bytes ≡ front ++ back → IsNumber front → ⊥

-- ECMA-262, OrdinaryOwnPropertyKeys: the members in an object's order are its members in another order: first those
-- whose names are array indices, by ascending number, and then the others, as they are written
pub record MembersInOrder : Type 0 where
  pub all_members : (ms : Members) → IsPermutation (pairs_of ms) (pairs_of (in_property_order ms))
  pub indices_first :
      (ms : Members) → pairs_of (in_property_order ms) ≡ pairs_of (index_members ms) ++ pairs_of (other_members ms)
  pub are_indices : (ms : Members) → All (λ (pair : Pair). is_array_index pair.0 ≡ true) (pairs_of (index_members ms))
  pub ascending : (ms : Members) → IsNonDecreasingBy (λ (pair : Pair). number_of pair.0) (pairs_of (index_members ms))
  pub others_as_written :
      (ms : Members) → pairs_of (other_members ms) ≡ filter (λ (pair : Pair). not (is_array_index pair.0)) (pairs_of ms)

-- own law: a printed string, behind its opening quote and before any bytes, reads back as its text
abbrev pub TextsReadBack : Type 0
TextsReadBack = (text rest : List ℕ) → ReadsText (escaped text ++ 34 ∷ rest) (taken text rest)

-- own law: a printed string is a JSON text, which has the string as its value
abbrev pub StringsReadBack : Type 0
StringsReadBack = (text : List ℕ) → IsUtf8 text → ReadsJson (quoted text) (Ok (a_text text))

-- own law: the printed text of a printable value has that value
abbrev pub ValuesReadBack : Type 0
ValuesReadBack = (v : Json) → IsPrintable most_depth v → ReadsJson (printed_text v) (Ok v)

-- own law: the printed text of a printable value is UTF-8
abbrev pub PrintsUtf8 : Type 0
PrintsUtf8 = (depth : ℕ) (v : Json) → IsPrintable depth v → IsUtf8 (printed_text v)

-- own law: the printed text of such a value holds no `<`, so no tag of a page is read in it
abbrev pub PrintsNoMarkup : Type 0
PrintsNoMarkup = (depth : ℕ) (v : Json) → IsPrintable depth v → All (λ b. (b == 60) ≡ false) (printed_text v)
