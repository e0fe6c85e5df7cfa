-- Values and entries, as they are tested and as they are defined.
use Rattle.std.proofs.Common.{◌≡◌, ◌≢◌, ◌==◌, ◌&&◌, ℕ, List, [], ◌∷◌, length, true, false, not, refl, ap, ap₂, arith}
use Rattle.std.specs.List.{list_all, All}
use Rattle.std.proofs.lemmas.Bool.{ne_eqb, eqb-false, not-true, and_parts}
use Rattle.std.proofs.lemmas.List.Elements.{All-head, All-tail, All-nil, All-cons}
use Rattle.words_spec.specs.PlainWords.{IsValue}
use Rattle.words_spec.specs.Reading.{is_value}

pub no_hyphen_first : (byte : ℕ) (rest : List ℕ) → IsValue (byte ∷ rest) → byte ≢ 45
no_hyphen_first byte rest is same = is.no_hyphen rest (let first : byte ≡ 45 = same in cc)

pub value_passes : (text : List ℕ) → IsValue text → is_value text ≡ true
value_passes [] is = absurd (is.nonempty refl)
value_passes (byte ∷ rest) is = ap not (ne_eqb byte 45 (no_hyphen_first byte rest is))

pub values_pass : (words : List (List ℕ)) → All IsValue words → list_all is_value words ≡ true
values_pass [] all = refl
values_pass (word ∷ words) all =
    ap₂ (λ a b. a && b) (value_passes word (All-head IsValue word words all))
    (values_pass words (All-tail IsValue word words all))

pub passed_value : (text : List ℕ) → is_value text ≡ true → IsValue text
passed_value [] passes = absurd (let bad : false ≡ true = passes in cc)
passed_value (byte ∷ bytes) passes = record {
  nonempty = λ none. absurd (let bad : length (byte ∷ bytes) ≡ 0 = ap length none in omega arith);
  no_hyphen = λ rest same.
      eqb-false byte 45 (not-true (byte == 45) passes) (let first : byte ≡ 45 = cc in first);
}

pub passed_values : (words : List (List ℕ)) → list_all is_value words ≡ true → All IsValue words
passed_values [] pass = All-nil IsValue
passed_values (word ∷ words) pass =
    let parts = and_parts (is_value word) (list_all is_value words) pass in
    All-cons IsValue word words (passed_value word parts.0) (passed_values words parts.1)
