-- Characters of texts, and what they come to in a literal.
use lib.Utf8.{scalar, scalars, scalar_cases}
use Rattle.std.proofs.Common.{◌≡◌, ◌<◌, ◌≤◌, ◌+◌, ◌-◌, ◌*◌, ◌==◌, ◌⊎◌, inl, inr, ℕ, zero, suc, Bool, true, false, nat_le, List, [], ◌∷◌, ◌++◌, length, take, drop, Option, Some, None, refl, sym, ap, subst, ◌∙◌, arith, take_at, drop_at, length-append, append-nil, append_assoc}
use Rattle.std.proofs.lemmas.Str.{chars-nil, chars-append, chars_past_char, encodes-chars, scalars-chars, IsUtf8-drop, IsCharBoundary-from_take}
use Rattle.std.proofs.lemmas.Bool.{and_parts, eq-eqb, eqb-true, le-leb, lt-leb, le-ltb, or_parts, cond-true}
use Rattle.std.proofs.lemmas.List.Folds.{list_any-append}
use Rattle.std.proofs.Math.Bool.{and-false}
use Rattle.std.specs.List.{list_any}
use Rattle.std.specs.Char.{encode_utf8}
use Rattle.std.specs.Prelude.{slice_index, option_map}
use Rattle.std.specs.Str.{chars, IsUtf8, encode_utf8_all}
use Rattle.module_spec.specs.Characters.{is_hex_digit, hex_digits}
use Rattle.std.specs.Char.Utf16.{is_high_surrogate, is_low_surrogate, surrogate_pair_char}
use Rattle.module_spec.specs.StringValues.{Element, hex_value, hex_number, braced_escape, escape, elements, behind_character, code_points}
use Rattle.module_spec.specs.StringValues.Element.{unit}
use Rattle.es_module_parser.specs.declared.literals.Waiting.TheVariants.{Nothing, High}
use Rattle.es_module_parser.specs.Literals.{sixteens, element_of, inside_value, IsPart, behind_text, settled}

-- ---- characters

IsUtf8-behind : (bs front back : List ℕ) → IsUtf8 bs → IsUtf8 front → bs ≡ front ++ back → IsUtf8 back
IsUtf8-behind bs front back u v e =
    let size = length-append front back in
    let sized = ap (λ (xs : List ℕ). length xs) e in
    let cut = IsCharBoundary-from_take bs (length front) u (omega (arith, size, sized)) (subst IsUtf8 (sym (ap (take (length front)) e ∙ take_at front back (length front) refl)) v) in
    subst IsUtf8 (ap (drop (length front)) e ∙ drop_at front back (length front) refl) (IsUtf8-drop bs (length front) u cut)

pub chars-before_last : (bs front : List ℕ) (c : ℕ) → IsUtf8 bs → IsUtf8 front → bs ≡ front ++ encode_utf8 c → chars bs ≡ chars front ++ c ∷ []
chars-before_last bs front c u v e =
    let w = IsUtf8-behind bs front (encode_utf8 c) u v e in
    ap chars e ∙ (chars-append front (encode_utf8 c) v ∙ ap (λ (xs : List ℕ). chars front ++ xs) (chars_past_char (encode_utf8 c) [] c w (sym (append-nil (encode_utf8 c))) ∙ ap (λ (xs : List ℕ). c ∷ xs) chars-nil))

-- ---- digits

-- six digits of base 16 and more fit into 32 bits
pub sixteens_small : (count : ℕ) → count ≤ 5 → sixteens count ≤ 1048576
sixteens_small zero l = omega arith
sixteens_small (suc zero) l = omega arith
sixteens_small (suc (suc zero)) l = omega arith
sixteens_small (suc (suc (suc zero))) l = omega arith
sixteens_small (suc (suc (suc (suc zero)))) l = omega arith
sixteens_small (suc (suc (suc (suc (suc zero))))) l = omega arith
sixteens_small (suc (suc (suc (suc (suc (suc count)))))) l = absurd (omega arith)

pub room_for_digit : (value digit count left : ℕ) → value < sixteens (count - left) → 0 < left → count ≤ 6 → digit < 16 → value * 16 + digit < 16777216
room_for_digit value digit count left below some few small = let bound = sixteens_small (count - left) (omega arith) in omega (arith, bound)

before_one : (n : ℕ) → suc n - 1 ≡ n
before_one n = omega arith

pub digit_read : (so_far left c d : ℕ) (rest : List ℕ) → 0 < left → is_hex_digit c ≡ true → d ≡ hex_value c → hex_number so_far left (c ∷ rest) ≡ hex_number (so_far * 16 + d) (left - 1) rest
digit_read so_far zero c d rest l e f = absurd (omega arith)
digit_read so_far (suc left) c d rest l e f =
    cond-true (is_hex_digit c) (hex_number (so_far * 16 + hex_value c) left rest) None e
    ∙ (ap (λ n. hex_number (so_far * 16 + n) left rest) (sym f) ∙ ap (λ n. hex_number (so_far * 16 + d) n rest) (sym (before_one left)))

pub drop_read : (left c : ℕ) (rest : List ℕ) → 0 < left → drop left (c ∷ rest) ≡ drop (left - 1) rest
drop_read zero c rest l = absurd (omega arith)
drop_read (suc left) c rest l = ap (λ n. drop n rest) (sym (before_one left))

pub below_next : (count left value digit : ℕ) → 0 < left → left ≤ count → value < sixteens (count - left) → digit < 16 → value * 16 + digit < sixteens (count - (left - 1))
below_next count left value digit l m b d =
    let e : count - (left - 1) ≡ suc (count - left) = omega arith in
    subst (λ n. value * 16 + digit < sixteens n) (sym e) (omega (arith, b, d))

-- ---- escapes

slice_index-drop : (cs : List ℕ) (n c : ℕ) (rest : List ℕ) → drop n cs ≡ c ∷ rest → slice_index cs n ≡ c
slice_index-drop [] zero c rest e = absurd (cc)
slice_index-drop [] (suc n) c rest e = absurd (cc)
slice_index-drop (x ∷ cs) zero c rest e = cc
slice_index-drop (x ∷ cs) (suc n) c rest e = slice_index-drop cs n c rest e

drop-one_more : (cs : List ℕ) (n c : ℕ) (rest : List ℕ) → drop n cs ≡ c ∷ rest → drop (suc n) cs ≡ rest
drop-one_more [] zero c rest e = absurd (cc)
drop-one_more [] (suc n) c rest e = absurd (cc)
drop-one_more (x ∷ cs) zero c rest e = cc
drop-one_more (x ∷ cs) (suc n) c rest e = drop-one_more cs n c rest e

braced_is : (cs : List ℕ) (value : ℕ) (rest : List ℕ) → 1 ≤ hex_digits cs → hex_digits cs ≤ 6 → hex_number 0 (hex_digits cs) cs ≡ Some value → drop (hex_digits cs) cs ≡ 125 ∷ rest → braced_escape cs ≡ (hex_digits cs + 3, unit value)
braced_is cs value rest some few number behind =
    let closes = eq-eqb (slice_index cs (hex_digits cs)) 125 (slice_index-drop cs (hex_digits cs) 125 rest behind) in
    rw (le-leb 1 (hex_digits cs) some, le-leb (hex_digits cs) 6 few, closes, number) refl

drop-braced : (cs : List ℕ) (n : ℕ) (rest : List ℕ) → drop n cs ≡ 125 ∷ rest → drop (n + 3) (117 ∷ 123 ∷ cs) ≡ rest
drop-braced cs n rest e =
    let same : n + 3 ≡ suc (suc (suc n)) = omega arith in
    ap (λ k. drop k (117 ∷ 123 ∷ cs)) same ∙ drop-one_more cs n 125 rest e

pub braced_part : (cs : List ℕ) (count value : ℕ) (rest : List ℕ) → count ≡ hex_digits cs → 1 ≤ count → count ≤ 6 → hex_number 0 count cs ≡ Some value → drop count cs ≡ 125 ∷ rest → IsPart (braced_escape cs) (117 ∷ 123 ∷ cs) (Some value) rest
braced_part cs count value rest e some few number behind =
    let is = braced_is cs value rest (subst (λ n. 1 ≤ n) e some) (subst (λ n. n ≤ 6) e few) (subst (λ n. hex_number 0 n cs ≡ Some value) e number) (subst (λ n. drop n cs ≡ 125 ∷ rest) e behind) in
    record {
      adds = ap (λ (found : ℕ × Element). found.1) is;
      behind = sym (ap (λ (found : ℕ × Element). drop found.0 (117 ∷ 123 ∷ cs)) is ∙ drop-braced cs (hex_digits cs) rest (subst (λ n. drop n cs ≡ 125 ∷ rest) e behind));
    }

pub escaped_elements : (first : ℕ) (cs : List ℕ) → first ≡ 92 → elements zero (first ∷ cs) ≡ (escape cs).1 ∷ elements (escape cs).0 cs
escaped_elements first cs e = cond-true (first == 92) ((escape cs).1 ∷ elements (escape cs).0 cs) (unit first ∷ elements zero cs) (eq-eqb first 92 e)

pub elements-drop : (n : ℕ) (cs : List ℕ) → elements n cs ≡ elements zero (drop n cs)
elements-drop zero cs = refl
elements-drop (suc n) [] = refl
elements-drop (suc n) (c ∷ cs) = elements-drop n cs

pub escape_elements : (cs : List ℕ) (added : Option ℕ) (rest : List ℕ) → IsPart (escape cs) cs added rest → (escape cs).1 ∷ elements (escape cs).0 cs ≡ element_of added ∷ elements zero rest
escape_elements cs added rest p =
    ap (λ (e : Element). e ∷ elements (escape cs).0 cs) p.adds
    ∙ ap (λ (es : List Element). element_of added ∷ es) (elements-drop (escape cs).0 cs ∙ ap (elements zero) (sym p.behind))

pub length-drop_le : (n : ℕ) (cs : List ℕ) → length (drop n cs) ≤ length cs
length-drop_le zero cs = omega arith
length-drop_le (suc n) [] = omega arith
length-drop_le (suc n) (c ∷ cs) = let l = length-drop_le n cs in omega (arith, l)

-- ---- what is added to the text

behind_one : (text new : List ℕ) (c : ℕ) (found : Option (List ℕ)) → new ≡ text ++ encode_utf8 c → behind_text text (behind_character c found) ≡ behind_text new found
behind_one text new c None e = refl
behind_one text new c (Some rest) e = ap (λ (xs : List ℕ). Some xs) (sym (ap (λ (xs : List ℕ). xs ++ encode_utf8_all rest) e ∙ append_assoc text (encode_utf8 c) (encode_utf8_all rest)))

pub first_added : (text new : List ℕ) (code c : ℕ) → is_high_surrogate code ≡ false → scalar code ≡ true → c ≡ code → new ≡ text ++ encode_utf8 c → (more : List Element) → settled text Nothing (unit code ∷ more) ≡ settled new Nothing more
first_added text new code c high is same e more =
    rw (high, is) (behind_one text new code (code_points None more) (subst (λ x. new ≡ text ++ encode_utf8 x) same e))

pub second_added : (text new : List ℕ) (high code c : ℕ) → is_low_surrogate code ≡ true → c ≡ surrogate_pair_char high code → new ≡ text ++ encode_utf8 c → (more : List Element) → settled text (High high) (unit code ∷ more) ≡ settled new Nothing more
second_added text new high code c low same e more =
    rw low (behind_one text new (surrogate_pair_char high code) (code_points None more) (subst (λ x. new ≡ text ++ encode_utf8 x) same e))

-- ---- a literal without an escape

no_backslash : (c : ℕ) (same : Bool) → (c == 92) ≡ same → list_any (λ y. y == 92) (encode_utf8 c) ≡ false → same ≡ false
unfolding encode_utf8
no_backslash c false e n = refl
no_backslash c true e n = absurd (let f : list_any (λ y. y == 92) (encode_utf8 92) ≡ false = subst (λ x. list_any (λ y. y == 92) (encode_utf8 x) ≡ false) (eqb-true c 92 e) n in cc)

no_high : (c : ℕ) → (c < 55296) ⊎ ((57344 ≤ c) × (c < 1114112)) → is_high_surrogate c ≡ false
no_high c (inl l) = rw (lt-leb 55296 c l) refl
no_high c (inr l) = let past : 56320 ≤ c = omega (arith, l.0) in rw (le-ltb c 56320 past) (and-false (nat_le 55296 c))

plain_points : (cs : List ℕ) → scalars cs ≡ true → list_any (λ y. y == 92) (encode_utf8_all cs) ≡ false → code_points None (elements zero cs) ≡ Some cs
plain_points [] s n = refl
plain_points (c ∷ cs) s n =
    let parts = and_parts (scalar c) (scalars cs) s in
    let split = sym (list_any-append (λ y. y == 92) (encode_utf8 c) (encode_utf8_all cs)) ∙ n in
    let none = or_parts (list_any (λ y. y == 92) (encode_utf8 c)) (list_any (λ y. y == 92) (encode_utf8_all cs)) split in
    rw (no_backslash c (c == 92) refl none.0, no_high c (scalar_cases c parts.0), parts.0, plain_points cs parts.1 none.1) refl

pub plain_value : (inside : List ℕ) → IsUtf8 inside → list_any (λ y. y == 92) inside ≡ false → inside_value (chars inside) ≡ Some inside
plain_value inside u n =
    let back = encodes-chars inside u in
    ap (option_map encode_utf8_all) (plain_points (chars inside) (scalars-chars inside u) (subst (λ (bs : List ℕ). list_any (λ y. y == 92) bs ≡ false) (sym back) n)) ∙ ap (λ (bs : List ℕ). Some bs) back
