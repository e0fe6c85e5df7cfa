-- Numbers, part by part.
use Rattle.json_spec.proofs.LongestNumber.{lead_split}
use Rattle.std.specs.Char.{is_ascii_digit}
use Rattle.std.specs.Prelude.{◌≡◌, ◌≢◌, ℕ, ◌<◌, ◌≤◌, nat_le, Bool, true, false, cond, ◌==◌, ◌||◌, List, [], ◌∷◌, ◌++◌, length, IsUtf8, Option, Some, None, MatchOption}
use Rattle.std.specs.Borrow.{Bor}
use Rattle.std.proofs.Common.{refl, ap, sym, ◌∙◌, arith, append_assoc, length-append}
use Rattle.std.proofs.lemmas.Bool.{cond-true, cond-false, leb-true, and_parts, false_from_ne_true, eqb-true, or_from}
use Rattle.std.proofs.lemmas.Str.{IsUtf8-append, IsUtf8-nil}
use Rattle.json_spec.proofs.PrintedUtf8.{ascii_first}
use Rattle.json_spec.specs.Taken.{taken, refused, Read, and_then, or_else, behind_piece}
use Rattle.json_spec.specs.Numbers.{leading_digits, after_digits, some_digits, digits_at, int_at, frac_at, exp_at, number_at, piece_then, maybe, one_of}
use Rattle.ordered_json.specs.Scanned.{Cut}

one_of_cut : (test : ℕ → Bool) (b : ℕ) (rest bytes : List ℕ) → bytes ≡ b ∷ rest → test b ≡ true → b < 128 → Cut (one_of test bytes) bytes rest
one_of_cut test b rest bytes e t l = rw e (record { piece = b ∷ []; took = cond-true _ _ _ t; split = refl; utf8 = ascii_first b [] l IsUtf8-nil })

some_cut : (one : List ℕ → Read (List ℕ)) (bytes rest : List ℕ) → Cut (one bytes) bytes rest → Cut (maybe one bytes) bytes rest
some_cut one bytes rest c = record { piece = c.piece; took = ap (λ out. or_else out (taken [] bytes)) c.took; split = c.split; utf8 = c.utf8 }

module _ (one another : List ℕ → Read (List ℕ)) (bytes : List ℕ) where
  joined_cut : (middle rest : List ℕ) → Cut (one bytes) bytes middle → Cut (another middle) middle rest → Cut (piece_then one another bytes) bytes rest
  joined_cut middle rest c d = record {
    piece = c.piece ++ d.piece;
    took = ap (λ out. and_then out (λ piece after. behind_piece piece (another after))) c.took ∙ ap (behind_piece c.piece) d.took;
    split = c.split ∙ (ap (λ (xs : List ℕ). c.piece ++ xs) d.split ∙ sym (append_assoc c.piece d.piece rest));
    utf8 = IsUtf8-append _ _ c.utf8 d.utf8;
  }

  joined_no_first : one bytes ≡ refused tt → piece_then one another bytes ≡ refused tt
  joined_no_first e = ap (λ out. and_then out (λ piece after. behind_piece piece (another after))) e

  joined_no_second : (middle : List ℕ) → Cut (one bytes) bytes middle → another middle ≡ refused tt → piece_then one another bytes ≡ refused tt
  joined_no_second middle c e = ap (λ out. and_then out (λ piece after. behind_piece piece (another after))) c.took ∙ ap (behind_piece c.piece) e

differs : (b c : ℕ) → b ≢ c → (b == c) ≡ false
differs b c n = false_from_ne_true _ (λ t. n (eqb-true b c t))

digit_low : (b : ℕ) → is_ascii_digit b ≡ true → b < 128
digit_low b t = let l : b ≤ 57 = leb-true b 57 (and_parts (nat_le 48 b) (nat_le b 57) t).1 in omega arith

utf8_first : (b : ℕ) (front : List ℕ) (t : Bool) → is_ascii_digit b ≡ t → IsUtf8 front → IsUtf8 (cond t (b ∷ front) [])
utf8_first b front true e u = ascii_first b front (digit_low b e) u
utf8_first b front false e u = IsUtf8-nil

digits_utf8 : (bytes : List ℕ) → IsUtf8 (leading_digits bytes)
digits_utf8 [] = IsUtf8-nil
digits_utf8 (b ∷ bytes) = utf8_first b _ (is_ascii_digit b) refl (digits_utf8 bytes)

some_from : (digits after bytes : List ℕ) → bytes ≡ digits ++ after → IsUtf8 digits → length after < length bytes → Cut (some_digits digits after) bytes after
some_from [] after bytes e u l = absurd (omega (arith, ap length e))
some_from (d ∷ digits) after bytes e u l = record { piece = d ∷ digits; took = refl; split = e; utf8 = u }

none_from : (digits after bytes : List ℕ) → bytes ≡ digits ++ after → length bytes ≤ length after → some_digits digits after ≡ refused tt
none_from [] after bytes e l = refl
none_from (d ∷ digits) after bytes e l = absurd (omega (arith, ap length e, length-append digits after))

pub digits_cut : (bytes : List ℕ) → length (after_digits bytes) < length bytes → Cut (digits_at bytes) bytes (after_digits bytes)
digits_cut bytes l = some_from _ _ bytes (lead_split bytes) (digits_utf8 bytes) l

pub no_digits : (bytes : List ℕ) → length bytes ≤ length (after_digits bytes) → digits_at bytes ≡ refused tt
no_digits bytes l = none_from _ _ bytes (lead_split bytes) l

pub minus_cut : (bytes rest : List ℕ) → bytes ≡ 45 ∷ rest → Cut (maybe (one_of (λ b. b == 45)) bytes) bytes rest
minus_cut bytes rest e = some_cut (one_of (λ b. b == 45)) bytes rest (one_of_cut (λ b. b == 45) 45 rest bytes e refl (omega arith))

abbrev pub is_sign : ℕ → Bool
is_sign b = b == 43 || b == 45

abbrev pub is_exponent_letter : ℕ → Bool
is_exponent_letter b = b == 101 || b == 69

pub plus_cut : (bytes rest : List ℕ) → bytes ≡ 43 ∷ rest → Cut (maybe (one_of is_sign) bytes) bytes rest
plus_cut bytes rest e = some_cut (one_of is_sign) bytes rest (one_of_cut is_sign 43 rest bytes e refl (omega arith))

pub small_letter_cut : (bytes rest : List ℕ) → bytes ≡ 101 ∷ rest → Cut (one_of is_exponent_letter bytes) bytes rest
small_letter_cut bytes rest e = one_of_cut is_exponent_letter 101 rest bytes e refl (omega arith)

large_letter_cut : (bytes rest : List ℕ) → bytes ≡ 69 ∷ rest → Cut (one_of is_exponent_letter bytes) bytes rest
large_letter_cut bytes rest e = one_of_cut is_exponent_letter 69 rest bytes e refl (omega arith)

no_letter : (bytes : List ℕ) → ((rest : List ℕ) → bytes ≢ 101 ∷ rest) → ((rest : List ℕ) → bytes ≢ 69 ∷ rest) → one_of is_exponent_letter bytes ≡ refused tt
no_letter [] n m = refl
no_letter (b ∷ bytes) n m = cond-false _ _ _ (or_from (b == 101) (b == 69) (differs b 101 (λ e. n bytes (ap (λ x. x ∷ bytes) e))) (differs b 69 (λ e. m bytes (ap (λ x. x ∷ bytes) e))))

pub letter_of : (bytes : List ℕ) (found : Option (Bor (List ℕ))) → ((rest : List ℕ) → bytes ≢ 101 ∷ rest) → MatchOption found ((rest : List ℕ) → bytes ≢ 69 ∷ rest) (λ rest. bytes ≡ 69 ∷ rest.now) → MatchOption found (one_of is_exponent_letter bytes ≡ refused tt) (λ rest. Cut (one_of is_exponent_letter bytes) bytes rest.now)
letter_of bytes None n m = no_letter bytes n m
letter_of bytes (Some rest) n e = large_letter_cut bytes rest.now e

pub zero_cut : (bytes rest : List ℕ) → bytes ≡ 48 ∷ rest → Cut (int_at bytes) bytes rest
zero_cut bytes rest e = rw e (record { piece = 48 ∷ []; took = refl; split = refl; utf8 = ascii_first 48 [] (omega arith) IsUtf8-nil })

-- what the digits behind a point, or behind an exponent's letter and sign, say of the whole
pub fraction_of : (bytes middle : List ℕ) (found : Option (Bor (List ℕ))) → bytes ≡ 46 ∷ middle → MatchOption found (digits_at middle ≡ refused tt) (λ rest. Cut (digits_at middle) middle rest.now) → MatchOption found (frac_at bytes ≡ refused tt) (λ rest. Cut (frac_at bytes) bytes rest.now)
fraction_of bytes middle None e n = joined_no_second (one_of (λ b. b == 46)) digits_at bytes middle (one_of_cut (λ b. b == 46) 46 middle bytes e refl (omega arith)) n
fraction_of bytes middle (Some rest) e c = joined_cut (one_of (λ b. b == 46)) digits_at bytes middle rest.now (one_of_cut (λ b. b == 46) 46 middle bytes e refl (omega arith)) c

pub exponent_of : (bytes middle after : List ℕ) (found : Option (Bor (List ℕ))) → Cut (one_of is_exponent_letter bytes) bytes middle → Cut (maybe (one_of is_sign) middle) middle after → MatchOption found (digits_at after ≡ refused tt) (λ rest. Cut (digits_at after) after rest.now) → MatchOption found (exp_at bytes ≡ refused tt) (λ rest. Cut (exp_at bytes) bytes rest.now)
exponent_of bytes middle after None l s n =
    joined_no_second (one_of is_exponent_letter) (piece_then (maybe (one_of is_sign)) digits_at) bytes middle l (joined_no_second (maybe (one_of is_sign)) digits_at middle after s n)
exponent_of bytes middle after (Some rest) l s c =
    joined_cut (one_of is_exponent_letter) (piece_then (maybe (one_of is_sign)) digits_at) bytes middle rest.now l (joined_cut (maybe (one_of is_sign)) digits_at middle after rest.now s c)

abbrev unsigned : List ℕ → Read (List ℕ)
unsigned bytes = piece_then int_at (piece_then (maybe frac_at) (maybe exp_at)) bytes

pub number_of : (bytes sign int fraction rest : List ℕ) → Cut (maybe (one_of (λ b. b == 45)) bytes) bytes sign → Cut (int_at sign) sign int → Cut (maybe frac_at int) int fraction → Cut (maybe exp_at fraction) fraction rest → Cut (number_at bytes) bytes rest
number_of bytes sign int fraction rest m i f e =
    joined_cut (maybe (one_of (λ b. b == 45))) unsigned bytes sign rest m (joined_cut int_at (piece_then (maybe frac_at) (maybe exp_at)) sign int rest i (joined_cut (maybe frac_at) (maybe exp_at) int fraction rest f e))
