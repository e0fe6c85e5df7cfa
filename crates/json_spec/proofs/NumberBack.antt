-- A number reads back where no byte of a number stands behind it.
use Rattle.std.specs.Prelude.{◌≡◌, ◌≢◌, ◌≤◌, ◌<◌, ◌⊎◌, ◌==◌, ◌||◌, ℕ, Bool, true, false, List, [], ◌∷◌, ◌++◌, length, codes, ⊤, All}
use Rattle.std.specs.Char.{is_ascii_digit}
use Rattle.std.proofs.Common.{refl, ap, sym, ◌∙◌, subst, arith, append-nil, length-append}
use Rattle.std.proofs.lemmas.Bool.{cases_Bool, cases_lt, cond-false, eqb-true, true≢false}
use Rattle.std.proofs.lemmas.Bool.Decides.{nat_tests}
use Rattle.std.proofs.lemmas.List.Elements.{All-nil, All-cons, All-head, All-append, All-weaker}
use mathlib.Core.Logic.{inl, inr}
use Rattle.tree_spec.proofs.Fronts.{all_behind}
use Rattle.json_spec.specs.Value.{Json, a_null, a_bool, a_number}
use Rattle.json_spec.specs.Taken.{taken}
use Rattle.json_spec.specs.Strings.{behind}
use Rattle.json_spec.specs.Numbers.{IsInt, IsFrac, IsExp, IsTail, IsNumber, number_at}
use Rattle.json_spec.specs.Grammar.{Reading, word_else, as_number, scalar_at}
use Rattle.json_spec.proofs.LongestNumber.{number_least, longest_number}

-- ---- the bytes of numbers

abbrev pub is_number_byte : ℕ → Bool
is_number_byte b = is_ascii_digit b || (b == 43 || (b == 45 || (b == 46 || (b == 69 || b == 101))))

abbrev pub IsNumberByte : ℕ → Type 0
IsNumberByte b = is_number_byte b ≡ true

-- no byte of a number stands there
abbrev pub Closes : List ℕ → Type 0
Closes [] = ⊤
Closes (b ∷ rest) = is_number_byte b ≡ false

digit_byte : (b : ℕ) → is_ascii_digit b ≡ true → IsNumberByte b
digit_byte b e = ap (λ t. t || (b == 43 || (b == 45 || (b == 46 || (b == 69 || b == 101))))) e

byte_at : (c b : ℕ) → IsNumberByte c → b ≡ c → IsNumberByte b
byte_at c b is e = ap is_number_byte e ∙ is

digits_bytes : (digits : List ℕ) → All (λ b. is_ascii_digit b ≡ true) digits → All IsNumberByte digits
digits_bytes digits all = All-weaker (λ b. is_ascii_digit b ≡ true) IsNumberByte digit_byte digits all

-- nothing, or one byte
one_byte : (c : ℕ) (text : List ℕ) → IsNumberByte c → text ≡ c ∷ [] → All IsNumberByte text
one_byte c text is e = subst (All IsNumberByte) (sym e) (All-cons IsNumberByte c [] is (All-nil IsNumberByte))

no_byte : (text : List ℕ) → text ≡ [] → All IsNumberByte text
no_byte text e = subst (All IsNumberByte) (sym e) (All-nil IsNumberByte)

int_bytes : (int : List ℕ) → IsInt int → All IsNumberByte int
int_bytes [] is = absurd is
int_bytes (b ∷ digits) (inl (z, none)) = All-cons IsNumberByte b digits (byte_at 48 b refl z) (no_byte digits none)
int_bytes (b ∷ digits) (inr (n, are)) = digits_bytes (b ∷ digits) are.1

frac_bytes : (frac : List ℕ) → (frac ≡ []) ⊎ IsFrac frac → All IsNumberByte frac
frac_bytes frac (inl none) = no_byte frac none
frac_bytes [] (inr is) = absurd is
frac_bytes (b ∷ digits) (inr is) = All-cons IsNumberByte b digits (byte_at 46 b refl is.0) (digits_bytes digits is.1.1)

mark_byte : (mark : ℕ) → (mark ≡ 101) ⊎ (mark ≡ 69) → IsNumberByte mark
mark_byte mark (inl e) = byte_at 101 mark refl e
mark_byte mark (inr e) = byte_at 69 mark refl e

sign_bytes : (sign : List ℕ) → (sign ≡ []) ⊎ ((sign ≡ 43 ∷ []) ⊎ (sign ≡ 45 ∷ [])) → All IsNumberByte sign
sign_bytes sign (inl none) = no_byte sign none
sign_bytes sign (inr (inl plus)) = one_byte 43 sign refl plus
sign_bytes sign (inr (inr minus)) = one_byte 45 sign refl minus

exp_bytes : (exp : List ℕ) → (exp ≡ []) ⊎ IsExp exp → All IsNumberByte exp
exp_bytes exp (inl none) = no_byte exp none
exp_bytes exp (inr is) =
    subst (All IsNumberByte) (sym is.parts)
    (All-cons IsNumberByte is.mark (is.sign ++ is.digits) (mark_byte is.mark is.is_mark) (All-append IsNumberByte is.sign is.digits (sign_bytes is.sign is.is_sign) (digits_bytes is.digits is.are_digits.1)))

tail_bytes : (tail : List ℕ) → IsTail tail → All IsNumberByte tail
tail_bytes tail is = subst (All IsNumberByte) (sym is.parts) (All-append IsNumberByte is.frac is.exp (frac_bytes is.frac is.is_frac) (exp_bytes is.exp is.is_exp))

minus_bytes : (minus : List ℕ) → (minus ≡ []) ⊎ (minus ≡ 45 ∷ []) → All IsNumberByte minus
minus_bytes minus (inl none) = no_byte minus none
minus_bytes minus (inr is) = one_byte 45 minus refl is

pub number_bytes : (number : List ℕ) → IsNumber number → All IsNumberByte number
number_bytes number is =
    subst (All IsNumberByte) (sym is.parts)
    (All-append IsNumberByte is.minus (is.int ++ is.tail) (minus_bytes is.minus is.is_minus) (All-append IsNumberByte is.int is.tail (int_bytes is.int is.is_int) (tail_bytes is.tail is.is_tail)))

int_some : (int : List ℕ) → IsInt int → 0 < length int
int_some [] is = absurd is
int_some (b ∷ digits) is = omega arith

number_some : (number : List ℕ) → IsNumber number → 0 < length number
number_some number is = let some = int_some is.int is.is_int in omega (arith, ap length is.parts, length-append is.minus (is.int ++ is.tail), length-append is.int is.tail)

-- ---- what is read is the number and no more

-- of two fronts of one text the longer one goes on behind the shorter
pub longer_front : (front rest other left : List ℕ) → front ++ rest ≡ other ++ left → length front ≤ length other → (more : List ℕ) × (other ≡ front ++ more) × (rest ≡ more ++ left)
longer_front [] rest other left e l = (other, refl, e)
longer_front (a ∷ front) rest [] left e l = absurd (omega arith)
longer_front (a ∷ front) rest (b ∷ other) left e l =
    let same : a ≡ b = cc in
    let tails : front ++ rest ≡ other ++ left = cc in
    let behind = longer_front front rest other left tails (omega arith) in
    (behind.0, (λ i. sym same i ∷ behind.1 i), behind.2)

nothing_more : (number more rest left piece : List ℕ) → piece ≡ number ++ more → rest ≡ more ++ left → All IsNumberByte piece → Closes rest → more ≡ []
nothing_more number [] rest left piece e f all closes = refl
nothing_more number (c ∷ more) rest left piece e f all closes =
    let here : is_number_byte c ≡ true = All-head IsNumberByte c more (all_behind IsNumberByte number (c ∷ more) (subst (All IsNumberByte) e all)) in
    let ends : is_number_byte c ≡ false = subst Closes f closes in
    absurd (true≢false (sym here ∙ ends))

number_reads : (number rest : List ℕ) → IsNumber number → Closes rest → number_at (number ++ rest) ≡ taken number rest
number_reads number rest is closes =
    let least = number_least number rest is in
    let read = longest_number.is_number (number ++ rest) least.piece least.rest least.took in
    let goes_on = longer_front number rest least.piece least.rest read.1 least.long in
    let none = nothing_more number goes_on.0 rest least.rest least.piece goes_on.1 goes_on.2 (number_bytes least.piece read.0) closes in
    let piece : least.piece ≡ number = goes_on.1 ∙ (ap (λ (xs : List ℕ). number ++ xs) none ∙ append-nil number) in
    let left : least.rest ≡ rest = sym (goes_on.2 ∙ ap (λ (xs : List ℕ). xs ++ least.rest) none) in
    least.took ∙ (λ i. taken (piece i) (left i))

-- ---- as a value

other_byte : (c b : ℕ) → is_number_byte c ≡ false → IsNumberByte b → (c == b) ≡ false
other_byte c b none is =
    elim (cases_Bool (c == b)) [
      | inl e ↦ absurd (true≢false (sym (ap is_number_byte (eqb-true c b e) ∙ is) ∙ none))
      | inr n ↦ n
    ]

no_word : (f : ℕ) (front : List ℕ) (b : ℕ) (bytes : List ℕ) (v : Json) (other : Reading Json) → is_number_byte f ≡ false → IsNumberByte b → word_else v (behind (f ∷ front) (b ∷ bytes)) other ≡ other
no_word f front b bytes v other none is = ap (λ o. word_else v o other) (cond-false _ _ _ (other_byte f b none is))

scalar_is : (b : ℕ) (bytes number rest : List ℕ) → IsNumberByte b → number_at (b ∷ bytes) ≡ taken number rest → scalar_at (b ∷ bytes) ≡ taken (a_number number) rest
scalar_is b bytes number rest is read =
    no_word 116 (codes "rue") b bytes (a_bool true) _ refl is ∙ (no_word 102 (codes "alse") b bytes (a_bool false) _ refl is ∙ (no_word 110 (codes "ull") b bytes a_null _ refl is ∙ ap (as_number (b ∷ bytes)) read))

-- a number as its first byte and the others, and how it reads as a value
pub record ReadsNumber (number rest : List ℕ) : Type 0 where
  pub head : ℕ
  pub tail : List ℕ
  pub is : number ++ rest ≡ head ∷ tail
  pub byte : is_number_byte head ≡ true
  pub reads : scalar_at (head ∷ tail) ≡ taken (a_number number) rest

from_first : (text number rest : List ℕ) → 0 < length text → All IsNumberByte text → number_at (text ++ rest) ≡ taken number rest → text ≡ number → ReadsNumber number rest
from_first [] number rest some all read same = absurd (omega arith)
from_first (b ∷ text) number rest some all read same =
    let is : is_number_byte b ≡ true = All-head IsNumberByte b text all in
    record { head = b; tail = text ++ rest; is = ap (λ (xs : List ℕ). xs ++ rest) (sym same); byte = is; reads = scalar_is b (text ++ rest) number rest is read }

pub number_back : (number rest : List ℕ) → IsNumber number → Closes rest → ReadsNumber number rest
number_back number rest is closes = from_first number number rest (number_some number is) (number_bytes number is) (number_reads number rest is closes) refl

-- a byte of a number is ASCII
pub byte_low : (b : ℕ) → IsNumberByte b → b < 128
byte_low b is =
    elim (cases_lt b 128) [
      | inl low ↦ low
      | inr high ↦ absurd (true≢false (sym is ∙ too_high b high))
    ]
  where
    too_high : (c : ℕ) → 128 ≤ c → is_number_byte c ≡ false
    too_high c high = grind (arith, nat_tests)

-- a number begins with a byte of one
pub record BeginsNumber (number rest : List ℕ) : Type 0 where
  pub head : ℕ
  pub tail : List ℕ
  pub is : number ++ rest ≡ head ∷ tail
  pub byte : is_number_byte head ≡ true

begins_by : (number rest : List ℕ) → 0 < length number → All IsNumberByte number → BeginsNumber number rest
begins_by [] rest some all = absurd (omega arith)
begins_by (b ∷ number) rest some all = record { head = b; tail = number ++ rest; is = refl; byte = All-head IsNumberByte b number all }

pub begins_number : (number rest : List ℕ) → IsNumber number → BeginsNumber number rest
begins_number number rest is = begins_by number rest (number_some number is) (number_bytes number is)

pub byte_not : (b c : ℕ) → is_number_byte c ≡ false → is_number_byte b ≡ true → (b == c) ≡ false
byte_not b c none is =
    elim (cases_Bool (b == c)) [
      | inl e ↦ absurd (true≢false (sym is ∙ (ap is_number_byte (eqb-true b c e) ∙ none)))
      | inr n ↦ n
    ]

pub byte_other : (b c : ℕ) → is_number_byte c ≡ false → is_number_byte b ≡ true → b ≢ c
byte_other b c none is e = true≢false (sym is ∙ (ap is_number_byte e ∙ none))
