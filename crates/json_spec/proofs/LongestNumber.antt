-- The number that is read is a number, and no longer front of the bytes is one.
use Rattle.std.specs.Char.{is_ascii_digit}
use Rattle.std.specs.Prelude.{◌≡◌, ◌≢◌, ◌≤◌, ◌+◌, ◌⊎◌, ℕ, Bool, true, false, ◌==◌, ◌||◌, List, [], ◌∷◌, ◌++◌, length, cond, ⊤, All}
use Rattle.std.proofs.Common.{refl, ap, sym, ◌∙◌, subst, arith, append_assoc, length-append}
use Rattle.std.proofs.lemmas.Bool.{cond-true, cond-false, cases_Bool, ne_eqb, eqb-true, true≢false}
use Rattle.std.proofs.lemmas.List.{append-nil}
use Rattle.std.proofs.lemmas.List.Elements.{All-nil, All-cons, All-head, All-tail}
use mathlib.Core.Logic.{inl, inr}
use Rattle.json_spec.specs.Taken.{taken, refused, Read, and_then, or_else, behind_piece}
use Rattle.json_spec.specs.Numbers.{AreDigits, IsInt, IsFrac, IsExp, IsTail, IsNumber, leading_digits, after_digits, some_digits, digits_at, piece_then, maybe, one_of, int_at, frac_at, exp_at, number_at}
use Rattle.json_spec.specs.Laws.{LongestNumber}
use Rattle.json_spec.proofs.OneJson.{never_both}

abbrev IsDigit : ℕ → Type 0
IsDigit b = is_ascii_digit b ≡ true

abbrev Reader : Type 0
Reader = List ℕ → Read (List ℕ)

-- ---- what is read is of the grammar, and the bytes are it and what is left

abbrev Fits : (List ℕ → Type 0) → List ℕ → Read (List ℕ) → Type 0
Fits Is bytes (taken piece rest) = Is piece × (bytes ≡ piece ++ rest)
Fits Is bytes (refused e) = ⊤

abbrev Missing : (List ℕ → Type 0) → List ℕ → Type 0
Missing Is text = (text ≡ []) ⊎ Is text

-- what is put together of two pieces
abbrev Puts : (List ℕ → Type 0) → (List ℕ → Type 0) → (List ℕ → Type 0) → Type 0
Puts One Other Both = (piece more : List ℕ) → One piece → Other more → Both (piece ++ more)

behind_fits : (Other Both : List ℕ → Type 0) (bytes piece rest : List ℕ) (out : Read (List ℕ)) → bytes ≡ piece ++ rest → ((more : List ℕ) → Other more → Both (piece ++ more)) → Fits Other rest out → Fits Both bytes (behind_piece piece out)
behind_fits Other Both bytes piece rest (taken more left) e puts fits = (puts more fits.0, e ∙ (ap (λ (xs : List ℕ). piece ++ xs) fits.1 ∙ sym (append_assoc piece more left)))
behind_fits Other Both bytes piece rest (refused r) e puts fits = tt

joined_fits : (One Other Both : List ℕ → Type 0) (one other : Reader) (bytes : List ℕ) → Puts One Other Both → Fits One bytes (one bytes) → ((rest : List ℕ) → Fits Other rest (other rest)) → Fits Both bytes (piece_then one other bytes)
joined_fits One Other Both one other bytes puts fits more = go (one bytes) fits
  where
    go : (out : Read (List ℕ)) → Fits One bytes out → Fits Both bytes (and_then out (λ piece rest. behind_piece piece (other rest)))
    go (taken piece rest) f = behind_fits Other Both bytes piece rest (other rest) f.1 (λ next is. puts piece next f.0 is) (more rest)
    go (refused e) f = tt

maybe_fits : (Is : List ℕ → Type 0) (one : Reader) (bytes : List ℕ) → Fits Is bytes (one bytes) → Fits (Missing Is) bytes (maybe one bytes)
maybe_fits Is one bytes fits = go (one bytes) fits
  where
    go : (out : Read (List ℕ)) → Fits Is bytes out → Fits (Missing Is) bytes (or_else out (taken [] bytes))
    go (taken piece rest) f = (inr f.0, f.1)
    go (refused e) f = (inl refl, refl)

one_fits : (Is : List ℕ → Type 0) (test : ℕ → Bool) (bytes : List ℕ) → ((b : ℕ) → test b ≡ true → Is (b ∷ [])) → Fits Is bytes (one_of test bytes)
one_fits Is test [] is = tt
one_fits Is test (b ∷ bytes) is =
    elim (cases_Bool (test b)) [
      | inl t ↦ subst (Fits Is (b ∷ bytes)) (sym (cond-true _ _ _ t)) (is b t, refl)
      | inr f ↦ subst (Fits Is (b ∷ bytes)) (sym (cond-false _ _ _ f)) tt
    ]

-- the digits at the front, and what is left
pub lead_split : (bytes : List ℕ) → bytes ≡ leading_digits bytes ++ after_digits bytes
lead_split [] = refl
lead_split (b ∷ bytes) = go (is_ascii_digit b) (lead_split bytes)
  where
    go : (t : Bool) → bytes ≡ leading_digits bytes ++ after_digits bytes → b ∷ bytes ≡ cond t (b ∷ leading_digits bytes) [] ++ cond t (after_digits bytes) (b ∷ bytes)
    go true e = ap (λ (xs : List ℕ). b ∷ xs) e
    go false e = refl

lead_digits : (bytes : List ℕ) → All IsDigit (leading_digits bytes)
lead_digits [] = All-nil IsDigit
lead_digits (b ∷ bytes) = go (is_ascii_digit b) refl (lead_digits bytes)
  where
    go : (t : Bool) → is_ascii_digit b ≡ t → All IsDigit (leading_digits bytes) → All IsDigit (cond t (b ∷ leading_digits bytes) [])
    go true e all = All-cons IsDigit b (leading_digits bytes) e all
    go false e all = All-nil IsDigit

some_fits : (bytes digits rest : List ℕ) → bytes ≡ digits ++ rest → All IsDigit digits → Fits AreDigits bytes (some_digits digits rest)
some_fits bytes [] rest e all = tt
some_fits bytes (d ∷ digits) rest e all = (((λ none. cc), all), e)

digits_fit : (bytes : List ℕ) → Fits AreDigits bytes (digits_at bytes)
digits_fit bytes = some_fits bytes (leading_digits bytes) (after_digits bytes) (lead_split bytes) (lead_digits bytes)

-- digits that begin with a byte that is no zero
other_int : (b : ℕ) (bytes : List ℕ) (digits rest : List ℕ) → b ≢ 48 → b ∷ bytes ≡ digits ++ rest → All IsDigit digits → Fits IsInt (b ∷ bytes) (some_digits digits rest)
other_int b bytes [] rest n e all = tt
other_int b bytes (d ∷ digits) rest n e all =
    let same : b ≡ d = cc in
    (inr ((λ z. n (same ∙ z)), ((λ none. cc), all)), e)

int_fits : (bytes : List ℕ) → Fits IsInt bytes (int_at bytes)
int_fits [] = tt
int_fits (b ∷ bytes) =
    elim (cases_Bool (b == 48)) [
      | inl t ↦ subst (Fits IsInt (b ∷ bytes)) (sym (cond-true _ _ _ t)) (inl (eqb-true b 48 t, refl), refl)
      | inr f ↦ subst (Fits IsInt (b ∷ bytes)) (sym (cond-false _ _ _ f)) (other_int b bytes _ _ (λ e. true≢false (sym (ap (λ x. x == 48) e) ∙ f)) (lead_split (b ∷ bytes)) (lead_digits (b ∷ bytes)))
    ]

-- one byte, a point
abbrev IsPoint : List ℕ → Type 0
IsPoint text = text ≡ 46 ∷ []

byte_is : (c b : ℕ) → (b == c) ≡ true → ◌≡◌ {A = List ℕ} (b ∷ []) (c ∷ [])
byte_is c b t = ap (λ x. x ∷ []) (eqb-true b c t)

frac_puts : Puts IsPoint AreDigits IsFrac
frac_puts piece more e are = subst (λ front. IsFrac (front ++ more)) (sym e) (refl, are)

frac_fits : (bytes : List ℕ) → Fits IsFrac bytes (frac_at bytes)
frac_fits bytes = joined_fits IsPoint AreDigits IsFrac (one_of (λ b. b == 46)) digits_at bytes frac_puts (one_fits IsPoint (λ b. b == 46) bytes (λ b t. byte_is 46 b t)) digits_fit

abbrev IsSign : List ℕ → Type 0
IsSign text = (text ≡ 43 ∷ []) ⊎ (text ≡ 45 ∷ [])

either_byte : (c d b : ℕ) → (b == c || b == d) ≡ true → (b ≡ c) ⊎ (b ≡ d)
either_byte c d b t =
    elim (cases_Bool (b == c)) [
      | inl first ↦ inl (eqb-true b c first)
      | inr other ↦ inr (eqb-true b d (subst (λ test. (test || b == d) ≡ true) other t))
    ]

sign_is : (b : ℕ) → (b == 43 || b == 45) ≡ true → IsSign (b ∷ [])
sign_is b t = elim (either_byte 43 45 b t) [ inl e ↦ inl (ap (λ x. x ∷ []) e) | inr e ↦ inr (ap (λ x. x ∷ []) e) ]

record IsSigned (text : List ℕ) : Type 0 where
  sign : List ℕ
  digits : List ℕ
  parts : text ≡ sign ++ digits
  is_sign : Missing IsSign sign
  are_digits : AreDigits digits

signed_fits : (bytes : List ℕ) → Fits IsSigned bytes (piece_then (maybe (one_of (λ b. b == 43 || b == 45))) digits_at bytes)
signed_fits bytes =
    joined_fits (Missing IsSign) AreDigits IsSigned (maybe (one_of (λ b. b == 43 || b == 45))) digits_at bytes
    (λ piece more is are. record { sign = piece; digits = more; parts = refl; is_sign = is; are_digits = are })
    (maybe_fits IsSign (one_of (λ b. b == 43 || b == 45)) bytes (one_fits IsSign (λ b. b == 43 || b == 45) bytes sign_is)) digits_fit

record IsMark (text : List ℕ) : Type 0 where
  mark : ℕ
  whole : text ≡ mark ∷ []
  is_mark : (mark ≡ 101) ⊎ (mark ≡ 69)

exp_puts : Puts IsMark IsSigned IsExp
exp_puts piece more m s = record {
  mark = m.mark;
  sign = s.sign;
  digits = s.digits;
  parts = ap (λ (front : List ℕ). front ++ more) m.whole ∙ ap (λ (rest : List ℕ). m.mark ∷ rest) s.parts;
  is_mark = m.is_mark;
  is_sign = s.is_sign;
  are_digits = s.are_digits;
}

exp_fits : (bytes : List ℕ) → Fits IsExp bytes (exp_at bytes)
exp_fits bytes =
    joined_fits IsMark IsSigned IsExp (one_of (λ b. b == 101 || b == 69)) (piece_then (maybe (one_of (λ b. b == 43 || b == 45))) digits_at) bytes exp_puts
    (one_fits IsMark (λ b. b == 101 || b == 69) bytes (λ b t. record { mark = b; whole = refl; is_mark = either_byte 101 69 b t })) signed_fits

tail_fits : (bytes : List ℕ) → Fits IsTail bytes (piece_then (maybe frac_at) (maybe exp_at) bytes)
tail_fits bytes =
    joined_fits (Missing IsFrac) (Missing IsExp) IsTail (maybe frac_at) (maybe exp_at) bytes (λ piece more f e. record { frac = piece; exp = more; parts = refl; is_frac = f; is_exp = e })
    (maybe_fits IsFrac frac_at bytes (frac_fits bytes)) (λ rest. maybe_fits IsExp exp_at rest (exp_fits rest))

record IsBody (text : List ℕ) : Type 0 where
  int : List ℕ
  tail : List ℕ
  parts : text ≡ int ++ tail
  is_int : IsInt int
  is_tail : IsTail tail

body_fits : (bytes : List ℕ) → Fits IsBody bytes (piece_then int_at (piece_then (maybe frac_at) (maybe exp_at)) bytes)
body_fits bytes =
    joined_fits IsInt IsTail IsBody int_at (piece_then (maybe frac_at) (maybe exp_at)) bytes (λ piece more i t. record { int = piece; tail = more; parts = refl; is_int = i; is_tail = t }) (int_fits bytes) tail_fits

abbrev IsMinus : List ℕ → Type 0
IsMinus text = text ≡ 45 ∷ []

number_fits : (bytes : List ℕ) → Fits IsNumber bytes (number_at bytes)
number_fits bytes =
    joined_fits (Missing IsMinus) IsBody IsNumber (maybe (one_of (λ b. b == 45))) (piece_then int_at (piece_then (maybe frac_at) (maybe exp_at))) bytes
    (λ piece more m b. record { minus = piece; int = b.int; tail = b.tail; parts = ap (λ (rest : List ℕ). piece ++ rest) b.parts; is_minus = m; is_int = b.is_int; is_tail = b.is_tail })
    (maybe_fits IsMinus (one_of (λ b. b == 45)) bytes (one_fits IsMinus (λ b. b == 45) bytes (λ b t. byte_is 45 b t))) body_fits

-- ---- where the bytes begin with a number, at least that much is read

pub record AtLeast (size : ℕ) (out : Read (List ℕ)) : Type 0 where
  pub piece : List ℕ
  pub rest : List ℕ
  pub took : out ≡ taken piece rest
  pub long : size ≤ length piece

fewer : (size more : ℕ) (out : Read (List ℕ)) → size ≤ more → AtLeast more out → AtLeast size out
fewer size more out l a = record { piece = a.piece; rest = a.rest; took = a.took; long = (let m = a.long in omega arith) }

module _ (one other : Reader) (bytes piece middle : List ℕ) (took : one bytes ≡ taken piece middle) where
  joined_least : (size : ℕ) → AtLeast size (other middle) → AtLeast (length piece + size) (piece_then one other bytes)
  joined_least size a = record {
    piece = piece ++ a.piece;
    rest = a.rest;
    took = ap (λ out. and_then out (λ front rest. behind_piece front (other rest))) took ∙ ap (behind_piece piece) a.took;
    long = (let l = a.long in omega (arith, length-append piece a.piece));
  }

  maybe_took : maybe one bytes ≡ taken piece middle
  maybe_took = ap (λ out. or_else out (taken [] bytes)) took

maybe_refused : (one : Reader) (bytes : List ℕ) → one bytes ≡ refused tt → maybe one bytes ≡ taken [] bytes
maybe_refused one bytes e = ap (λ out. or_else out (taken [] bytes)) e

maybe_least : (one : Reader) (bytes : List ℕ) (size : ℕ) → AtLeast size (one bytes) → AtLeast size (maybe one bytes)
maybe_least one bytes size a = record { piece = a.piece; rest = a.rest; took = maybe_took one one bytes a.piece a.rest a.took; long = a.long }

maybe_any : (one : Reader) (bytes : List ℕ) → AtLeast 0 (maybe one bytes)
maybe_any one bytes = go (one bytes)
  where
    go : (out : Read (List ℕ)) → AtLeast 0 (or_else out (taken [] bytes))
    go (taken piece rest) = record { piece = piece; rest = rest; took = refl; long = omega arith }
    go (refused e) = record { piece = []; rest = bytes; took = refl; long = omega arith }

-- ---- digits before other bytes

-- no digit stands there
abbrev Stops : List ℕ → Type 0
Stops [] = ⊤
Stops (b ∷ bytes) = is_ascii_digit b ≡ false

leading_stop : (bytes : List ℕ) → Stops bytes → leading_digits bytes ≡ []
leading_stop [] s = refl
leading_stop (b ∷ bytes) s = cond-false _ _ _ s

after_stop : (bytes : List ℕ) → Stops bytes → after_digits bytes ≡ bytes
after_stop [] s = refl
after_stop (b ∷ bytes) s = cond-false _ _ _ s

leading_behind : (digits back : List ℕ) → All IsDigit digits → leading_digits (digits ++ back) ≡ digits ++ leading_digits back
leading_behind [] back all = refl
leading_behind (d ∷ digits) back all = cond-true _ _ _ (All-head IsDigit d digits all) ∙ ap (λ (xs : List ℕ). d ∷ xs) (leading_behind digits back (All-tail IsDigit d digits all))

after_behind : (digits back : List ℕ) → All IsDigit digits → after_digits (digits ++ back) ≡ after_digits back
after_behind [] back all = refl
after_behind (d ∷ digits) back all = cond-true _ _ _ (All-head IsDigit d digits all) ∙ after_behind digits back (All-tail IsDigit d digits all)

digits_take : (digits back : List ℕ) → AreDigits digits → digits_at (digits ++ back) ≡ taken (digits ++ leading_digits back) (after_digits back)
digits_take [] back are = absurd (are.0 refl)
digits_take (d ∷ digits) back are = λ i. some_digits (leading_behind (d ∷ digits) back are.1 i) (after_behind (d ∷ digits) back are.1 i)

digits_stop : (digits back : List ℕ) → AreDigits digits → Stops back → digits_at (digits ++ back) ≡ taken digits back
digits_stop digits back are s = digits_take digits back are ∙ (λ i. taken (digits ++ leading_stop back s i) (after_stop back s i)) ∙ ap (λ (xs : List ℕ). taken xs back) (append-nil digits)

digits_least : (digits back : List ℕ) → AreDigits digits → AtLeast (length digits) (digits_at (digits ++ back))
digits_least digits back are =
    record { piece = digits ++ leading_digits back; rest = after_digits back; took = digits_take digits back are; long = omega (arith, length-append digits (leading_digits back)) }

-- ---- frac and exp

-- a digit is none of these marks
no_mark : (b c : ℕ) → is_ascii_digit c ≡ false → is_ascii_digit b ≡ true → (b == c) ≡ false
no_mark b c f t =
    elim (cases_Bool (b == c)) [
      | inl e ↦ absurd (true≢false (sym t ∙ (ap is_ascii_digit (eqb-true b c e) ∙ f)))
      | inr n ↦ n
    ]

neither_mark : (b c d : ℕ) → (b == c) ≡ false → (b == d) ≡ false → (b == c || b == d) ≡ false
neither_mark b c d p q = rw (p, q) refl

sign_stop : (digits back : List ℕ) → AreDigits digits → one_of (λ b. b == 43 || b == 45) (digits ++ back) ≡ refused tt
sign_stop [] back are = absurd (are.0 refl)
sign_stop (d ∷ digits) back are =
    let t = All-head IsDigit d digits are.1 in
    cond-false _ _ _ (neither_mark d 43 45 (no_mark d 43 refl t) (no_mark d 45 refl t))

signed_least : (sign digits back : List ℕ) → Missing IsSign sign → AreDigits digits → AtLeast (length sign + length digits) (piece_then (maybe (one_of (λ b. b == 43 || b == 45))) digits_at (sign ++ (digits ++ back)))
signed_least sign digits back (inl none) are =
    let reader = one_of (λ b. b == 43 || b == 45) in
    subst (λ front. AtLeast (length front + length digits) (piece_then (maybe reader) digits_at (front ++ (digits ++ back)))) (sym none)
    (joined_least (maybe reader) digits_at (digits ++ back) [] (digits ++ back) (maybe_refused reader (digits ++ back) (sign_stop digits back are)) (length digits) (digits_least digits back are))
signed_least sign digits back (inr (inl plus)) are =
    let reader = one_of (λ b. b == 43 || b == 45) in
    subst (λ front. AtLeast (length front + length digits) (piece_then (maybe reader) digits_at (front ++ (digits ++ back)))) (sym plus)
    (joined_least (maybe reader) digits_at (43 ∷ (digits ++ back)) (43 ∷ []) (digits ++ back) refl (length digits) (digits_least digits back are))
signed_least sign digits back (inr (inr minus)) are =
    let reader = one_of (λ b. b == 43 || b == 45) in
    subst (λ front. AtLeast (length front + length digits) (piece_then (maybe reader) digits_at (front ++ (digits ++ back)))) (sym minus)
    (joined_least (maybe reader) digits_at (45 ∷ (digits ++ back)) (45 ∷ []) (digits ++ back) refl (length digits) (digits_least digits back are))

mark_taken : (mark : ℕ) (rest : List ℕ) → (mark ≡ 101) ⊎ (mark ≡ 69) → one_of (λ b. b == 101 || b == 69) (mark ∷ rest) ≡ taken (mark ∷ []) rest
mark_taken mark rest (inl e) = subst (λ b. one_of (λ x. x == 101 || x == 69) (b ∷ rest) ≡ taken (b ∷ []) rest) (sym e) refl
mark_taken mark rest (inr e) = subst (λ b. one_of (λ x. x == 101 || x == 69) (b ∷ rest) ≡ taken (b ∷ []) rest) (sym e) refl

marked_least : (mark : ℕ) (sign digits back : List ℕ) → (mark ≡ 101) ⊎ (mark ≡ 69) → Missing IsSign sign → AreDigits digits → AtLeast (1 + (length sign + length digits)) (exp_at (mark ∷ (sign ++ (digits ++ back))))
marked_least mark sign digits back m s are =
    joined_least (one_of (λ b. b == 101 || b == 69)) (piece_then (maybe (one_of (λ b. b == 43 || b == 45))) digits_at) (mark ∷ (sign ++ (digits ++ back))) (mark ∷ []) (sign ++ (digits ++ back))
    (mark_taken mark (sign ++ (digits ++ back)) m) (length sign + length digits) (signed_least sign digits back s are)

exp_least : (exp back : List ℕ) → IsExp exp → AtLeast (length exp) (exp_at (exp ++ back))
exp_least exp back is =
    let read = marked_least is.mark is.sign is.digits back is.is_mark is.is_sign is.are_digits in
    let same : exp ++ back ≡ is.mark ∷ (is.sign ++ (is.digits ++ back)) = ap (λ (xs : List ℕ). xs ++ back) is.parts ∙ ap (λ (xs : List ℕ). is.mark ∷ xs) (append_assoc is.sign is.digits back) in
    fewer (length exp) _ _ (omega (arith, ap length is.parts, length-append is.sign is.digits)) (subst (λ bytes. AtLeast (1 + (length is.sign + length is.digits)) (exp_at bytes)) (sym same) read)

maybe_exp : (exp back : List ℕ) → Missing IsExp exp → AtLeast (length exp) (maybe exp_at (exp ++ back))
maybe_exp exp back (inl none) = subst (λ text. AtLeast (length text) (maybe exp_at (text ++ back))) (sym none) (maybe_any exp_at back)
maybe_exp exp back (inr is) = maybe_least exp_at (exp ++ back) (length exp) (exp_least exp back is)

-- behind a mark of an exponent neither a digit nor a point goes on
exp_first : (exp back : List ℕ) → IsExp exp → Stops (exp ++ back) × (frac_at (exp ++ back) ≡ refused tt)
exp_first exp back is = subst (λ text. Stops (text ++ back) × (frac_at (text ++ back) ≡ refused tt)) (sym is.parts) (go is.mark is.is_mark)
  where
    go : (mark : ℕ) → (mark ≡ 101) ⊎ (mark ≡ 69) → Stops (mark ∷ ((is.sign ++ is.digits) ++ back)) × (frac_at (mark ∷ ((is.sign ++ is.digits) ++ back)) ≡ refused tt)
    go mark (inl e) = subst (λ b. Stops (b ∷ ((is.sign ++ is.digits) ++ back)) × (frac_at (b ∷ ((is.sign ++ is.digits) ++ back)) ≡ refused tt)) (sym e) (refl, refl)
    go mark (inr e) = subst (λ b. Stops (b ∷ ((is.sign ++ is.digits) ++ back)) × (frac_at (b ∷ ((is.sign ++ is.digits) ++ back)) ≡ refused tt)) (sym e) (refl, refl)

abbrev tail_at : Reader
tail_at bytes = piece_then (maybe frac_at) (maybe exp_at) bytes

tail_any : (bytes : List ℕ) → AtLeast 0 (tail_at bytes)
tail_any bytes =
    let front = maybe_any frac_at bytes in
    fewer 0 _ _ (omega arith) (joined_least (maybe frac_at) (maybe exp_at) bytes front.piece front.rest front.took 0 (maybe_any exp_at front.rest))

frac_taken : (digits back : List ℕ) → AreDigits digits → frac_at (46 ∷ (digits ++ back)) ≡ taken (46 ∷ (digits ++ leading_digits back)) (after_digits back)
frac_taken digits back are = ap (behind_piece (46 ∷ [])) (digits_take digits back are)

point_least : (digits exp back : List ℕ) → AreDigits digits → Missing IsExp exp → AtLeast (1 + (length digits + length exp)) (tail_at (46 ∷ (digits ++ (exp ++ back))))
point_least digits exp back are (inl none) =
    let after = exp ++ back in
    let read = joined_least (maybe frac_at) (maybe exp_at) (46 ∷ (digits ++ after)) (46 ∷ (digits ++ leading_digits after)) (after_digits after) (maybe_took frac_at frac_at (46 ∷ (digits ++ after)) _ _ (frac_taken digits after are)) 0 (maybe_any exp_at (after_digits after)) in
    fewer (1 + (length digits + length exp)) _ _ (omega (arith, ap length none, length-append digits (leading_digits after))) read
point_least digits exp back are (inr is) =
    let after = exp ++ back in
    let stop = (exp_first exp back is).0 in
    let front : frac_at (46 ∷ (digits ++ after)) ≡ taken (46 ∷ digits) after = ap (behind_piece (46 ∷ [])) (digits_stop digits after are stop) in
    let read = joined_least (maybe frac_at) (maybe exp_at) (46 ∷ (digits ++ after)) (46 ∷ digits) after (maybe_took frac_at frac_at (46 ∷ (digits ++ after)) _ _ front) (length exp) (maybe_exp exp back (inr is)) in
    fewer (1 + (length digits + length exp)) _ _ (omega arith) read

exp_alone : (exp back : List ℕ) → Missing IsExp exp → AtLeast (length exp) (tail_at (exp ++ back))
exp_alone exp back (inl none) = subst (λ text. AtLeast (length text) (tail_at (text ++ back))) (sym none) (tail_any back)
exp_alone exp back (inr is) =
    fewer (length exp) _ _ (omega arith)
    (joined_least (maybe frac_at) (maybe exp_at) (exp ++ back) [] (exp ++ back) (maybe_refused frac_at (exp ++ back) (exp_first exp back is).1) (length exp) (maybe_exp exp back (inr is)))

with_frac : (frac exp back : List ℕ) → IsFrac frac → Missing IsExp exp → AtLeast (length frac + length exp) (tail_at (frac ++ (exp ++ back)))
with_frac [] exp back is e = absurd is
with_frac (b ∷ digits) exp back is e =
    fewer (length (b ∷ digits) + length exp) _ _ (omega arith)
    (subst (λ c. AtLeast (1 + (length digits + length exp)) (tail_at (c ∷ (digits ++ (exp ++ back))))) (sym is.0) (point_least digits exp back is.1 e))

tail_parts : (frac exp back : List ℕ) → Missing IsFrac frac → Missing IsExp exp → AtLeast (length frac + length exp) (tail_at (frac ++ (exp ++ back)))
tail_parts frac exp back (inl none) e = subst (λ text. AtLeast (length text + length exp) (tail_at (text ++ (exp ++ back)))) (sym none) (fewer (0 + length exp) _ _ (omega arith) (exp_alone exp back e))
tail_parts frac exp back (inr is) e = with_frac frac exp back is e

tail_least : (tail back : List ℕ) → IsTail tail → AtLeast (length tail) (tail_at (tail ++ back))
tail_least tail back is =
    let same : tail ++ back ≡ is.frac ++ (is.exp ++ back) = ap (λ (xs : List ℕ). xs ++ back) is.parts ∙ append_assoc is.frac is.exp back in
    fewer (length tail) _ _ (omega (arith, ap length is.parts, length-append is.frac is.exp)) (subst (λ bytes. AtLeast (length is.frac + length is.exp) (tail_at bytes)) (sym same) (tail_parts is.frac is.exp back is.is_frac is.is_exp))

-- a tail that isn't empty begins with a point or a mark of an exponent
tail_stops : (tail back : List ℕ) → IsTail tail → (tail ≡ []) ⊎ Stops (tail ++ back)
tail_stops tail back is = by_frac is.frac is.exp is.parts is.is_frac is.is_exp
  where
    by_frac : (frac exp : List ℕ) → tail ≡ frac ++ exp → Missing IsFrac frac → Missing IsExp exp → (tail ≡ []) ⊎ Stops (tail ++ back)
    by_frac frac exp e (inl none) (inl none_too) = inl (e ∙ (λ i. none i ++ none_too i))
    by_frac frac exp e (inl none) (inr mark) = inr (subst (λ text. Stops (text ++ back)) (sym (e ∙ ap (λ (xs : List ℕ). xs ++ exp) none)) (exp_first exp back mark).0)
    by_frac [] exp e (inr point) x = absurd point
    by_frac (b ∷ digits) exp e (inr point) x = inr (subst (λ text. Stops (text ++ back)) (sym e) (ap is_ascii_digit point.0))

-- ---- the whole

abbrev body_at : Reader
body_at bytes = piece_then int_at tail_at bytes

int_other : (b : ℕ) (digits back : List ℕ) → b ≢ 48 → int_at ((b ∷ digits) ++ back) ≡ digits_at ((b ∷ digits) ++ back)
int_other b digits back n = cond-false _ _ _ (ne_eqb b 48 n)

zero_least : (tail back : List ℕ) → IsTail tail → AtLeast (1 + length tail) (body_at (48 ∷ (tail ++ back)))
zero_least tail back is = joined_least int_at tail_at (48 ∷ (tail ++ back)) (48 ∷ []) (tail ++ back) refl (length tail) (tail_least tail back is)

digits_then : (b : ℕ) (digits tail back : List ℕ) → b ≢ 48 → AreDigits (b ∷ digits) → IsTail tail → (tail ≡ []) ⊎ Stops (tail ++ back) → AtLeast (length (b ∷ digits) + length tail) (body_at ((b ∷ digits) ++ (tail ++ back)))
digits_then b digits tail back n are is (inl none) =
    let after = tail ++ back in
    let took = int_other b digits after n ∙ digits_take (b ∷ digits) after are in
    let read = joined_least int_at tail_at ((b ∷ digits) ++ after) ((b ∷ digits) ++ leading_digits after) (after_digits after) took 0 (tail_any (after_digits after)) in
    fewer (length (b ∷ digits) + length tail) _ _ (omega (arith, ap length none, length-append (b ∷ digits) (leading_digits after))) read
digits_then b digits tail back n are is (inr stops) =
    let after = tail ++ back in
    joined_least int_at tail_at ((b ∷ digits) ++ after) (b ∷ digits) after (int_other b digits after n ∙ digits_stop (b ∷ digits) after are stops) (length tail) (tail_least tail back is)

body_least : (int tail back : List ℕ) → IsInt int → IsTail tail → AtLeast (length int + length tail) (body_at (int ++ (tail ++ back)))
body_least [] tail back is t = absurd is
body_least (b ∷ digits) tail back (inl (z, none)) t =
    subst (λ (text : List ℕ). AtLeast (length text + length tail) (body_at (text ++ (tail ++ back)))) (sym (λ i. z i ∷ none i)) (zero_least tail back t)
body_least (b ∷ digits) tail back (inr (n, are)) t = digits_then b digits tail back n are t (tail_stops tail back t)

minus_stop : (int back : List ℕ) → IsInt int → one_of (λ b. b == 45) (int ++ back) ≡ refused tt
minus_stop [] back is = absurd is
minus_stop (b ∷ digits) back (inl (z, none)) = subst (λ c. one_of (λ x. x == 45) (c ∷ (digits ++ back)) ≡ refused tt) (sym z) refl
minus_stop (b ∷ digits) back (inr (n, are)) = cond-false _ _ _ (no_mark b 45 refl (All-head IsDigit b digits are.1))

number_parts : (minus int tail back : List ℕ) → Missing IsMinus minus → IsInt int → IsTail tail → AtLeast (length minus + (length int + length tail)) (number_at (minus ++ (int ++ (tail ++ back))))
number_parts minus int tail back (inl none) i t =
    let reader = one_of (λ b. b == 45) in
    let bytes = int ++ (tail ++ back) in
    subst (λ front. AtLeast (length front + (length int + length tail)) (number_at (front ++ bytes))) (sym none)
    (joined_least (maybe reader) body_at bytes [] bytes (maybe_refused reader bytes (minus_stop int (tail ++ back) i)) (length int + length tail) (body_least int tail back i t))
number_parts minus int tail back (inr minus_is) i t =
    let reader = one_of (λ b. b == 45) in
    let bytes = int ++ (tail ++ back) in
    subst (λ front. AtLeast (length front + (length int + length tail)) (number_at (front ++ bytes))) (sym minus_is)
    (joined_least (maybe reader) body_at (45 ∷ bytes) (45 ∷ []) bytes refl (length int + length tail) (body_least int tail back i t))

pub number_least : (number back : List ℕ) → IsNumber number → AtLeast (length number) (number_at (number ++ back))
number_least number back is =
    let same : number ++ back ≡ is.minus ++ (is.int ++ (is.tail ++ back)) =
    ap (λ (xs : List ℕ). xs ++ back) is.parts ∙ (append_assoc is.minus (is.int ++ is.tail) back ∙ ap (λ (xs : List ℕ). is.minus ++ xs) (append_assoc is.int is.tail back)) in
    fewer (length number) _ _ (omega (arith, ap length is.parts, length-append is.minus (is.int ++ is.tail), length-append is.int is.tail))
    (subst (λ bytes. AtLeast (length is.minus + (length is.int + length is.tail)) (number_at bytes)) (sym same) (number_parts is.minus is.int is.tail back is.is_minus is.is_int is.is_tail))

one_piece : (out : Read (List ℕ)) (piece rest other left : List ℕ) → out ≡ taken piece rest → out ≡ taken other left → piece ≡ other
one_piece out piece rest other left e f = let both : ◌≡◌ {A = Read (List ℕ)} (taken piece rest) (taken other left) = sym e ∙ f in cc

pub longest_number : LongestNumber
longest_number = record {
  is_number = λ bytes number rest e. subst (Fits IsNumber bytes) e (number_fits bytes);
  longest = λ bytes number rest front back e split is.
      let least = number_least front back is in
      let took : number_at bytes ≡ taken least.piece least.rest = ap number_at split ∙ least.took in
      let same = one_piece (number_at bytes) number rest least.piece least.rest e took in
      let long = least.long in
      omega (arith, ap length same);
  none = λ bytes front back e split is.
      let least = number_least front back is in
      never_both (ap number_at split ∙ least.took) e;
}
