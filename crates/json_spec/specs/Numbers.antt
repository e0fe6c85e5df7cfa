-- Numbers. RFC 8259, 6.
--     IsNumber text      the text is a number
--     number_at bytes      the number that the bytes begin with, the longest one, as it is written
use Rattle.std.specs.Char.{is_ascii_digit}
use Rattle.std.specs.Prelude.{◌≡◌, ◌≢◌, ◌⊎◌, ℕ, Bool, true, List, [], ◌∷◌, ◌++◌, if◌then◌else◌, ◌==◌, ◌||◌, All}
use Rattle.json_spec.specs.Taken.{taken, refused, Read, and_then, behind_piece, or_else}

-- ---- the grammar

-- RFC 8259, 6: one digit or more
abbrev pub AreDigits : List ℕ → Type 0
AreDigits text = (text ≢ []) × All (λ b. is_ascii_digit b ≡ true) text

-- RFC 8259, 6: int, a zero or digits that begin with no zero
abbrev pub IsInt : List ℕ → Type 0
IsInt [] = ⊥
IsInt (b ∷ digits) = ((b ≡ 48) × (digits ≡ [])) ⊎ ((b ≢ 48) × AreDigits (b ∷ digits))

-- RFC 8259, 6: frac, a point and digits
abbrev pub IsFrac : List ℕ → Type 0
IsFrac [] = ⊥
IsFrac (b ∷ digits) = (b ≡ 46) × AreDigits digits

-- RFC 8259, 6: exp, an `e` in either case, a sign or none, and digits
pub record IsExp (text : List ℕ) : Type 0 where
  pub mark : ℕ
  pub sign : List ℕ
  pub digits : List ℕ
  pub parts : text ≡ mark ∷ (sign ++ digits)
  pub is_mark : (mark ≡ 101) ⊎ (mark ≡ 69)
  pub is_sign : (sign ≡ []) ⊎ ((sign ≡ 43 ∷ []) ⊎ (sign ≡ 45 ∷ []))
  pub are_digits : AreDigits digits

-- RFC 8259, 6: frac and exp, where each may be missing
pub record IsTail (text : List ℕ) : Type 0 where
  pub frac : List ℕ
  pub exp : List ℕ
  pub parts : text ≡ frac ++ exp
  pub is_frac : (frac ≡ []) ⊎ IsFrac frac
  pub is_exp : (exp ≡ []) ⊎ IsExp exp

-- RFC 8259, 6: number, a minus or none, int, and what may stand behind it
pub record IsNumber (text : List ℕ) : Type 0 where
  pub minus : List ℕ
  pub int : List ℕ
  pub tail : List ℕ
  pub parts : text ≡ minus ++ (int ++ tail)
  pub is_minus : (minus ≡ []) ⊎ (minus ≡ 45 ∷ [])
  pub is_int : IsInt int
  pub is_tail : IsTail tail

-- ---- the number at the front of some bytes

-- the digits that the bytes begin with
abbrev pub leading_digits : List ℕ → List ℕ
leading_digits [] = []
leading_digits (b ∷ bytes) = if is_ascii_digit b then b ∷ leading_digits bytes else []

-- the bytes after the digits that they begin with
abbrev pub after_digits : List ℕ → List ℕ
after_digits [] = []
after_digits (b ∷ bytes) = if is_ascii_digit b then after_digits bytes else b ∷ bytes

-- one digit or more
abbrev pub some_digits : List ℕ → List ℕ → Read (List ℕ)
some_digits [] rest = refused tt
some_digits (d ∷ digits) rest = taken (d ∷ digits) rest

-- the digits at the front, one or more
abbrev pub digits_at : List ℕ → Read (List ℕ)
digits_at bytes = some_digits (leading_digits bytes) (after_digits bytes)

-- one piece and then another
abbrev pub piece_then : (List ℕ → Read (List ℕ)) → (List ℕ → Read (List ℕ)) → List ℕ → Read (List ℕ)
piece_then one another bytes = and_then (one bytes) (λ piece rest. behind_piece piece (another rest))

-- a piece that may be missing
abbrev pub maybe : (List ℕ → Read (List ℕ)) → List ℕ → Read (List ℕ)
maybe one bytes = or_else (one bytes) (taken [] bytes)

-- one byte that passes a test
abbrev pub one_of : (ℕ → Bool) → List ℕ → Read (List ℕ)
one_of test [] = refused tt
one_of test (b ∷ bytes) = if test b then taken (b ∷ []) bytes else refused tt

-- RFC 8259, 6: int, a zero or all digits at the front
abbrev pub int_at : List ℕ → Read (List ℕ)
int_at [] = refused tt
int_at (b ∷ bytes) = if b == 48 then taken (b ∷ []) bytes else digits_at (b ∷ bytes)

-- RFC 8259, 6: frac, a point and all digits behind it
abbrev pub frac_at : List ℕ → Read (List ℕ)
frac_at bytes = piece_then (one_of (λ b. b == 46)) digits_at bytes

-- RFC 8259, 6: exp, an `e` in either case, a sign or none, and all digits behind it
abbrev pub exp_at : List ℕ → Read (List ℕ)
exp_at bytes =
    piece_then (one_of (λ b. b == 101 || b == 69))
    (piece_then (maybe (one_of (λ b. b == 43 || b == 45))) digits_at) bytes

abbrev pub number_at : List ℕ → Read (List ℕ)
number_at bytes =
    piece_then (maybe (one_of (λ b. b == 45))) (piece_then int_at (piece_then (maybe frac_at) (maybe exp_at))) bytes
