-- What is left behind a token is an end of the text, and shorter than what was left before it.
use Rattle.std.specs.Prelude.{◌≡◌, ℕ, zero, suc, ◌-◌, ◌<◌, ◌≤◌, Bool, true, false, not, ◌&&◌, ◌||◌, ◌==◌, nat_le, List, [], ◌∷◌, if◌then◌else◌, Option, Some, None, length, drop}
use Rattle.std.specs.Char.{is_ascii_digit}
use Rattle.std.proofs.Common.{refl, sym, ap, subst, arith}
use Rattle.std.proofs.lemmas.Bool.{and_parts, not-true}
use Rattle.module_spec.specs.declared.token.Mark.{Mark}
use Rattle.module_spec.specs.declared.token.Sort.{Sort}
use Rattle.module_spec.specs.declared.token.Sort.TheVariants.{Text}
use Rattle.module_spec.specs.declared.token.Bracket.{Bracket}
use Rattle.module_spec.specs.declared.token.LexKind.{LexKind}
use Rattle.module_spec.specs.declared.token.LexKind.TheVariants.{Unreadable}
use Rattle.module_spec.specs.Sorts.{opens, closes}
use Rattle.module_spec.specs.Characters.{space_size, is_name_byte, begins_digit, begins_name, name_size, passed}
use Rattle.module_spec.specs.Spellings.{hashbang_rest, line_rest, comment_rest, slash_rest, blank_rest, number_size, begins_sign, begins_number, has_base_letter, text_size, closed_rest, text_rest, begins_substitution, template_size, part_rest, template_rest, regex_body_rest, begins_with, first_of, punctuators, punctuator, is_question_before_number}
use Rattle.module_spec.specs.Tokens.{Piece, as_piece, first_part, later_part, regex_piece, punctuator_piece, slash_piece, private_piece, piece, Lexeme, Next, next_from, next_at, unless_refused, refusal, Skips, IsNext, is_template, opener, depth}
use Rattle.module_spec.specs.Tokens.Next.{Ends, Faults, Gives}
use Rattle.module_spec.specs.Tokens.Skips.{stop, more}
use Rattle.module_spec.specs.Tokens.IsNext.{next}

-- `Suffix rest bytes`: the bytes end with the rest
pub data Suffix : List ℕ → List ℕ → Type 0 where
  whole : {bytes : List ℕ} → Suffix bytes bytes
  behind : {b : ℕ} {rest bytes : List ℕ} → Suffix rest bytes → Suffix rest (b ∷ bytes)

-- the same of what a reader gives, where it gives something
pub data Rests : Option (List ℕ) → List ℕ → Type 0 where
  nothing : {bytes : List ℕ} → Rests None bytes
  something : {rest bytes : List ℕ} → Suffix rest bytes → Rests (Some rest) bytes

pub data PartRests : Option (Bool × List ℕ) → List ℕ → Type 0 where
  no_part : {bytes : List ℕ} → PartRests None bytes
  a_part : {closed : Bool} {rest bytes : List ℕ} → Suffix rest bytes → PartRests (Some (closed, rest)) bytes

pub data PieceRests : Piece → List ℕ → Type 0 where
  no_piece : {bytes : List ℕ} → PieceRests None bytes
  a_piece : {sort : Sort} {rest bytes : List ℕ} → Suffix rest bytes → PieceRests (Some (sort, rest)) bytes

pub joined : {a b c : List ℕ} → Suffix a b → Suffix b c → Suffix a c
joined s whole = s
joined s (behind t) = behind (joined s t)

pub at_most : {a b : List ℕ} → Suffix a b → length a ≤ length b
at_most whole = omega arith
at_most (behind s) = let l = at_most s in omega arith

later : {b : ℕ} {bytes : List ℕ} {out : Option (List ℕ)} → Rests out bytes → Rests out (b ∷ bytes)
later nothing = nothing
later (something s) = something (behind s)

-- ---- a choice of two

if_suffix : (c : Bool) {bytes x y : List ℕ} → Suffix x bytes → Suffix y bytes → Suffix (if c then x else y) bytes
if_suffix true a b = a
if_suffix false a b = b

if_rests : (c : Bool) {bytes : List ℕ} {x y : Option (List ℕ)} → Rests x bytes → Rests y bytes → Rests (if c then x else y) bytes
if_rests true a b = a
if_rests false a b = b

if_part : (c : Bool) {bytes : List ℕ} {x y : Option (Bool × List ℕ)} → PartRests x bytes → PartRests y bytes → PartRests (if c then x else y) bytes
if_part true a b = a
if_part false a b = b

-- the second choice may use that the test fails, and the first that it holds
if_piece : (c : Bool) {bytes : List ℕ} {x y : Piece} → (c ≡ true → PieceRests x bytes) → PieceRests y bytes → PieceRests (if c then x else y) bytes
if_piece true a b = a refl
if_piece false a b = b

-- ---- each reader

dropped : (n : ℕ) (bytes : List ℕ) → Suffix (drop n bytes) bytes
dropped zero bytes = whole
dropped (suc n) [] = whole
dropped (suc n) (b ∷ bytes) = behind (dropped n bytes)

passed_suffix : (size : List ℕ → ℕ) (k : ℕ) (bytes : List ℕ) → Suffix (passed size k bytes) bytes
passed_suffix size k [] = whole
passed_suffix size (suc k) (b ∷ rest) = behind (passed_suffix size k rest)
passed_suffix size zero (b ∷ rest) = if_suffix (size (b ∷ rest) == 0) whole (behind (passed_suffix size (size (b ∷ rest) - 1) rest))

-- behind a piece that has a size
passed_some : (size : List ℕ → ℕ) (b : ℕ) (rest : List ℕ) → (size (b ∷ rest) == 0) ≡ false → Suffix (passed size 0 (b ∷ rest)) rest
passed_some size b rest e = rw e (passed_suffix size (size (b ∷ rest) - 1) rest)

line_suffix : (bytes : List ℕ) → Suffix (line_rest bytes) bytes
line_suffix [] = whole
line_suffix (b ∷ rest) = if_suffix _ whole (behind (line_suffix rest))

pub hashbang_suffix : (bytes : List ℕ) → Suffix (hashbang_rest bytes) bytes
hashbang_suffix [] = whole
hashbang_suffix (b ∷ []) = whole
hashbang_suffix (b ∷ c ∷ rest) = if_suffix _ (behind (behind (line_suffix rest))) whole

comment_suffix : (bytes : List ℕ) → Rests (comment_rest bytes) bytes
comment_suffix [] = nothing
comment_suffix (b ∷ rest) = if_rests _ (something (behind (dropped 1 rest))) (later (comment_suffix rest))

slash_suffix : (bytes : List ℕ) → Rests (slash_rest bytes) bytes
slash_suffix [] = nothing
slash_suffix (b ∷ rest) = if_rests _ (something (behind (line_suffix rest))) (if_rests _ (later (comment_suffix rest)) nothing)

of_some : {rest bytes : List ℕ} → Rests (Some rest) bytes → Suffix rest bytes
of_some (something s) = s

dropped_some : (n b : ℕ) (rest : List ℕ) → (n == 0) ≡ false → Suffix (drop n (b ∷ rest)) rest
dropped_some zero b rest e = absurd (cc)
dropped_some (suc n) b rest e = dropped n rest

chosen : (c : Bool) {bytes : List ℕ} {out : List ℕ} → (c ≡ false → Suffix out bytes) → Rests (if c then None else Some out) bytes
chosen true s = nothing
chosen false s = something (s refl)

if_no_size : (n : ℕ) {bytes : List ℕ} {out : List ℕ} → ((n == 0) ≡ false → Suffix out bytes) → Rests (if n == 0 then None else Some out) bytes
if_no_size n s = chosen (n == 0) s

blank_suffix : (b : ℕ) (rest : List ℕ) → Rests (blank_rest (b ∷ rest)) rest
unfolding blank_rest
blank_suffix b rest = if_rests (b == 47) (slash_suffix rest) (if_no_size (space_size (b ∷ rest)) (λ e. dropped_some _ b rest e))

blank_from : (bytes rest : List ℕ) → blank_rest bytes ≡ Some rest → (b : ℕ) × (tail : List ℕ) × (bytes ≡ b ∷ tail) × Suffix rest tail
unfolding blank_rest
blank_from [] rest e = absurd (cc)
blank_from (b ∷ tail) rest e = (b, tail, refl, of_some (subst (λ out. Rests out tail) e (blank_suffix b tail)))

-- white space takes a byte at least
pub blank_shorter : (bytes rest : List ℕ) → blank_rest bytes ≡ Some rest → length rest < length bytes
blank_shorter bytes rest e = let parts = blank_from bytes rest e in let l = at_most parts.3 in let f : length bytes ≡ suc (length parts.1) = ap length parts.2 in omega arith

closed_suffix : (quote : ℕ) (rest bytes : List ℕ) → Suffix rest bytes → Rests (closed_rest quote rest) bytes
closed_suffix quote [] bytes s = nothing
closed_suffix quote (b ∷ rest) bytes s = if_rests (b == quote) (something (joined (behind whole) s)) nothing

text_suffix : (quote : ℕ) (bytes : List ℕ) → Rests (text_rest quote bytes) bytes
text_suffix quote bytes = closed_suffix quote (passed (text_size quote) 0 bytes) bytes (passed_suffix (text_size quote) 0 bytes)

part_suffix : (rest bytes : List ℕ) → Suffix rest bytes → PartRests (part_rest rest) bytes
part_suffix [] bytes s = no_part
part_suffix (b ∷ rest) bytes s =
    if_part (b == 96) (a_part {closed = true} (joined (behind whole) s)) (if_part (begins_substitution (b ∷ rest)) (a_part {closed = false} (joined (behind (dropped 1 rest)) s)) no_part)

template_suffix : (bytes : List ℕ) → PartRests (template_rest bytes) bytes
template_suffix bytes = part_suffix (passed template_size 0 bytes) bytes (passed_suffix template_size 0 bytes)

regex_suffix : (class escaped : Bool) (bytes : List ℕ) → Rests (regex_body_rest class escaped bytes) bytes
regex_suffix class escaped [] = nothing
regex_suffix class escaped (b ∷ rest) =
    if_rests _ nothing (if_rests _ (later (regex_suffix class false rest)) (if_rests _ (something (behind whole)) (later (regex_suffix (b == 91 || class && not (b == 93)) (b == 92) rest))))

-- ---- tokens

text_piece : {out : Option (List ℕ)} {bytes : List ℕ} (sort : Sort) → Rests out bytes → PieceRests (as_piece sort out) bytes
text_piece sort nothing = no_piece
text_piece sort (something s) = a_piece s

first_piece : {out : Option (Bool × List ℕ)} {bytes : List ℕ} → PartRests out bytes → PieceRests (first_part out) bytes
first_piece no_part = no_piece
first_piece (a_part s) = a_piece s

later_piece : {out : Option (Bool × List ℕ)} {bytes : List ℕ} → PartRests out bytes → PieceRests (later_part out) bytes
later_piece no_part = no_piece
later_piece (a_part s) = a_piece s

regex_flags : {out : Option (List ℕ)} {bytes : List ℕ} → Rests out bytes → PieceRests (regex_piece out) bytes
regex_flags nothing = no_piece
regex_flags (something {rest} s) = a_piece (joined (passed_suffix (λ bytes. name_size bytes) 0 rest) s)

-- a mark takes a byte at least
data TakesSome : Option (Mark × ℕ) → Type 0 where
  no_mark : TakesSome None
  a_mark : {mark : Mark} {n : ℕ} → TakesSome (Some (mark, suc n))

if_mark : (c : Bool) {x y : Option (Mark × ℕ)} → TakesSome x → TakesSome y → TakesSome (if c then x else y)
if_mark true a b = a
if_mark false a b = b

abbrev is_spelled : List ℕ → Bool
is_spelled [] = false
is_spelled (b ∷ text) = true

abbrev all_spelled : List (List ℕ × Mark) → Bool
all_spelled [] = true
all_spelled (row ∷ table) = is_spelled row.0 && all_spelled table

row_takes : (text : List ℕ) (mark : Mark) → is_spelled text ≡ true → TakesSome (Some (mark, length text))
row_takes [] mark e = absurd (cc)
row_takes (b ∷ text) mark e = a_mark

table_takes : (table : List (List ℕ × Mark)) (bytes : List ℕ) → all_spelled table ≡ true → TakesSome (first_of table bytes)
table_takes [] bytes e = no_mark
table_takes (row ∷ table) bytes e = let parts = and_parts (is_spelled row.0) (all_spelled table) e in if_mark (begins_with row.0 bytes) (row_takes row.0 row.1 parts.0) (table_takes table bytes parts.1)

mark_takes : (bytes : List ℕ) → TakesSome (punctuator bytes)
mark_takes bytes = if_mark (is_question_before_number bytes) a_mark (table_takes punctuators bytes refl)

mark_piece : {found : Option (Mark × ℕ)} (b : ℕ) (rest : List ℕ) → TakesSome found → PieceRests (punctuator_piece (b ∷ rest) found) rest
mark_piece b rest no_mark = no_piece
mark_piece b rest (a_mark {n}) = a_piece (dropped n rest)

slash_piece_suffix : (regex : Bool) (rest : List ℕ) → PieceRests (slash_piece regex rest) rest
slash_piece_suffix regex [] = if_piece regex (λ e. no_piece) (mark_piece 47 [] (mark_takes (47 ∷ [])))
slash_piece_suffix regex (b ∷ rest) = if_piece _ (λ e. no_piece) (if_piece regex (λ e. regex_flags (regex_suffix false false (b ∷ rest))) (mark_piece 47 (b ∷ rest) (mark_takes (47 ∷ b ∷ rest))))

private_suffix : (rest : List ℕ) → PieceRests (private_piece rest) rest
private_suffix rest = if_piece (begins_name rest) (λ e. a_piece (passed_suffix (λ bytes. name_size bytes) 0 rest)) no_piece

-- a digit is a character of names, and a point that begins a number is a part of it
or_third : (l u d s t : Bool) → d ≡ true → (l || u || d || s || t) ≡ true
or_third true u d s t e = refl
or_third false true d s t e = refl
or_third false false d s t e = rw e refl

if_one : (c : Bool) (n : ℕ) → c ≡ true → ((if c then 1 else n) == 0) ≡ false
if_one true n e = refl
if_one false n e = absurd (cc)

digit_some : (b : ℕ) (rest : List ℕ) → is_ascii_digit b ≡ true → (name_size (b ∷ rest) == 0) ≡ false
unfolding name_size
digit_some b rest e = if_one (is_name_byte b) _ (or_third (nat_le 97 b && nat_le b 122) (nat_le 65 b && nat_le b 90) (is_ascii_digit b) (b == 95) (b == 36) e)

name_some : (b : ℕ) (rest : List ℕ) → begins_name (b ∷ rest) ≡ true → (name_size (b ∷ rest) == 0) ≡ false
name_some b rest e = not-true _ (and_parts (not (is_ascii_digit b)) (not (name_size (b ∷ rest) == 0)) e).1

number_case : (d p q r : Bool) (n : ℕ) → (d || p && r) ≡ true → (d ≡ true → (n == 0) ≡ false) → ((if p then 1 else if q then 2 else n) == 0) ≡ false
number_case d true q r n e h = refl
number_case d false true r n e h = refl
number_case true false false r n e h = h refl
number_case false false false r n e h = absurd (cc)

number_some : (exponent : Bool) (b : ℕ) (rest : List ℕ) → begins_number (b ∷ rest) ≡ true → (number_size exponent (b ∷ rest) == 0) ≡ false
number_some exponent b rest e =
    number_case (is_ascii_digit b) (b == 46) (exponent && (b == 101 || b == 69) && begins_sign rest) (begins_digit rest) (name_size (b ∷ rest)) e (λ d. digit_some b rest d)

piece_suffix : (regex part : Bool) (b : ℕ) (rest : List ℕ) → PieceRests (piece regex part (b ∷ rest)) rest
unfolding piece
piece_suffix regex part b rest =
    if_piece (begins_number (b ∷ rest)) (λ e. let exponent = not (has_base_letter (b ∷ rest)) in a_piece (passed_some (number_size exponent) b rest (number_some exponent b rest e)))
    (if_piece (begins_name (b ∷ rest)) (λ e. a_piece (passed_some name_size b rest (name_some b rest e)))
    (if_piece (b == 35) (λ e. private_suffix rest)
    (if_piece (b == 34 || b == 39) (λ e. text_piece Text (text_suffix b rest))
    (if_piece (b == 96) (λ e. first_piece (template_suffix rest))
    (if_piece (b == 125 && part) (λ e. later_piece (template_suffix rest))
    (if_piece (b == 47) (λ e. slash_piece_suffix regex rest)
    (mark_piece b rest (mark_takes (b ∷ rest)))))))))

-- ---- steps

pub skip_suffix : {bytes end : List ℕ} → Skips bytes end → Suffix end bytes
skip_suffix (stop e) = whole
skip_suffix (more {bytes} {rest} e s) = let parts = blank_from bytes rest e in joined (skip_suffix s) (subst (λ all. Suffix rest all) (sym parts.2) (behind parts.3))

-- the bytes behind the given token
pub data GivesBehind : Next → List ℕ → Type 0 where
  ends : {bytes : List ℕ} → GivesBehind Ends bytes
  faults : {left : ℕ} {kind : LexKind} {bytes : List ℕ} → GivesBehind (Faults left kind) bytes
  gives : {t : Lexeme} {after bytes : List ℕ} → Suffix after bytes → GivesBehind (Gives t after) bytes

suffix_unless : (refused : Option LexKind) (sort : Sort) (bytes rest end : List ℕ) → Suffix rest end → GivesBehind (unless_refused refused sort bytes rest) end
suffix_unless None sort bytes rest end s = gives s
suffix_unless (Some kind) sort bytes rest end s = faults

found_behind : {found : Piece} {end : List ℕ} (innermost : Option Bracket) (depth : ℕ) (bytes : List ℕ) → PieceRests found end → GivesBehind (next_from innermost depth bytes found) end
found_behind innermost depth bytes no_piece = faults
found_behind {end} innermost depth bytes (a_piece {sort} {rest} s) = suffix_unless (refusal (opens sort) (closes sort) innermost depth) sort bytes rest end s

end_behind : (c : Bool) → GivesBehind (if c then Ends else Faults 0 Unreadable) []
end_behind true = ends
end_behind false = faults

abbrev tail_of : List ℕ → List ℕ
tail_of [] = []
tail_of (b ∷ rest) = rest

next_behind : (slash : Bool) (innermost : Option Bracket) (depth : ℕ) (bytes : List ℕ) → GivesBehind (next_at slash innermost depth bytes) (tail_of bytes)
unfolding next_at
next_behind slash innermost depth [] = end_behind (depth == 0)
next_behind slash innermost depth (b ∷ rest) = found_behind innermost depth (b ∷ rest) (piece_suffix slash (is_template innermost) b rest)

given_behind : {t : Lexeme} {after bytes : List ℕ} → GivesBehind (Gives t after) bytes → Suffix after bytes
given_behind (gives s) = s

-- a token is given only where some byte is left, and what is left behind it is an end of what stands behind that
pub given_suffix : (slash : Bool) (innermost : Option Bracket) (depth : ℕ) (bytes after : List ℕ) (t : Lexeme) → Gives t after ≡ next_at slash innermost depth bytes → Suffix after (tail_of bytes)
given_suffix slash innermost depth bytes after t e = given_behind (subst (λ out. GivesBehind out (tail_of bytes)) (sym e) (next_behind slash innermost depth bytes))

no_token : {t : Lexeme} {after : List ℕ} (c : Bool) → Gives t after ≡ (if c then Ends else Faults 0 Unreadable) → ⊥
no_token true e = cc
no_token false e = cc

-- a token takes a byte at least
pub given_shorter : (slash : Bool) (innermost : Option Bracket) (depth : ℕ) (bytes after : List ℕ) (t : Lexeme) → Gives t after ≡ next_at slash innermost depth bytes → length after < length bytes
unfolding next_at
given_shorter slash innermost depth [] after t e = absurd (no_token (depth == 0) e)
given_shorter slash innermost depth (b ∷ rest) after t e = let l = at_most (given_suffix slash innermost depth (b ∷ rest) after t e) in omega arith

tail_suffix : (bytes : List ℕ) → Suffix (tail_of bytes) bytes
tail_suffix [] = whole
tail_suffix (b ∷ rest) = behind whole

pub after_suffix : (slash : Bool) (innermost : Option Bracket) (depth : ℕ) (bytes after : List ℕ) (t : Lexeme) → Gives t after ≡ next_at slash innermost depth bytes → Suffix after bytes
after_suffix slash innermost depth bytes after t e = joined (given_suffix slash innermost depth bytes after t e) (tail_suffix bytes)

pub next_shorter : (before : List Lexeme) (rest after : List ℕ) (t : Lexeme) → IsNext before rest (Gives t after) → length after < length rest
next_shorter before rest after t (next {at} {bytes} {slash} s i k e) =
    let l = at_most (skip_suffix k) in
    let m = given_shorter slash (opener at) (depth before) bytes after t e in
    omega arith
