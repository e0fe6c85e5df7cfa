-- What is left behind a token begins with a whole character, where the text is UTF-8. RFC 3629, 3.
use Rattle.std.specs.Prelude.{◌≡◌, ℕ, zero, suc, ◌+◌, ◌-◌, ◌*◌, ◌%◌, ◌<◌, ◌≤◌, Bool, true, false, not, ◌&&◌, ◌||◌, ◌==◌, nat_le, nat_lt, List, [], ◌∷◌, if◌then◌else◌, Option, Some, None, length, drop, slice_index, codes}
use Rattle.std.specs.Char.{is_ascii_digit}
use Rattle.std.proofs.Common.{refl, sym, ◌∙◌, subst, arith}
use Rattle.std.proofs.lemmas.Bool.{and_parts, eqb-true, leb-true, ltb-true, ltb-false, lt-ltb, le-ltb}
use Rattle.module_spec.specs.declared.token.Mark.{Mark}
use Rattle.module_spec.specs.declared.token.Sort.{Sort}
use Rattle.module_spec.specs.declared.token.Sort.TheVariants.{Text}
use Rattle.module_spec.specs.Characters.{character_size, code_point, is_wide_line_end, is_wide_space, is_ascii_space, begins_line_end, space_size, is_hex_digit, hex_digits, braced_size, unicode_size, escape_size, is_name_byte, name_size, passed, begins_name, begins_digit}
use Rattle.module_spec.specs.Spellings.{hashbang_rest, line_rest, comment_rest, slash_rest, blank_rest, number_size, begins_sign, begins_number, has_base_letter, text_size, closed_rest, text_rest, begins_substitution, template_size, part_rest, template_rest, regex_body_rest, begins_with, first_of, punctuators, punctuator, is_question_before_number}
use Rattle.module_spec.specs.Tokens.{Piece, as_piece, first_part, later_part, regex_piece, punctuator_piece, slash_piece, private_piece, piece, Skips}
use Rattle.module_spec.specs.Tokens.Skips.{stop, more}

-- `Tail n bytes`: the last n bytes of a character come first, and then whole characters
pub data Tail : ℕ → List ℕ → Type 0 where
  done : Tail 0 []
  low : {b : ℕ} {bytes : List ℕ} → b < 128 → Tail 0 bytes → Tail 0 (b ∷ bytes)
  lead : {b n : ℕ} {bytes : List ℕ} → 192 ≤ b → character_size b ≡ suc n → Tail n bytes → Tail 0 (b ∷ bytes)
  trail : {b n : ℕ} {bytes : List ℕ} → 128 ≤ b → b < 192 → Tail n bytes → Tail (suc n) (b ∷ bytes)

pub record Low (n : ℕ) (bytes : List ℕ) : Type 0 where
  pub whole : n ≡ 0
  pub rest : Tail 0 bytes

-- a byte of ASCII is a whole character
pub at_low : {n b : ℕ} {bytes : List ℕ} → b < 128 → Tail n (b ∷ bytes) → Low n bytes
at_low l (low m t) = record { whole = refl; rest = t }
at_low l (lead m e t) = absurd (omega arith)
at_low l (trail m h t) = absurd (omega arith)

past_low : {n b : ℕ} {bytes : List ℕ} → b < 128 → Tail n (b ∷ bytes) → Tail 0 bytes
past_low l t = (at_low l t).rest

-- a byte from 192 on begins a character
at_lead : {n b : ℕ} {bytes : List ℕ} → 192 ≤ b → Tail n (b ∷ bytes) → n ≡ 0
at_lead l (low m t) = refl
at_lead l (lead m e t) = refl
at_lead l (trail m h t) = absurd (omega arith)

record Any (bytes : List ℕ) : Type 0 where
  pub left : ℕ
  pub rest : Tail left bytes

at_any : {n b : ℕ} {bytes : List ℕ} → Tail n (b ∷ bytes) → Any bytes
at_any (low m t) = record { left = 0; rest = t }
at_any (lead {n} m e t) = record { left = n; rest = t }
at_any (trail {n} m h t) = record { left = n; rest = t }

drop_tail : (n : ℕ) (bytes : List ℕ) → Tail n bytes → Tail 0 (drop n bytes)
drop_tail n bytes done = done
drop_tail n bytes (low l t) = low l t
drop_tail n bytes (lead l e t) = lead l e t
drop_tail n bytes (trail {n = m} {bytes = rest} l h t) = drop_tail m rest t

low_size : (b : ℕ) → b < 128 → character_size b ≡ 1
low_size b l = rw (lt-ltb b 128 l) refl

-- behind one character
past_character : (b : ℕ) (bytes : List ℕ) → Tail 0 (b ∷ bytes) → Tail 0 (drop (character_size b) (b ∷ bytes))
past_character b bytes (low l t) = rw (low_size b l) t
past_character b bytes (lead {n} l e t) = rw e (drop_tail n bytes t)

-- ---- a choice of two whose test is known

pub data Bounds : Option (List ℕ) → Type 0 where
  nothing : Bounds None
  something : {rest : List ℕ} → Tail 0 rest → Bounds (Some rest)

pub data PartBounds : Option (Bool × List ℕ) → Type 0 where
  no_part : PartBounds None
  a_part : {closed : Bool} {rest : List ℕ} → Tail 0 rest → PartBounds (Some (closed, rest))

pub data PieceBounds : Piece → Type 0 where
  no_piece : PieceBounds None
  a_piece : {sort : Sort} {rest : List ℕ} → Tail 0 rest → PieceBounds (Some (sort, rest))

if_bounds : (c : Bool) {x y : Option (List ℕ)} → (c ≡ true → Bounds x) → Bounds y → Bounds (if c then x else y)
if_bounds true a b = a refl
if_bounds false a b = b

if_part_bounds : (c : Bool) {x y : Option (Bool × List ℕ)} → (c ≡ true → PartBounds x) → PartBounds y → PartBounds (if c then x else y)
if_part_bounds true a b = a refl
if_part_bounds false a b = b

if_piece_bounds : (c : Bool) {x y : Piece} → (c ≡ true → PieceBounds x) → PieceBounds y → PieceBounds (if c then x else y)
if_piece_bounds true a b = a refl
if_piece_bounds false a b = b

if_tail : (c : Bool) {x y : List ℕ} → (c ≡ true → Tail 0 x) → (c ≡ false → Tail 0 y) → Tail 0 (if c then x else y)
if_tail true a b = a refl
if_tail false a b = b refl

-- a test of one byte
byte_low : (b k : ℕ) → k < 128 → (b == k) ≡ true → b < 128
byte_low b k l e = let f = eqb-true b k e in omega arith

first_low : (b k : ℕ) (c : Bool) → k < 128 → (b == k && c) ≡ true → b < 128
first_low b k c l e = byte_low b k l (and_parts (b == k) c e).0

or_low : (b : ℕ) (c d : Bool) → (c ≡ true → b < 128) → (d ≡ true → b < 128) → (c || d) ≡ true → b < 128
or_low b true d f g e = f refl
or_low b false d f g e = g e

either_low : (b k l : ℕ) → k < 128 → l < 128 → (b == k || b == l) ≡ true → b < 128
either_low b k l m n e = or_low b (b == k) (b == l) (byte_low b k m) (byte_low b l n) e

below_low : (b k : ℕ) (c : Bool) → k < 128 → (c && nat_le b k) ≡ true → b < 128
below_low b k c l e = let f = leb-true b k (and_parts c (nat_le b k) e).1 in omega arith

or_absurd : (c d : Bool) → (c ≡ true → ⊥) → (d ≡ true → ⊥) → (c || d) ≡ true → ⊥
or_absurd true d f g e = f refl
or_absurd false d f g e = g e

by_test : {P : Type 0} {b k : ℕ} (c : Bool) → nat_lt b k ≡ c → (b < k → P) → (k ≤ b → P) → P
by_test {P} {b} {k} true e f g = f (ltb-true b k e)
by_test {P} {b} {k} false e f g = g (ltb-false b k e)

pub ge_or : {P : Type 0} (b k : ℕ) → (b < k → P) → (k ≤ b → P) → P
ge_or b k f g = by_test (nat_lt b k) refl f g

-- ---- comments and white space

-- a character of two bytes is below U+0800
two_bytes : (b x : ℕ) → b % 32 * 64 + x % 64 < 2048
two_bytes b x = omega arith

wide_low : (code : ℕ) → code < 2048 → is_wide_line_end code ≡ true → ⊥
wide_low code l e = or_absurd (code == 8232) (code == 8233) (λ f. let g = eqb-true code 8232 f in omega arith) (λ f. let g = eqb-true code 8233 f in omega arith) e

line_end_size : (b : ℕ) (rest : List ℕ) → 128 ≤ b → b < 224 → is_wide_line_end (code_point (b ∷ rest)) ≡ true → ⊥
line_end_size b rest l m e =
    let f : code_point (b ∷ rest) ≡ b % 32 * 64 + slice_index rest 0 % 64 = rw (le-ltb b 128 l, lt-ltb b 224 m) refl in
    wide_low (b % 32 * 64 + slice_index rest 0 % 64) (two_bytes b (slice_index rest 0)) (subst (λ c. is_wide_line_end c ≡ true) f e)

line_end_lead : (b : ℕ) (rest : List ℕ) → 128 ≤ b → is_wide_line_end (code_point (b ∷ rest)) ≡ true → 192 ≤ b
line_end_lead b rest l e = ge_or b 224 (λ m. absurd (line_end_size b rest l m e)) (λ m. omega arith)

-- behind two bytes of ASCII that stand at the front
two_tail : {n : ℕ} (b k l : ℕ) (rest : List ℕ) → k < 128 → l < 128 → (b == k && begins_with (l ∷ []) rest) ≡ true → Tail n (b ∷ rest) → Tail 0 (drop 1 rest)
two_tail b k l [] below small e t = done
two_tail b k l (c ∷ rest) below small e t =
    let parts = and_parts (b == k) (l == c && true) e in
    let second = eqb-true l c (and_parts (l == c) true parts.1).0 in
    past_low (omega arith) (past_low (byte_low b k below parts.0) t)

comment_bounds : (n : ℕ) (bytes : List ℕ) → Tail n bytes → Bounds (comment_rest bytes)
comment_bounds n [] t = nothing
comment_bounds n (b ∷ rest) t =
    let more = at_any t in
    if_bounds (b == 42 && begins_with (codes "/") rest) (λ e. something (two_tail b 42 47 rest (omega arith) (omega arith) e t)) (comment_bounds more.left rest more.rest)

if_any : (c : Bool) {x y : List ℕ} → Any x → Any y → Any (if c then x else y)
if_any true a b = a
if_any false a b = b

passed_any : (size : List ℕ → ℕ) (k n : ℕ) (bytes : List ℕ) → Tail n bytes → Any (passed size k bytes)
passed_any size k n [] t = record { left = n; rest = t }
passed_any size (suc k) n (b ∷ rest) t = let more = at_any t in passed_any size k more.left rest more.rest
passed_any size zero n (b ∷ rest) t =
    let more = at_any t in
    if_any (size (b ∷ rest) == 0) (record { left = n; rest = t }) (passed_any size (size (b ∷ rest) - 1) more.left rest more.rest)

closed_bounds : (quote n : ℕ) (bytes : List ℕ) → quote < 128 → Tail n bytes → Bounds (closed_rest quote bytes)
closed_bounds quote n [] l t = nothing
closed_bounds quote n (b ∷ rest) l t = if_bounds (b == quote) (λ e. something (past_low (byte_low b quote l e) t)) nothing

text_bounds : (quote n : ℕ) (bytes : List ℕ) → quote < 128 → Tail n bytes → Bounds (text_rest quote bytes)
text_bounds quote n bytes l t = let more = passed_any (text_size quote) 0 n bytes t in closed_bounds quote more.left (passed (text_size quote) 0 bytes) l more.rest

part_bounds : (n : ℕ) (bytes : List ℕ) → Tail n bytes → PartBounds (part_rest bytes)
part_bounds n [] t = no_part
part_bounds n (b ∷ rest) t =
    if_part_bounds (b == 96) (λ e. a_part {closed = true} (past_low (byte_low b 96 (omega arith) e) t))
    (if_part_bounds (begins_substitution (b ∷ rest)) (λ e. a_part {closed = false} (two_tail b 36 123 rest (omega arith) (omega arith) e t)) no_part)

template_bounds : (n : ℕ) (bytes : List ℕ) → Tail n bytes → PartBounds (template_rest bytes)
template_bounds n bytes t = let more = passed_any template_size 0 n bytes t in part_bounds more.left (passed template_size 0 bytes) more.rest

regex_bounds : (n : ℕ) (class escaped : Bool) (bytes : List ℕ) → Tail n bytes → Bounds (regex_body_rest class escaped bytes)
regex_bounds n class escaped [] t = nothing
regex_bounds n class escaped (b ∷ rest) t =
    let more = at_any t in
    if_bounds (begins_line_end (b ∷ rest)) (λ e. nothing) (if_bounds escaped (λ e. regex_bounds more.left class false rest more.rest)
    (if_bounds (b == 47 && not class) (λ e. something (past_low (first_low b 47 (not class) (omega arith) e) t)) (regex_bounds more.left (b == 91 || class && not (b == 93)) (b == 92) rest more.rest)))

line_start : (n b : ℕ) (rest : List ℕ) → begins_line_end (b ∷ rest) ≡ true → Tail n (b ∷ rest) → n ≡ 0
line_start n b rest e t =
    ge_or b 128 (λ l. (at_low l t).whole)
    (λ l. let f : begins_line_end (b ∷ rest) ≡ is_wide_line_end (code_point (b ∷ rest)) = rw (le-ltb b 128 l) refl in at_lead (line_end_lead b rest l (sym f ∙ e)) t)

line_tail : (n : ℕ) (bytes : List ℕ) → Tail n bytes → Tail 0 (line_rest bytes)
line_tail n [] t = done
line_tail n (b ∷ rest) t =
    let more = at_any t in
    if_tail (begins_line_end (b ∷ rest)) (λ e. subst (λ m. Tail m (b ∷ rest)) (line_start n b rest e t) t) (λ e. line_tail more.left rest more.rest)

slash_bounds : (bytes : List ℕ) → Tail 0 bytes → Bounds (slash_rest bytes)
slash_bounds [] t = nothing
slash_bounds (b ∷ rest) t =
    if_bounds (b == 47) (λ e. something (line_tail 0 rest (past_low (byte_low b 47 (omega arith) e) t))) (if_bounds (b == 42) (λ e. comment_bounds 0 rest (past_low (byte_low b 42 (omega arith) e) t)) nothing)

-- a size that stands at the front of a whole character and ends before one
abbrev IsSized : (List ℕ → ℕ) → Type 0
IsSized size = (bytes : List ℕ) → Tail 0 bytes → Tail 0 (drop (size bytes) bytes)

if_drop : (c : Bool) (m n : ℕ) (bytes : List ℕ) → (c ≡ true → Tail 0 (drop m bytes)) → (c ≡ false → Tail 0 (drop n bytes)) → Tail 0 (drop (if c then m else n) bytes)
if_drop true m n bytes a b = a refl
if_drop false m n bytes a b = b refl

space_tail : IsSized space_size
space_tail [] t = t
space_tail (b ∷ rest) t =
    if_drop (nat_lt b 128) (if is_ascii_space b then 1 else 0) _ (b ∷ rest) (λ e. if_drop (is_ascii_space b) 1 0 (b ∷ rest) (λ f. past_low (ltb-true b 128 e) t) (λ f. t))
    (λ e. if_drop (is_wide_space (code_point (b ∷ rest))) (character_size b) 0 (b ∷ rest) (λ f. past_character b rest t) (λ f. t))

blank_bounds : (bytes : List ℕ) → Tail 0 bytes → Bounds (blank_rest bytes)
unfolding blank_rest
blank_bounds [] t = nothing
blank_bounds (b ∷ rest) t = if_bounds (b == 47) (λ e. slash_bounds rest (past_low (byte_low b 47 (omega arith) e) t)) (if_bounds (space_size (b ∷ rest) == 0) (λ e. nothing) (something (space_tail (b ∷ rest) t)))

of_something : {rest : List ℕ} → Bounds (Some rest) → Tail 0 rest
of_something (something t) = t

pub skip_tail : {bytes end : List ℕ} → Skips bytes end → Tail 0 bytes → Tail 0 end
skip_tail (stop e) t = t
skip_tail (more {bytes} {rest} e s) t = skip_tail s (of_something (subst (λ out. Bounds out) e (blank_bounds bytes t)))

pub hashbang_tail : (bytes : List ℕ) → Tail 0 bytes → Tail 0 (hashbang_rest bytes)
hashbang_tail [] t = t
hashbang_tail (b ∷ []) t = t
hashbang_tail (b ∷ c ∷ rest) t =
    if_tail (b == 35 && c == 33) (λ e. line_tail 0 rest (past_low (byte_low c 33 (omega arith) (and_parts (b == 35) (c == 33) e).1) (past_low (byte_low b 35 (omega arith) (and_parts (b == 35) (c == 33) e).0) t))) (λ e. t)

-- ---- names and numbers

hex_low : (b : ℕ) → is_hex_digit b ≡ true → b < 128
hex_low b e = or_low b (is_ascii_digit b || nat_le 97 b && nat_le b 102) (nat_le 65 b && nat_le b 70) (or_low b (is_ascii_digit b) (nat_le 97 b && nat_le b 102) (below_low b 57 (nat_le 48 b) (omega arith)) (below_low b 102 (nat_le 97 b) (omega arith))) (below_low b 70 (nat_le 65 b) (omega arith)) e

name_low : (b : ℕ) → is_name_byte b ≡ true → b < 128
name_low b e =
    or_low b _ (b == 36) (or_low b _ (b == 95) (or_low b _ (is_ascii_digit b) (or_low b (nat_le 97 b && nat_le b 122) (nat_le 65 b && nat_le b 90) (below_low b 122 (nat_le 97 b) (omega arith)) (below_low b 90 (nat_le 65 b) (omega arith))) (below_low b 57 (nat_le 48 b) (omega arith)))
    (byte_low b 95 (omega arith))) (byte_low b 36 (omega arith)) e

record HexStep (k b : ℕ) (rest : List ℕ) : Type 0 where
  pub digit : b < 128
  pub more : k ≤ hex_digits rest

hex_step : (c : Bool) (k b : ℕ) (rest : List ℕ) → is_hex_digit b ≡ c → suc k ≤ (if c then suc (hex_digits rest) else 0) → HexStep k b rest
hex_step true k b rest e l = record { digit = hex_low b e; more = omega arith }
hex_step false k b rest e l = absurd (omega arith)

-- behind digits that stand there
hex_tail : (k : ℕ) (bytes : List ℕ) → k ≤ hex_digits bytes → Tail 0 bytes → Tail 0 (drop k bytes)
hex_tail zero bytes l t = t
hex_tail (suc k) [] l t = t
hex_tail (suc k) (b ∷ rest) l t = let step = hex_step (is_hex_digit b) k b rest refl l in hex_tail k rest step.more (past_low step.digit t)

-- behind a byte of ASCII that stands there
index_tail : (k x : ℕ) (bytes : List ℕ) → 0 < x → x < 128 → slice_index bytes k ≡ x → Tail 0 (drop k bytes) → Tail 0 (drop (suc k) bytes)
index_tail zero x [] p l e t = t
index_tail (suc k) x [] p l e t = t
index_tail zero x (b ∷ rest) p l e t = past_low (let f : b ≡ x = e in omega arith) t
index_tail (suc k) x (b ∷ rest) p l e t = index_tail k x rest p l e t

braced_tail : (rest : List ℕ) (a b c : ℕ) → Tail 0 rest → Tail 0 (a ∷ b ∷ c ∷ rest) → Tail 0 (drop (braced_size rest) (a ∷ b ∷ c ∷ rest))
braced_tail rest a b c t all =
    if_drop (nat_le 1 (hex_digits rest) && nat_le (hex_digits rest) 6 && slice_index rest (hex_digits rest) == 125) (hex_digits rest + 4) 0 (a ∷ b ∷ c ∷ rest)
    (λ e. let f : hex_digits rest + 4 ≡ suc (suc (suc (suc (hex_digits rest)))) = omega arith in
    rw f (index_tail (hex_digits rest) 125 rest (omega arith) (omega arith) (eqb-true (slice_index rest (hex_digits rest)) 125 (and_parts (nat_le 1 (hex_digits rest) && nat_le (hex_digits rest) 6) (slice_index rest (hex_digits rest) == 125) e).1) (hex_tail (hex_digits rest) rest (omega arith) t)))
    (λ e. all)

unicode_tail : (bytes : List ℕ) (a b : ℕ) → Tail 0 bytes → Tail 0 (a ∷ b ∷ bytes) → Tail 0 (drop (unicode_size bytes) (a ∷ b ∷ bytes))
unicode_tail [] a b t all = all
unicode_tail (c ∷ rest) a b t all =
    if_drop (c == 123) (braced_size rest) (if nat_le 4 (hex_digits (c ∷ rest)) then 6 else 0) (a ∷ b ∷ c ∷ rest) (λ e. braced_tail rest a b c (past_low (byte_low c 123 (omega arith) e) t) all)
    (λ e. if_drop (nat_le 4 (hex_digits (c ∷ rest))) 6 0 (a ∷ b ∷ c ∷ rest) (λ f. hex_tail 4 (c ∷ rest) (leb-true 4 (hex_digits (c ∷ rest)) f) t) (λ f. all))

escape_tail : (bytes : List ℕ) (a : ℕ) → Tail 0 bytes → Tail 0 (a ∷ bytes) → Tail 0 (drop (escape_size bytes) (a ∷ bytes))
escape_tail [] a t all = all
escape_tail (b ∷ rest) a t all = if_drop (b == 117) (unicode_size rest) 0 (a ∷ b ∷ rest) (λ e. unicode_tail rest a b (past_low (byte_low b 117 (omega arith) e) t) all) (λ e. all)

name_tail : IsSized name_size
unfolding name_size
name_tail [] t = t
name_tail (b ∷ rest) t =
    if_drop (is_name_byte b) 1 _ (b ∷ rest) (λ e. past_low (name_low b e) t)
    (λ e. if_drop (b == 92) (escape_size rest) _ (b ∷ rest) (λ f. escape_tail rest b (past_low (byte_low b 92 (omega arith) f) t) t)
    (λ f. if_drop (nat_lt b 128) 0 _ (b ∷ rest) (λ g. t)
    (λ g. if_drop (is_wide_space (code_point (b ∷ rest))) 0 (character_size b) (b ∷ rest) (λ h. t) (λ h. past_character b rest t))))

sign_tail : (bytes : List ℕ) → begins_sign bytes ≡ true → Tail 0 bytes → Tail 0 (drop 1 bytes)
sign_tail [] e t = t
sign_tail (b ∷ rest) e t = past_low (either_low b 43 45 (omega arith) (omega arith) e) t

number_tail : (exponent : Bool) → IsSized (number_size exponent)
number_tail exponent [] t = t
number_tail exponent (b ∷ rest) t =
    if_drop (b == 46) 1 _ (b ∷ rest) (λ e. past_low (byte_low b 46 (omega arith) e) t)
    (λ e. if_drop (exponent && (b == 101 || b == 69) && begins_sign rest) 2 (name_size (b ∷ rest)) (b ∷ rest)
    (λ f. let parts = and_parts (exponent && (b == 101 || b == 69)) (begins_sign rest) f in
    sign_tail rest parts.1 (past_low (either_low b 101 69 (omega arith) (omega arith) (and_parts exponent (b == 101 || b == 69) parts.0).1) t))
    (λ f. name_tail (b ∷ rest) t))

drop_one : (n b : ℕ) (rest : List ℕ) → (n == 0) ≡ false → Tail 0 (drop n (b ∷ rest)) → Tail 0 (drop (n - 1) rest)
drop_one zero b rest e t = absurd (cc)
drop_one (suc n) b rest e t = let f : suc n - 1 ≡ n = omega arith in rw f t

passed_tail : (size : List ℕ → ℕ) → IsSized size → (k : ℕ) (bytes : List ℕ) → Tail 0 (drop k bytes) → Tail 0 (passed size k bytes)
passed_tail size s zero [] t = t
passed_tail size s (suc k) [] t = t
passed_tail size s (suc k) (b ∷ rest) t = passed_tail size s k rest t
passed_tail size s zero (b ∷ rest) t =
    if_tail (size (b ∷ rest) == 0) (λ e. t) (λ e. passed_tail size s (size (b ∷ rest) - 1) rest (drop_one (size (b ∷ rest)) b rest e (s (b ∷ rest) t)))

-- ---- punctuators

abbrev all_low : List ℕ → Bool
all_low [] = true
all_low (b ∷ text) = nat_lt b 128 && all_low text

abbrev table_low : List (List ℕ × Mark) → Bool
table_low [] = true
table_low (row ∷ table) = all_low row.0 && table_low table

begun_tail : (text bytes : List ℕ) → all_low text ≡ true → begins_with text bytes ≡ true → Tail 0 bytes → Tail 0 (drop (length text) bytes)
begun_tail [] bytes a e t = t
begun_tail (f ∷ text) [] a e t = t
begun_tail (f ∷ text) (b ∷ bytes) a e t =
    let lows = and_parts (nat_lt f 128) (all_low text) a in
    let parts = and_parts (f == b) (begins_with text bytes) e in
    begun_tail text bytes lows.1 parts.1 (past_low (let g = eqb-true f b parts.0 in let h = ltb-true f 128 lows.0 in omega arith) t)

-- the bytes behind a mark
data MarkBounds (bytes : List ℕ) : Option (Mark × ℕ) → Type 0 where
  no_mark : MarkBounds bytes None
  a_mark : {mark : Mark} {n : ℕ} → Tail 0 (drop n bytes) → MarkBounds bytes (Some (mark, n))

if_mark_bounds : (c : Bool) (bytes : List ℕ) {x y : Option (Mark × ℕ)} → (c ≡ true → MarkBounds bytes x) → MarkBounds bytes y → MarkBounds bytes (if c then x else y)
if_mark_bounds true bytes a b = a refl
if_mark_bounds false bytes a b = b

table_bounds : (table : List (List ℕ × Mark)) (bytes : List ℕ) → table_low table ≡ true → Tail 0 bytes → MarkBounds bytes (first_of table bytes)
table_bounds [] bytes a t = no_mark
table_bounds (row ∷ table) bytes a t =
    let lows = and_parts (all_low row.0) (table_low table) a in
    if_mark_bounds (begins_with row.0 bytes) bytes (λ e. a_mark (begun_tail row.0 bytes lows.0 e t)) (table_bounds table bytes lows.1 t)

question_tail : (bytes : List ℕ) → begins_with (codes "?.") bytes ≡ true → Tail 0 bytes → Tail 0 (drop 1 bytes)
question_tail [] e t = t
question_tail (b ∷ bytes) e t = past_low (let f = eqb-true 63 b (and_parts (63 == b) (begins_with (codes ".") bytes) e).0 in omega arith) t

mark_bounds : (bytes : List ℕ) → Tail 0 bytes → MarkBounds bytes (punctuator bytes)
mark_bounds bytes t =
    if_mark_bounds (is_question_before_number bytes) bytes (λ e. a_mark (question_tail bytes (and_parts (begins_with (codes "?.") bytes) (begins_digit (drop 2 bytes)) e).0 t)) (table_bounds punctuators bytes refl t)

-- ---- tokens

text_piece_bounds : {out : Option (List ℕ)} (sort : Sort) → Bounds out → PieceBounds (as_piece sort out)
text_piece_bounds sort nothing = no_piece
text_piece_bounds sort (something t) = a_piece t

first_piece_bounds : {out : Option (Bool × List ℕ)} → PartBounds out → PieceBounds (first_part out)
first_piece_bounds no_part = no_piece
first_piece_bounds (a_part t) = a_piece t

later_piece_bounds : {out : Option (Bool × List ℕ)} → PartBounds out → PieceBounds (later_part out)
later_piece_bounds no_part = no_piece
later_piece_bounds (a_part t) = a_piece t

regex_flags_bounds : {out : Option (List ℕ)} → Bounds out → PieceBounds (regex_piece out)
regex_flags_bounds nothing = no_piece
regex_flags_bounds (something {rest} t) = a_piece (passed_tail (λ bytes. name_size bytes) name_tail 0 rest t)

mark_piece_bounds : {found : Option (Mark × ℕ)} (bytes : List ℕ) → MarkBounds bytes found → PieceBounds (punctuator_piece bytes found)
mark_piece_bounds bytes no_mark = no_piece
mark_piece_bounds bytes (a_mark t) = a_piece t

slash_piece_bounds : (regex : Bool) (rest : List ℕ) → Tail 0 rest → Tail 0 (47 ∷ rest) → PieceBounds (slash_piece regex rest)
slash_piece_bounds regex [] t all = if_piece_bounds regex (λ e. no_piece) (mark_piece_bounds (47 ∷ []) (mark_bounds (47 ∷ []) all))
slash_piece_bounds regex (b ∷ rest) t all =
    if_piece_bounds (b == 42) (λ e. no_piece) (if_piece_bounds regex (λ e. regex_flags_bounds (regex_bounds 0 false false (b ∷ rest) t)) (mark_piece_bounds (47 ∷ b ∷ rest) (mark_bounds (47 ∷ b ∷ rest) all)))

private_bounds : (rest : List ℕ) → Tail 0 rest → PieceBounds (private_piece rest)
private_bounds rest t = if_piece_bounds (begins_name rest) (λ e. a_piece (passed_tail (λ bytes. name_size bytes) name_tail 0 rest t)) no_piece

pub piece_bounds : (regex part : Bool) (bytes : List ℕ) → Tail 0 bytes → PieceBounds (piece regex part bytes)
unfolding piece
piece_bounds regex part [] t = no_piece
piece_bounds regex part (b ∷ rest) t =
    if_piece_bounds (begins_number (b ∷ rest)) (λ e. let exponent = not (has_base_letter (b ∷ rest)) in a_piece (passed_tail (number_size exponent) (number_tail exponent) 0 (b ∷ rest) t))
    (if_piece_bounds (begins_name (b ∷ rest)) (λ e. a_piece (passed_tail name_size name_tail 0 (b ∷ rest) t))
    (if_piece_bounds (b == 35) (λ e. private_bounds rest (past_low (byte_low b 35 (omega arith) e) t))
    (if_piece_bounds (b == 34 || b == 39) (λ e. let l = either_low b 34 39 (omega arith) (omega arith) e in text_piece_bounds Text (text_bounds b 0 rest l (past_low l t)))
    (if_piece_bounds (b == 96) (λ e. first_piece_bounds (template_bounds 0 rest (past_low (byte_low b 96 (omega arith) e) t)))
    (if_piece_bounds (b == 125 && part) (λ e. later_piece_bounds (template_bounds 0 rest (past_low (first_low b 125 part (omega arith) e) t)))
    (if_piece_bounds (b == 47) (λ e. let f = eqb-true b 47 e in slash_piece_bounds regex rest (past_low (byte_low b 47 (omega arith) e) t) (subst (λ c. Tail 0 (c ∷ rest)) f t))
    (mark_piece_bounds (b ∷ rest) (mark_bounds (b ∷ rest) t))))))))
