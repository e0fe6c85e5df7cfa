-- Tokens stand between characters.
use lib.Utf8.{scalar, scalars, scalar_cases}
use Rattle.std.specs.Prelude.{◌≡◌, ◌⊎◌, ℕ, suc, ◌+◌, ◌-◌, ◌/◌, ◌%◌, ◌<◌, ◌≤◌, Bool, true, false, ◌==◌, List, [], ◌∷◌, ◌++◌, All, if◌then◌else◌, Option, Some, None, length, take, drop, slice_index}
use Rattle.std.specs.Str.{IsUtf8, IsCharBoundary, encode_utf8_all}
use Rattle.std.specs.Char.{encode_utf8}
use Rattle.std.proofs.Common.{refl, sym, ◌∙◌, ap, subst, arith, inl, inr}
use Rattle.std.proofs.lemmas.List.{length-take-le}
use Rattle.std.proofs.lemmas.List.Elements.{All-nil, All-cons}
use Rattle.std.proofs.lemmas.Bool.{and_parts, lt-ltb, le-ltb}
use Rattle.module_spec.specs.declared.token.Bracket.{Bracket}
use Rattle.module_spec.specs.declared.token.LexKind.{LexKind}
use Rattle.module_spec.specs.declared.token.LexKind.TheVariants.{Unreadable}
use Rattle.module_spec.specs.declared.token.Sort.{Sort}
use Rattle.module_spec.specs.Characters.{character_size}
use Rattle.module_spec.specs.Sorts.{opens, closes}
use Rattle.module_spec.specs.Tokens.{Piece, piece, Lexeme, Next, next_from, next_at, unless_refused, refusal, is_template, IsNext, Reaches, opener, depth}
use Rattle.module_spec.specs.Tokens.Next.{Ends, Faults, Gives}
use Rattle.module_spec.specs.Tokens.IsNext.{next}
use Rattle.module_spec.specs.Tokens.Reaches.{begin, go}
use Rattle.module_spec.proofs.Suffixes.{Suffix, joined, at_most, hashbang_suffix, skip_suffix, after_suffix, given_shorter}
use Rattle.module_spec.proofs.Suffixes.Suffix.{whole, behind}
use Rattle.module_spec.proofs.Tails.{Tail, PieceBounds, ge_or, skip_tail, hashbang_tail, piece_bounds}
use Rattle.module_spec.proofs.Tails.Tail.{done, low, lead, trail}
use Rattle.module_spec.proofs.Tails.PieceBounds.{no_piece, a_piece}
use Rattle.module_spec.specs.Spans.{Stands}
use Rattle.module_spec.specs.Laws.{TokensStand}

-- ---- a text in UTF-8 is whole characters

two : (b : ℕ) → 192 ≤ b → b < 224 → character_size b ≡ 2
two b l m = let k : 128 ≤ b = omega arith in rw (le-ltb b 128 k, lt-ltb b 224 m) refl

three : (b : ℕ) → 224 ≤ b → b < 240 → character_size b ≡ 3
three b l m = let k : 128 ≤ b = omega arith in rw (le-ltb b 128 k, le-ltb b 224 l, lt-ltb b 240 m) refl

four : (b : ℕ) → 240 ≤ b → character_size b ≡ 4
four b l = let k : 128 ≤ b = omega arith in let m : 224 ≤ b = omega arith in rw (le-ltb b 128 k, le-ltb b 224 m, le-ltb b 240 l) refl

trailing : (x n : ℕ) (rest : List ℕ) → Tail n rest → Tail (suc n) ((128 + x % 64) ∷ rest)
trailing x n rest t = trail (omega arith) (omega arith) t

encoded : (c : ℕ) (rest : List ℕ) → c < 1114112 → Tail 0 rest → Tail 0 (encode_utf8 c ++ rest)
unfolding encode_utf8
encoded c rest l t =
    ge_or c 128 (λ m. rw (lt-ltb c 128 m) (low m t))
    (λ m. ge_or c 2048 (λ n. rw (le-ltb c 128 m, lt-ltb c 2048 n) (lead {b = 192 + c / 64} (omega arith) (two (192 + c / 64) (omega arith) (omega arith)) (trailing c 0 rest t)))
    (λ n. ge_or c 65536 (λ o. rw (le-ltb c 128 m, le-ltb c 2048 n, lt-ltb c 65536 o) (lead {b = 224 + c / 4096} (omega arith) (three (224 + c / 4096) (omega arith) (omega arith)) (trailing (c / 64) 1 _ (trailing c 0 rest t))))
    (λ o. rw (le-ltb c 128 m, le-ltb c 2048 n, le-ltb c 65536 o) (lead {b = 240 + c / 262144} (omega arith) (four (240 + c / 262144) (omega arith)) (trailing (c / 4096) 2 _ (trailing (c / 64) 1 _ (trailing c 0 rest t)))))))

below_of : (c : ℕ) → (c < 55296) ⊎ ((57344 ≤ c) × (c < 1114112)) → c < 1114112
below_of c (inl l) = omega arith
below_of c (inr l) = l.1

scalar_below : (c : ℕ) → scalar c ≡ true → c < 1114112
scalar_below c e = below_of c (scalar_cases c e)

all_tail : (cs : List ℕ) → scalars cs ≡ true → Tail 0 (encode_utf8_all cs)
all_tail [] e = done
all_tail (c ∷ cs) e = let parts = and_parts (scalar c) (scalars cs) e in encoded c (encode_utf8_all cs) (scalar_below c parts.0) (all_tail cs parts.1)

pub utf8_tail : (bytes : List ℕ) → IsUtf8 bytes → Tail 0 bytes
utf8_tail bytes u = subst (λ b. Tail 0 b) u.1.1 (all_tail u.0 u.1.0)

-- ---- the rest behind each token

data GivesBound : Next → Type 0 where
  ends : GivesBound Ends
  faults : {left : ℕ} {kind : LexKind} → GivesBound (Faults left kind)
  gives : {t : Lexeme} {after : List ℕ} → Tail 0 after → GivesBound (Gives t after)

bound_unless : (refused : Option LexKind) (sort : Sort) (bytes rest : List ℕ) → Tail 0 rest → GivesBound (unless_refused refused sort bytes rest)
bound_unless None sort bytes rest t = gives t
bound_unless (Some kind) sort bytes rest t = faults

found_bound : {found : Piece} (innermost : Option Bracket) (d : ℕ) (bytes : List ℕ) → PieceBounds found → GivesBound (next_from innermost d bytes found)
found_bound innermost d bytes no_piece = faults
found_bound innermost d bytes (a_piece {sort} {rest} t) = bound_unless (refusal (opens sort) (closes sort) innermost d) sort bytes rest t

end_bound : (c : Bool) → GivesBound (if c then Ends else Faults 0 Unreadable)
end_bound true = ends
end_bound false = faults

next_bound : (slash : Bool) (innermost : Option Bracket) (d : ℕ) (bytes : List ℕ) → Tail 0 bytes → GivesBound (next_at slash innermost d bytes)
unfolding next_at
next_bound slash innermost d [] t = end_bound (d == 0)
next_bound slash innermost d (b ∷ rest) t = found_bound innermost d (b ∷ rest) (piece_bounds slash (is_template innermost) (b ∷ rest) t)

given_bound : {t : Lexeme} {after : List ℕ} → GivesBound (Gives t after) → Tail 0 after
given_bound (gives t) = t

pub given_tail : (slash : Bool) (innermost : Option Bracket) (d : ℕ) (bytes after : List ℕ) (t : Lexeme) → Gives t after ≡ next_at slash innermost d bytes → Tail 0 bytes → Tail 0 after
given_tail slash innermost d bytes after t e tail = given_bound (subst (λ out. GivesBound out) (sym e) (next_bound slash innermost d bytes tail))

-- ---- slices

one_less : (b : ℕ) (rest bytes : List ℕ) → length rest ≤ length bytes → length (b ∷ bytes) - length rest ≡ suc (length bytes - length rest)
one_less b rest bytes l = omega arith

first_whole : (bytes : List ℕ) → Tail 0 bytes → 0 < length bytes → 128 ≤ slice_index bytes 0 → 192 ≤ slice_index bytes 0
first_whole bytes done l h = absurd (omega arith)
first_whole bytes (low m t) l h = absurd (omega arith)
first_whole bytes (lead m e t) l h = m

boundary_more : (b k : ℕ) (bytes : List ℕ) → IsCharBoundary bytes k → IsCharBoundary (b ∷ bytes) (suc k)
boundary_more b k bytes r = (omega (arith, r.0), λ l h. r.1 (omega arith) h)

-- an end of a text that begins with a whole character begins between characters
pub boundary_at : {rest text : List ℕ} → Suffix rest text → Tail 0 rest → IsCharBoundary text (length text - length rest)
boundary_at {rest} whole t = let e : length rest - length rest ≡ 0 = omega arith in rw e (omega arith, first_whole rest t)
boundary_at {rest} (behind {b} {bytes} s) t = let l = at_most s in rw (one_less b rest bytes l) (boundary_more b (length bytes - length rest) bytes (boundary_at s t))

dropped_to : {rest text : List ℕ} → Suffix rest text → drop (length text - length rest) text ≡ rest
dropped_to {rest} whole = let e : length rest - length rest ≡ 0 = omega arith in rw e refl
dropped_to {rest} (behind {b} {bytes} s) = let l = at_most s in rw (one_less b rest bytes l) (dropped_to s)

-- ---- what a given lexeme is

data IsGiven (bytes : List ℕ) : Next → Type 0 where
  no_end : IsGiven bytes Ends
  no_fault : {left : ℕ} {kind : LexKind} → IsGiven bytes (Faults left kind)
  is_given : {t : Lexeme} {after : List ℕ} → t.left ≡ length bytes → t.text ≡ take (length bytes - length after) bytes → IsGiven bytes (Gives t after)

unless_given : (refused : Option LexKind) (sort : Sort) (bytes rest : List ℕ) → IsGiven bytes (unless_refused refused sort bytes rest)
unless_given None sort bytes rest = is_given refl refl
unless_given (Some kind) sort bytes rest = no_fault

found_given : (found : Piece) (innermost : Option Bracket) (d : ℕ) (bytes : List ℕ) → IsGiven bytes (next_from innermost d bytes found)
found_given None innermost d bytes = no_fault
found_given (Some found) innermost d bytes = unless_given (refusal (opens found.0) (closes found.0) innermost d) found.0 bytes found.1

end_given : (c : Bool) (bytes : List ℕ) → IsGiven bytes (if c then Ends else Faults 0 Unreadable)
end_given true bytes = no_end
end_given false bytes = no_fault

next_given : (slash : Bool) (innermost : Option Bracket) (d : ℕ) (bytes : List ℕ) → IsGiven bytes (next_at slash innermost d bytes)
unfolding next_at
next_given slash innermost d [] = end_given (d == 0) []
next_given slash innermost d (b ∷ rest) = found_given (piece slash (is_template innermost) (b ∷ rest)) innermost d (b ∷ rest)

record Given (bytes after : List ℕ) (t : Lexeme) : Type 0 where
  pub left : t.left ≡ length bytes
  pub text : t.text ≡ take (length bytes - length after) bytes

of_given : {bytes after : List ℕ} {t : Lexeme} → IsGiven bytes (Gives t after) → Given bytes after t
of_given (is_given e f) = record { left = e; text = f }

-- ---- one token

spans : (text bytes after : List ℕ) (t : Lexeme) → Suffix bytes text → Suffix after text → Tail 0 bytes → Tail 0 after → length after < length bytes → Given bytes after t → Stands text t
spans text bytes after t s r b a l g =
    let m = at_most s in
    let size : length t.text ≡ length bytes - length after = ap length g.text ∙ length-take-le (length bytes - length after) bytes (omega arith) in
    let from : length text - t.left ≡ length text - length bytes = ap (λ n. length text - n) g.left in
    let to : (length text - t.left) + length t.text ≡ length text - length after = rw (from, size) (omega arith) in
    let wide : (length text - length after) - (length text - length bytes) ≡ length bytes - length after = omega arith in
    record {
      span = record {
        some = rw (to, from) (omega arith);
        begins = rw from (boundary_at s b);
        ends = rw to (boundary_at r a);
      };
      slice = rw (to, from, wide, dropped_to s) (sym g.text);
    }

-- the rest of a text behind some of its tokens
record Rest (text rest : List ℕ) : Type 0 where
  pub suffix : Suffix rest text
  pub tail : Tail 0 rest

record Step (text rest : List ℕ) (t : Lexeme) : Type 0 where
  pub more : Rest text rest
  pub stands : Stands text t

given_step : (text : List ℕ) (before : List Lexeme) (rest after : List ℕ) (t : Lexeme) → Rest text rest → IsNext before rest (Gives t after) → Step text after t
given_step text before rest after t r (next {at} {bytes} {slash} s i k e) =
    let front = joined (skip_suffix k) r.suffix in
    let tail = skip_tail k r.tail in
    let shorter = given_shorter slash (opener at) (depth before) bytes after t e in
    let end = joined (after_suffix slash (opener at) (depth before) bytes after t e) front in
    let rest_tail = given_tail slash (opener at) (depth before) bytes after t e tail in
    record {
      more = record { suffix = end; tail = rest_tail };
      stands = spans text bytes after t front end tail rest_tail shorter (of_given (subst (λ out. IsGiven bytes out) (sym e) (next_given slash (opener at) (depth before) bytes)));
    }

record Run (text : List ℕ) (before : List Lexeme) (rest : List ℕ) : Type 0 where
  pub more : Rest text rest
  pub stand : All (Stands text) before

run : (text : List ℕ) → IsUtf8 text → (before : List Lexeme) (rest : List ℕ) → Reaches text before rest → Run text before rest
run text u before rest (begin e) = record { more = record { suffix = rw e (hashbang_suffix text); tail = rw e (hashbang_tail text (utf8_tail text u)) }; stand = All-nil (Stands text) }
run text u before rest (go {t} {before = first} {rest = middle} r n) =
    let so_far = run text u first middle r in
    let here = given_step text first middle rest t so_far.more n in
    record { more = here.more; stand = All-cons (Stands text) t first here.stands so_far.stand }

pub tokens_stand : TokensStand
tokens_stand text u before rest r = (run text u before rest r).stand

-- the same of the token that comes next
pub next_stands : (text : List ℕ) → IsUtf8 text → (before : List Lexeme) (rest after : List ℕ) (t : Lexeme) → Reaches text before rest → IsNext before rest (Gives t after) → Stands text t
next_stands text u before rest after t r n = (given_step text before rest after t (run text u before rest r).more n).stands
