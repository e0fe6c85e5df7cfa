-- The function that reads an outline reads what the relation says.
use Rattle.std.proofs.Common.{◌≡◌, ◌<◌, ℕ, zero, suc, List, [], ◌∷◌, length, Option, Some, None, refl, subst, arith}
use Rattle.module_spec.specs.declared.token.Bracket.{Bracket}
use Rattle.module_spec.specs.Sorts.{opens, closes}
use Rattle.module_spec.specs.Spellings.{blank_rest, hashbang_rest}
use Rattle.module_spec.specs.Tokens.{Lexeme, Next, refusal}
use Rattle.module_spec.specs.Tokens.{opener, depth, Balanced, Outside, Innermost, Slash, Skips}
use Rattle.module_spec.specs.Tokens.{IsNext, Reaches}
use Rattle.module_spec.specs.Tokens.Balanced.{same, neither, closed}
use Rattle.module_spec.specs.Tokens.Outside.{first, later}
use Rattle.module_spec.specs.Tokens.Innermost.{none, bracket}
use Rattle.module_spec.specs.Tokens.Slash.{start, token}
use Rattle.module_spec.specs.Tokens.Skips.{stop, more}
use Rattle.module_spec.specs.Tokens.IsNext.{next}
use Rattle.module_spec.specs.Tokens.Reaches.{begin, go}
use Rattle.module_spec.specs.Outlines.{ReadsOutline}
use Rattle.module_spec.specs.Outlines.ReadsOutline.{all, fault}
use Rattle.module_spec.specs.OutlineReading.{without_closed, with_opened, open_brackets, innermost, begins_regex}
use Rattle.module_spec.specs.OutlineReading.{or_further, skipped, next_of, read_on, read_from, read_outline}
use Rattle.module_spec.specs.Laws.{OutlineIsRead}
use Rattle.module_spec.proofs.OutlineLaws.{one_outline}
use Rattle.module_spec.proofs.Suffixes.{blank_shorter, next_shorter}
use Rattle.module_spec.proofs.BracketLaws.{Allowed, at_end, at_fault, allowed as is_allowed, next_allowed, closes_innermost}

-- ---- the brackets that are open

pub data AreOpen : List Lexeme → List (List Lexeme) → Type 0 where
  empty : {before : List Lexeme} → Balanced before [] → AreOpen before []
  inside : {o : Lexeme} {before inner outer : List Lexeme} {k : Bracket} {unclosed : List (List Lexeme)}
      → Balanced before (o ∷ inner) → opens o.sort ≡ Some k → Outside o inner outer → AreOpen outer unclosed
      → AreOpen before ((o ∷ inner) ∷ unclosed)

pub innermost_is : {before : List Lexeme} {unclosed : List (List Lexeme)} → AreOpen before unclosed
    → Innermost before (innermost unclosed)
innermost_is (empty b) = none b
innermost_is (inside b e out below) = bracket b e

outward : {outer before : List Lexeme} {unclosed : List (List Lexeme)}
    → ((at : List Lexeme) → Balanced outer at → Balanced before at) → AreOpen outer unclosed → AreOpen before unclosed
outward onto (empty b) = empty (onto [] b)
outward onto (inside {o} {inner = inner} b e out below) = inside (onto (o ∷ inner) b) e out below

open_more : (t : Lexeme) (before : List Lexeme) (unclosed : List (List Lexeme)) (o c : Option Bracket)
    → opens t.sort ≡ o → closes t.sort ≡ c → AreOpen before unclosed
    → ((k : Bracket) → c ≡ Some k → opener (innermost unclosed) ≡ Some k)
    → AreOpen (t ∷ before) (with_opened o (t ∷ before) (without_closed c unclosed))
open_more t before unclosed None None eo ec is allowed = outward (λ at b. neither eo ec b) is
open_more t before unclosed (Some k) None eo ec is allowed = inside same eo (first ec) is
open_more t before unclosed None (Some k) eo ec (empty b) allowed = absurd (let e = allowed k refl in cc)
open_more t before unclosed None (Some k) eo ec (inside b e out below) allowed =
    outward (λ at further. closed eo ec b (allowed k refl) out further) below
open_more t before unclosed (Some l) (Some k) eo ec (empty b) allowed = absurd (let e = allowed k refl in cc)
open_more t before unclosed (Some l) (Some k) eo ec (inside b e out below) allowed =
    inside same eo (later ec b (allowed k refl) out) below

-- ---- what comes next

skips_by : (room : ℕ) (bytes : List ℕ) (out : Option (List ℕ)) → blank_rest bytes ≡ out
    → ((rest : List ℕ) → blank_rest bytes ≡ Some rest → Skips rest (skipped room rest))
    → Skips bytes (or_further bytes out (λ rest. skipped room rest))
skips_by room bytes None e further = stop e
skips_by room bytes (Some rest) e further = more e (further rest e)

pub skips : (room : ℕ) (bytes : List ℕ) → length bytes < room → Skips bytes (skipped room bytes)
skips zero bytes l = absurd (omega arith)
skips (suc room) bytes l =
    skips_by room bytes (blank_rest bytes) refl
    (λ rest e. let shorter = blank_shorter bytes rest e in skips room rest (omega arith))

-- the brackets behind all tokens but the last, which the slash goes by, and behind all
pub record Kept (before : List Lexeme) : Type 0 where
  pub slash : Slash before (begins_regex before)
  pub unclosed : AreOpen before (open_brackets before)

pub kept_more : (t : Lexeme) (before : List Lexeme) → Kept before
    → refusal (opens t.sort) (closes t.sort) (opener (innermost (open_brackets before))) (depth before) ≡ None
    → Kept (t ∷ before)
kept_more t before kept e = record {
  slash = token (innermost_is kept.unclosed) refl;
  unclosed = open_more t before (open_brackets before) (opens t.sort) (closes t.sort) refl refl kept.unclosed
      (λ k f. closes_innermost (opens t.sort) (closes t.sort) (opener (innermost (open_brackets before))) (depth before) k e f);
}

-- ---- the whole text

reads_by : (room : ℕ) (text : List ℕ) (before : List Lexeme) (rest : List ℕ) → length rest < suc room
    → Reaches text before rest → Kept before
    → ((further : List Lexeme) (after : List ℕ) → length after < room → Reaches text further after → Kept further
    → ReadsOutline text (read_from room (length text) further after))
    → (out : Next) → IsNext before rest out → Allowed (opener (innermost (open_brackets before))) (depth before) out
    → ReadsOutline text (read_on (length text) before out (λ further after. read_from room (length text) further after))
reads_by room text before rest l reached kept behind out i at_end = all reached i refl
reads_by room text before rest l reached kept behind out i at_fault = fault reached i refl
reads_by room text before rest l reached kept behind out i (is_allowed {t} {after} e) =
    let shorter = next_shorter before rest after t i in
    behind (t ∷ before) after (omega arith) (go reached i) (kept_more t before kept e)

reads_from : (room : ℕ) (text : List ℕ) (before : List Lexeme) (rest : List ℕ) → length rest < room
    → Reaches text before rest → Kept before → ReadsOutline text (read_from room (length text) before rest)
reads_from zero text before rest l reached kept = absurd (omega arith)
reads_from (suc room) text before rest l reached kept =
    let at : List ℕ = skipped (suc (length rest)) rest in
    let inner = opener (innermost (open_brackets before)) in
    let comes : IsNext before rest (next_of before rest) =
    next kept.slash (innermost_is kept.unclosed) (skips (suc (length rest)) rest (omega arith)) refl in
    reads_by room text before rest l reached kept
    (λ further after m r k. reads_from room text further after m r k)
    (next_of before rest) comes (next_allowed (begins_regex before) inner (depth before) at)

reads_outline : (text : List ℕ) → ReadsOutline text (read_outline text)
unfolding read_outline
reads_outline text =
    reads_from (suc (length (hashbang_rest text))) text [] (hashbang_rest text) (omega arith) (begin refl)
    (record { slash = start; unclosed = empty same })

pub outline_is_read : OutlineIsRead
outline_is_read text out = (
  (λ reads. one_outline text (read_outline text) out (reads_outline text) reads),
  (λ e. subst (ReadsOutline text) e (reads_outline text)),
)
