-- A string, piece by piece: a run of bytes that stand for themselves, or an escape.
use Rattle.std.specs.Prelude.{◌≡◌, ◌≢◌, ℕ, ◌<◌, ◌≤◌, Bool, true, false, cond, ◌==◌, not, nat_le, ◌&&◌, List, [], ◌∷◌, ◌++◌, length}
use Rattle.std.proofs.Common.{refl, ap, sym, ◌∙◌, arith, append_assoc, append-nil, length-append}
use Rattle.std.proofs.lemmas.Bool.{and_parts, not-true, eqb-false, eqb-true, leb-true, le-leb, false_from_ne_true, cases_lt, true≢false}
use mathlib.Core.Logic.{inl, inr}
use Rattle.json_spec.specs.Taken.{taken, refused, Read, behind_piece}
use Rattle.json_spec.specs.Strings.{escape_at, ReadsText, close, plain, escape, no_escape, control, text_ends}
use Rattle.json_spec.proofs.Shorter.{AtMost, escape_at_most}
use Rattle.ordered_json.specs.Scanned.{is_plain, after_plain}

-- what is found of the string so far, with a reading of what is left, is a reading of the whole
pub record Completes (bytes found rest : List ℕ) : Type 0 where
  pub all : (out : Read (List ℕ)) → ReadsText rest out → ReadsText bytes (behind_piece found out)

no_piece : (out : Read (List ℕ)) → behind_piece [] out ≡ out
no_piece (taken text rest) = refl
no_piece (refused e) = refl

two_pieces : (piece more : List ℕ) (out : Read (List ℕ)) → behind_piece piece (behind_piece more out) ≡ behind_piece (piece ++ more) out
two_pieces piece more (taken text rest) = ap (λ (xs : List ℕ). taken xs rest) (sym (append_assoc piece more text))
two_pieces piece more (refused e) = refl

nothing_taken : (bytes : List ℕ) → Completes bytes [] bytes
nothing_taken bytes = record { all = λ out r. rw (no_piece out) r }

-- the front that stands for itself
abbrev pub plain_front : List ℕ → List ℕ
plain_front [] = []
plain_front (b ∷ bytes) = cond (is_plain b) (b ∷ plain_front bytes) []

split_first : (b : ℕ) (bytes front after : List ℕ) (t : Bool) → bytes ≡ front ++ after → b ∷ bytes ≡ cond t (b ∷ front) [] ++ cond t after (b ∷ bytes)
split_first b bytes front after true e = ap (λ (xs : List ℕ). b ∷ xs) e
split_first b bytes front after false e = refl

pub plain_split : (bytes : List ℕ) → bytes ≡ plain_front bytes ++ after_plain bytes
plain_split [] = refl
plain_split (b ∷ bytes) = split_first b bytes _ _ (is_plain b) (plain_split bytes)

pub plain_at_most : (bytes : List ℕ) → length (after_plain bytes) ≤ length bytes
plain_at_most bytes = omega (arith, ap length (plain_split bytes), length-append (plain_front bytes) (after_plain bytes))

plain_reads : (b : ℕ) (bytes : List ℕ) (out : Read (List ℕ)) → is_plain b ≡ true → ReadsText bytes out → ReadsText (b ∷ bytes) (behind_piece (b ∷ []) out)
plain_reads b bytes out t r =
    let parts = and_parts (not (b == 34)) (not (b == 92) && nat_le 32 b) t in
    let more = and_parts (not (b == 92)) (nat_le 32 b) parts.1 in
    plain (eqb-false b 34 (not-true _ parts.0)) (eqb-false b 92 (not-true _ more.0)) (leb-true 32 b more.1) r

front_first : (b : ℕ) (bytes front after : List ℕ) (out : Read (List ℕ)) (t : Bool) → is_plain b ≡ t → (ReadsText after out → ReadsText bytes (behind_piece front out)) → ReadsText (cond t after (b ∷ bytes)) out → ReadsText (b ∷ bytes) (behind_piece (cond t (b ∷ front) []) out)
front_first b bytes front after out true e more r = rw (two_pieces (b ∷ []) front out) at (plain_reads b bytes (behind_piece front out) e (more r))
front_first b bytes front after out false e more r = rw (no_piece out) r

front_reads : (bytes : List ℕ) (out : Read (List ℕ)) → ReadsText (after_plain bytes) out → ReadsText bytes (behind_piece (plain_front bytes) out)
front_reads [] out r = rw (no_piece out) r
front_reads (b ∷ bytes) out r = front_first b bytes (plain_front bytes) (after_plain bytes) out (is_plain b) refl (front_reads bytes out) r

pub completes_plain : (bytes found rest piece : List ℕ) → Completes bytes found rest → piece ≡ plain_front rest → Completes bytes (found ++ piece) (after_plain rest)
completes_plain bytes found rest piece c e = record { all = λ out r. rw (e, ← two_pieces found (plain_front rest) out) (c.all (behind_piece (plain_front rest) out) (front_reads rest out r)) }

pub completes_escape : (bytes found rest inner piece middle : List ℕ) → Completes bytes found rest → rest ≡ 92 ∷ inner → escape_at inner ≡ taken piece middle → Completes bytes (found ++ piece) middle
completes_escape bytes found rest inner piece middle c e f = record { all = λ out r. rw (← two_pieces found piece out) (c.all (behind_piece piece out) (rw e (escape f r))) }

pub closes : (bytes found rest more : List ℕ) → Completes bytes found rest → rest ≡ 34 ∷ more → ReadsText bytes (taken found more)
closes bytes found rest more c e = rw (append-nil found) at (c.all (taken [] more) (rw e close))

pub fails : (bytes found rest : List ℕ) → Completes bytes found rest → ReadsText rest (refused tt) → ReadsText bytes (refused tt)
fails bytes found rest c r = c.all (refused tt) r

pub ends_open : (rest : List ℕ) → rest ≡ [] → ReadsText rest (refused tt)
ends_open rest e = rw e text_ends

pub has_no_escape : (d : ℕ) (rest inner : List ℕ) → rest ≡ d ∷ inner → d ≡ 92 → escape_at inner ≡ refused tt → ReadsText rest (refused tt)
has_no_escape d rest inner e is f = rw (e, is) (no_escape f)

-- what ends the plain front isn't plain
stops_first : (b d : ℕ) (bytes more after : List ℕ) (t : Bool) → is_plain b ≡ t → (after ≡ d ∷ more → is_plain d ≡ false) → cond t after (b ∷ bytes) ≡ d ∷ more → is_plain d ≡ false
stops_first b d bytes more after true e f g = f g
stops_first b d bytes more after false e f g = let same : b ≡ d = cc in rw (← same) e

stops : (d : ℕ) (bytes more : List ℕ) → after_plain bytes ≡ d ∷ more → is_plain d ≡ false
stops d [] more e = absurd (cc)
stops d (b ∷ bytes) more e = stops_first b d bytes more (after_plain bytes) (is_plain b) refl (stops d bytes more) e

plain_from : (d : ℕ) → d ≢ 34 → d ≢ 92 → 32 ≤ d → is_plain d ≡ true
plain_from d n m l = rw (false_from_ne_true (d == 34) (λ t. n (eqb-true d 34 t)), false_from_ne_true (d == 92) (λ t. m (eqb-true d 92 t))) (le-leb 32 d l)

pub has_control : (d : ℕ) (bytes rest more : List ℕ) → rest ≡ after_plain bytes → rest ≡ d ∷ more → d ≢ 34 → d ≢ 92 → ReadsText rest (refused tt)
has_control d bytes rest more e f n m =
    elim (cases_lt d 32) [
      | inl l ↦ rw f (control l)
      | inr l ↦ absurd (let t = plain_from d n m l in let u = stops d bytes more (sym e ∙ f) in true≢false (sym t ∙ u))
    ]

-- what is left behind an escape
escape_left : (n : ℕ) (out : Read (List ℕ)) (piece middle : List ℕ) → AtMost n out → out ≡ taken piece middle → length middle ≤ n
escape_left n (taken x rest) piece middle l e = let same : rest ≡ middle = cc in rw (← same) l
escape_left n (refused u) piece middle l e = absurd (cc)

pub escape_shorter : (inner piece middle : List ℕ) → escape_at inner ≡ taken piece middle → length middle ≤ length inner
escape_shorter inner piece middle e = escape_left (length inner) (escape_at inner) piece middle (escape_at_most inner) e

-- a turn of the loop: `after` is behind the plain front of `rest`, and what stands before it was put behind `found`
pub record Turned (bytes found rest after items : List ℕ) : Type 0 where
  pub so_far : Completes bytes found rest
  pub at_most : length rest ≤ length bytes
  pub skipped : after ≡ after_plain rest
  pub whole : Completes bytes items after

pub turned : (bytes found rest after piece items : List ℕ) → Completes bytes found rest → length rest ≤ length bytes → after ≡ after_plain rest → ((p : List ℕ) → rest ≡ p ++ after → piece ≡ p) → items ≡ found ++ piece → Turned bytes found rest after items
turned bytes found rest after piece items c l e p i =
    let front : piece ≡ plain_front rest = p (plain_front rest) (plain_split rest ∙ ap (λ (xs : List ℕ). plain_front rest ++ xs) (sym e)) in
    record { so_far = c; at_most = l; skipped = e; whole = rw (e, i) (completes_plain bytes found rest piece c front) }

pub left : {bytes found rest after items : List ℕ} (more : List ℕ) (d : ℕ) → Turned bytes found rest after items → after ≡ d ∷ more → length more < length rest
left {rest = rest} more d t e = omega (arith, plain_at_most rest, ap length t.skipped, ap length e)

pub closes_turn : {bytes found rest after items : List ℕ} (more : List ℕ) (d : ℕ) → Turned bytes found rest after items → after ≡ d ∷ more → d ≡ 34 → ReadsText bytes (taken items more) × (length more < length bytes)
closes_turn more d t e is = let l = left more d t e in let m = t.at_most in (closes _ _ _ more t.whole (rw (← is) e), omega arith)

pub escapes_turn : {bytes found rest after items : List ℕ} (inner piece middle : List ℕ) (d : ℕ) → Turned bytes found rest after items → after ≡ d ∷ inner → d ≡ 92 → escape_at inner ≡ taken piece middle → Completes bytes (items ++ piece) middle × (length middle < length rest)
escapes_turn inner piece middle d t e is f = let l = left inner d t e in let m = escape_shorter inner piece middle f in (completes_escape _ _ _ inner piece middle t.whole (rw (← is) e) f, omega arith)

-- `front` is the plain front of the whole
pub begins_plain : (bytes after front items : List ℕ) → after ≡ after_plain bytes → ((p : List ℕ) → bytes ≡ p ++ after → front ≡ p) → items ≡ front → Completes bytes items after
begins_plain bytes after front items e p i = (turned bytes [] bytes after front items (nothing_taken bytes) (omega arith) e p i).whole

-- a string without an escape: `after` is behind its plain front, which is `piece`
pub plain_string : (bytes after piece rest : List ℕ) → after ≡ after_plain bytes → ((p : List ℕ) → bytes ≡ p ++ after → piece ≡ p) → after ≡ 34 ∷ rest → ReadsText bytes (taken piece rest) × (length rest < length bytes)
plain_string bytes after piece rest e p closed = closes_turn rest 34 (turned bytes [] bytes after piece piece (nothing_taken bytes) (omega arith) e p refl) closed refl
