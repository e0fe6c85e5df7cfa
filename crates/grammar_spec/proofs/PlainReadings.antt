-- What the functions read is what the relations have.
use Rattle.std.proofs.Common.{◌≡◌, ◌<◌, ℕ, zero, suc, Bool, true, false, nat_le, List, [], ◌∷◌, length, reverse, Option, Some, None, refl, sym, subst, arith}
use Rattle.std.proofs.Common.{if◌then◌else◌}
use Rattle.std.proofs.lemmas.Bool.Decides.{nat_tests}
use Rattle.module_spec.specs.Spellings.{hashbang_rest}
use Rattle.module_spec.specs.Tokens.{Lexeme, Next, opener, depth, Reaches, IsNext}
use Rattle.module_spec.specs.Tokens.Next.{Ends}
use Rattle.module_spec.specs.Tokens.Balanced.{same}
use Rattle.module_spec.specs.Tokens.Slash.{start as slash_start}
use Rattle.module_spec.specs.Tokens.IsNext.{next}
use Rattle.module_spec.specs.Tokens.Reaches.{begin, go}
use Rattle.module_spec.specs.OutlineReading.{open_brackets, innermost, begins_regex, skipped, next_of}
use Rattle.module_spec.proofs.Suffixes.{next_shorter}
use Rattle.module_spec.proofs.BracketLaws.{Allowed, at_end, at_fault, allowed as is_allowed, next_allowed}
use Rattle.module_spec.proofs.OutlineReadings.{Kept, kept_more, skips, innermost_is}
use Rattle.module_spec.proofs.OutlineReadings.AreOpen.{empty}
use Rattle.grammar_spec.specs.declared.names.Context.{Context}
use Rattle.grammar_spec.specs.declared.names.Rule.TheVariants.{Module}
use Rattle.grammar_spec.specs.Sights.{Sight, sights}
use Rattle.grammar_spec.specs.Forms.{Form, quoted, one, ahead, ◌▸◌, ◌∣◌, maybe, many, rule, asks, nested, headed}
use Rattle.grammar_spec.specs.Statements.{body}
use Rattle.grammar_spec.specs.Readings.{Place, Outcome, stays, takes, misses, faults, too_deep, behind, or_stays, deeper}
use Rattle.grammar_spec.specs.Readings.{with_request, in_head, most_open, start, nothing_open, Reads}
use Rattle.grammar_spec.specs.Readings.Reads.{reads_quoted, reads_one, reads_ahead, then_here, then_there, then_ends}
use Rattle.grammar_spec.specs.Readings.Reads.{or_first, or_second, reads_maybe, many_more, many_ends, reads_rule}
use Rattle.grammar_spec.specs.Readings.Reads.{reads_asks, nested_deep, reads_nested, reads_headed}
use Rattle.grammar_spec.specs.Verdicts.{Verdict, ReadsGrammar}
use Rattle.grammar_spec.specs.Verdicts.ReadsGrammar.{reads}
use Rattle.grammar_spec.specs.PlainReading.{read, on, then_read, or_read, again, lexed_on, lexed_from, lexed, verdict_on}
use Rattle.grammar_spec.specs.PlainReading.{verdict_by}
use Rattle.grammar_spec.specs.Laws.{PlainIsRead}

inner : {A : Type 0} {x y : A} → Some x ≡ Some y → y ≡ x
inner e = cc

-- ---- a form

-- what the function gives at a place, for each place, is what the form reads there
abbrev AreRead : List Sight → Context → Form → (Place → Option Outcome) → Type 0
AreRead tokens c f given = (q : Place) (out : Outcome) → given q ≡ Some out → Reads tokens c f q out

module _ {tokens : List Sight} {c : Context} {p : Place} where
  behind_read : {a b : Form} (q : Place) (found : Option Outcome) (out : Outcome) → Reads tokens c a p (takes q)
      → ((x : Outcome) → found ≡ Some x → Reads tokens c b q x) → on found (λ x. Some (behind q x)) ≡ Some out
      → Reads tokens c (a ▸ b) p out
  behind_read q None out r s e = absurd (cc)
  behind_read q (Some x) out r s e = then_there r (s x refl) (inner e)

  then_by : {a b : Form} (first : Outcome) (second : Place → Option Outcome) (out : Outcome) → Reads tokens c a p first
      → AreRead tokens c b second → then_read first p second ≡ Some out → Reads tokens c (a ▸ b) p out
  then_by stays second out r s e = then_here r (s p out e)
  then_by (takes q) second out r s e = behind_read q (second q) out r (λ x f. s q x f) e
  then_by {a} {b} misses second out r s e = subst (λ z. Reads tokens c (a ▸ b) p z) (sym (inner e)) (then_ends r refl)
  then_by {a} {b} (faults at) second out r s e =
      subst (λ z. Reads tokens c (a ▸ b) p z) (sym (inner e)) (then_ends r refl)
  then_by {a} {b} too_deep second out r s e = subst (λ z. Reads tokens c (a ▸ b) p z) (sym (inner e)) (then_ends r refl)

  then_from : {a b : Form} (first : Option Outcome) (second : Place → Option Outcome) (out : Outcome)
      → ((x : Outcome) → first ≡ Some x → Reads tokens c a p x) → AreRead tokens c b second
      → on first (λ x. then_read x p second) ≡ Some out → Reads tokens c (a ▸ b) p out
  then_from None second out r s e = absurd (cc)
  then_from (Some x) second out r s e = then_by x second out (r x refl) s e

  or_by : {a b : Form} (first : Outcome) (other : Option Outcome) (out : Outcome) → Reads tokens c a p first
      → ((x : Outcome) → other ≡ Some x → Reads tokens c b p x) → or_read first other ≡ Some out
      → Reads tokens c (a ∣ b) p out
  or_by {a} {b} stays other out r s e = subst (λ z. Reads tokens c (a ∣ b) p z) (sym (inner e)) (or_first r refl)
  or_by {a} {b} (takes q) other out r s e = subst (λ z. Reads tokens c (a ∣ b) p z) (sym (inner e)) (or_first r refl)
  or_by misses other out r s e = or_second r (s out e)
  or_by {a} {b} (faults at) other out r s e = subst (λ z. Reads tokens c (a ∣ b) p z) (sym (inner e)) (or_first r refl)
  or_by {a} {b} too_deep other out r s e = subst (λ z. Reads tokens c (a ∣ b) p z) (sym (inner e)) (or_first r refl)

  or_from : {a b : Form} (first other : Option Outcome) (out : Outcome)
      → ((x : Outcome) → first ≡ Some x → Reads tokens c a p x) → ((x : Outcome) → other ≡ Some x → Reads tokens c b p x)
      → on first (λ x. or_read x other) ≡ Some out → Reads tokens c (a ∣ b) p out
  or_from None other out r s e = absurd (cc)
  or_from (Some x) other out r s e = or_by x other out (r x refl) s e

  more_read : {a : Form} (q : Place) (found : Option Outcome) (out : Outcome) → Reads tokens c a p (takes q)
      → ((x : Outcome) → found ≡ Some x → Reads tokens c (many a) q x) → on found (λ x. Some (behind q x)) ≡ Some out
      → Reads tokens c (many a) p out
  more_read q None out r s e = absurd (cc)
  more_read q (Some x) out r s e = many_more r (s x refl) (inner e)

  many_by : {a : Form} (first : Outcome) (more : Place → Option Outcome) (out : Outcome) → Reads tokens c a p first
      → AreRead tokens c (many a) more → again first more ≡ Some out → Reads tokens c (many a) p out
  many_by stays more out r s e = many_ends r refl (inner e)
  many_by (takes q) more out r s e = more_read q (more q) out r (λ x f. s q x f) e
  many_by misses more out r s e = many_ends r refl (inner e)
  many_by (faults at) more out r s e = many_ends r refl (inner e)
  many_by too_deep more out r s e = many_ends r refl (inner e)

  many_from : {a : Form} (first : Option Outcome) (more : Place → Option Outcome) (out : Outcome)
      → ((x : Outcome) → first ≡ Some x → Reads tokens c a p x) → AreRead tokens c (many a) more
      → on first (λ x. again x more) ≡ Some out → Reads tokens c (many a) p out
  many_from None more out r s e = absurd (cc)
  many_from (Some x) more out r s e = many_by x more out (r x refl) s e

  maybe_from : {a : Form} (first : Option Outcome) (out : Outcome) → ((x : Outcome) → first ≡ Some x → Reads tokens c a p x)
      → on first (λ x. Some (or_stays x)) ≡ Some out → Reads tokens c (maybe a) p out
  maybe_from None out r e = absurd (cc)
  maybe_from (Some x) out r e = reads_maybe (r x refl) (inner e)

  asks_from : {a : Form} (first : Option Outcome) (out : Outcome) → ((x : Outcome) → first ≡ Some x → Reads tokens c a p x)
      → on first (λ x. Some (with_request tokens p.at x)) ≡ Some out → Reads tokens c (asks a) p out
  asks_from None out r e = absurd (cc)
  asks_from (Some x) out r e = reads_asks (r x refl) (inner e)

  nested_from : {a : Form} (full : Bool) (found : Option Outcome) (out : Outcome) → nat_le most_open c.opened ≡ full
      → (found ≡ Some out → Reads tokens (deeper c) a p out) → (if full then Some too_deep else found) ≡ Some out
      → Reads tokens c (nested a) p out
  nested_from true found out f r e = nested_deep (grind (arith, nat_tests)) (inner e)
  nested_from false found out f r e = reads_nested (grind (arith, nat_tests)) (r e)

form_is_read : (room : ℕ) (tokens : List Sight) (c : Context) (f : Form) (p : Place) (out : Outcome)
    → read room tokens c f p ≡ Some out → Reads tokens c f p out
form_is_read zero tokens c f p out e = absurd (cc)
form_is_read (suc room) tokens c (quoted word) p out e = reads_quoted (inner e)
form_is_read (suc room) tokens c (one asked) p out e = reads_one (inner e)
form_is_read (suc room) tokens c (ahead guard) p out e = reads_ahead (inner e)
form_is_read (suc room) tokens c (a ▸ b) p out e =
    then_from (read room tokens c a p) (λ q. read room tokens c b q) out
    (λ x f. form_is_read room tokens c a p x f) (λ q x f. form_is_read room tokens c b q x f) e
form_is_read (suc room) tokens c (a ∣ b) p out e =
    or_from (read room tokens c a p) (read room tokens c b p) out
    (λ x f. form_is_read room tokens c a p x f) (λ x f. form_is_read room tokens c b p x f) e
form_is_read (suc room) tokens c (maybe a) p out e =
    maybe_from (read room tokens c a p) out (λ x f. form_is_read room tokens c a p x f) e
form_is_read (suc room) tokens c (many a) p out e =
    many_from (read room tokens c a p) (λ q. read room tokens c (many a) q) out
    (λ x f. form_is_read room tokens c a p x f) (λ q x f. form_is_read room tokens c (many a) q x f) e
form_is_read (suc room) tokens c (rule r) p out e = reads_rule (form_is_read room tokens c (body r) p out e)
form_is_read (suc room) tokens c (asks a) p out e =
    asks_from (read room tokens c a p) out (λ x f. form_is_read room tokens c a p x f) e
form_is_read (suc room) tokens c (nested a) p out e =
    nested_from (nat_le most_open c.opened) (read room tokens (deeper c) a p) out refl
    (λ f. form_is_read room tokens (deeper c) a p out f) e
form_is_read (suc room) tokens c (headed a) p out e =
    reads_headed (form_is_read room tokens (in_head tokens p c) a p out e)

-- ---- a text

-- the tokens of a text, and that it ends behind them
record Lexed (text : List ℕ) (before : List Lexeme) : Type 0 where
  rest : List ℕ
  reached : Reaches text before rest
  ended : IsNext before rest Ends

lexed_by : (room : ℕ) (text : List ℕ) (before : List Lexeme) (rest : List ℕ) (all : List Lexeme) (out : Next)
    → Reaches text before rest → Kept before → length rest < suc room
    → ((further : List Lexeme) (after : List ℕ) → Reaches text further after → Kept further → length after < room
    → lexed_from room further after ≡ Some all → Lexed text all)
    → IsNext before rest out → Allowed (opener (innermost (open_brackets before))) (depth before) out
    → lexed_on before out (λ more after. lexed_from room more after) ≡ Some all → Lexed text all
lexed_by room text before rest all out reached kept l further i at_end e =
    subst (Lexed text) (sym (inner e)) (record { rest = rest; reached = reached; ended = i })
lexed_by room text before rest all out reached kept l further i at_fault e = absurd (cc)
lexed_by room text before rest all out reached kept l further i (is_allowed {t} {after} a) e =
    let shorter = next_shorter before rest after t i in
    further (t ∷ before) after (go reached i) (kept_more t before kept a) (omega arith) e

lexed_is : (room : ℕ) (text : List ℕ) (before : List Lexeme) (rest : List ℕ) (all : List Lexeme)
    → Reaches text before rest → Kept before → length rest < room → lexed_from room before rest ≡ Some all
    → Lexed text all
lexed_is zero text before rest all reached kept l e = absurd (omega arith)
lexed_is (suc room) text before rest all reached kept l e =
    let at : List ℕ = skipped (suc (length rest)) rest in
    let comes : IsNext before rest (next_of before rest) =
    next kept.slash (innermost_is kept.unclosed) (skips (suc (length rest)) rest (omega arith)) refl in
    lexed_by room text before rest all (next_of before rest) reached kept l
    (λ further after r k m f. lexed_is room text further after all r k m f) comes
    (next_allowed (begins_regex before) (opener (innermost (open_brackets before))) (depth before) at) e

all_lexed : (text : List ℕ) (all : List Lexeme) → lexed text ≡ Some all → Lexed text all
unfolding lexed
all_lexed text all e =
    lexed_is (suc (length (hashbang_rest text))) text [] (hashbang_rest text) all (begin refl)
    (record { slash = slash_start; unclosed = empty same }) (omega arith) e

verdict_by_read : (room : ℕ) (text : List ℕ) (before : List Lexeme) (said : Verdict) (found : Option Outcome)
    → Lexed text before → read room (reverse (sights text before)) nothing_open (rule Module) start ≡ found
    → verdict_on text (reverse (sights text before)) found ≡ Some said → ReadsGrammar text said
verdict_by_read room text before said None all f e = absurd (cc)
verdict_by_read room text before said (Some out) all f e =
    reads all.reached all.ended
    (form_is_read room (reverse (sights text before)) nothing_open (rule Module) start out f) (inner e)

verdict_by_lexed : (room : ℕ) (text : List ℕ) (said : Verdict) (all : Option (List Lexeme)) → lexed text ≡ all
    → verdict_by room text all ≡ Some said → ReadsGrammar text said
verdict_by_lexed room text said None f e = absurd (cc)
verdict_by_lexed room text said (Some before) f e =
    verdict_by_read room text before said (read room (reverse (sights text before)) nothing_open (rule Module) start)
    (all_lexed text before f) refl e

pub plain_is_read : PlainIsRead
plain_is_read = record {
  forms = form_is_read;
  texts = λ room text said e. verdict_by_lexed room text said (lexed text) refl e;
}
