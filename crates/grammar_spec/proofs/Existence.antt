-- A form has an outcome at each place.
use Rattle.std.proofs.Common.{◌≡◌, ◌≤◌, ◌<◌, ◌-◌, ℕ, zero, suc, Bool, true, false, ◌||◌, List, length, refl, sym, ◌∙◌, subst}
use Rattle.std.proofs.Common.{Option, Some, None, arith, codes}
use Rattle.std.proofs.lemmas.Bool.Decides.{nat_tests}
use Rattle.std.proofs.lemmas.Option.{slice_get_within}
use Rattle.std.specs.List.{slice_get}
use Rattle.module_spec.proofs.Tails.{ge_or}
use Rattle.module_spec.specs.declared.token.Kind.TheVariants as kind
use Rattle.grammar_spec.specs.declared.names.Test as tests
use Rattle.grammar_spec.specs.declared.names.Test.TheVariants as test
use Rattle.grammar_spec.specs.declared.names.Context.{Context}
use Rattle.grammar_spec.specs.declared.names.Rule.{Rule}
use Rattle.grammar_spec.specs.Sights.{Sight, passes, is_quoted, holds, there, at_place, is_kind, is_word, is_ident, is_any_of}
use Rattle.grammar_spec.specs.Sights.{assignment_operators, is_operator}
use Rattle.grammar_spec.specs.Forms.{Form, quoted, one, ahead, ◌▸◌, ◌∣◌, maybe, many, rule, asks, nested, headed}
use Rattle.grammar_spec.specs.Statements.{body}
use Rattle.grammar_spec.specs.Readings.{Place, Outcome, stays, takes, misses, faults, too_deep, behind, or_stays, taken, looked, is_match}
use Rattle.grammar_spec.specs.Readings.{with_request, one_more_asked, is_sole, deeper, in_head, most_open, Reads}
use Rattle.grammar_spec.specs.Readings.Reads.{reads_quoted, reads_one, reads_ahead, then_here, then_there, then_ends}
use Rattle.grammar_spec.specs.Readings.Reads.{or_first, or_second, reads_maybe, many_more, many_ends, reads_rule}
use Rattle.grammar_spec.specs.Readings.Reads.{reads_asks, nested_deep, reads_nested, reads_headed}
use Rattle.grammar_spec.specs.Laws.{SomeReading}
use Rattle.grammar_spec.proofs.Orders.{can_stay, body_stays, order, below, body_below, highest, higher, all_below}
use Rattle.grammar_spec.proofs.Orders.{both, both_first, both_second, then_second}

-- ---- a match that takes tokens ends behind them, at the last token at most

there_within : (is : Sight → Bool) (tokens : List Sight) (at : ℕ) (found : Option Sight) → slice_get tokens at ≡ found
    → there is found ≡ true → at < length tokens
there_within is tokens at None e f = absurd (cc)
there_within is tokens at (Some t) e f = slice_get_within tokens at t e

place_within : (is : Sight → Bool) (tokens : List Sight) (at : ℕ) → at_place is tokens at ≡ true → at < length tokens
place_within is tokens at e = there_within is tokens at (slice_get tokens at) refl e

passes_within : (asked : tests.Test) (head : Option ℕ) (tokens : List Sight) (at : ℕ) → passes asked head tokens at ≡ true
    → at < length tokens
unfolding passes
passes_within test.Ident head tokens at e = place_within is_ident tokens at e
passes_within test.Name head tokens at e = place_within (is_kind kind.Name) tokens at e
passes_within test.Private head tokens at e = place_within (is_kind kind.Private) tokens at e
passes_within test.Number head tokens at e = place_within (is_kind kind.Number) tokens at e
passes_within test.Text head tokens at e = place_within (is_kind kind.Text) tokens at e
passes_within test.Regex head tokens at e = place_within (is_kind kind.Regex) tokens at e
passes_within test.TemplateWhole head tokens at e = place_within (is_kind kind.TemplateWhole) tokens at e
passes_within test.TemplateHead head tokens at e = place_within (is_kind kind.TemplateHead) tokens at e
passes_within test.TemplateMiddle head tokens at e = place_within (is_kind kind.TemplateMiddle) tokens at e
passes_within test.TemplateTail head tokens at e = place_within (is_kind kind.TemplateTail) tokens at e
passes_within test.AssignOp head tokens at e = place_within (is_any_of assignment_operators) tokens at e
passes_within test.BinOp head tokens at e = place_within (is_operator head) tokens at e
passes_within test.Comma head tokens at e = place_within (is_word (codes ",")) tokens at (both_first _ _ e)

-- what a match is to the place at which it began, in a text of so many tokens
abbrev Onward : ℕ → ℕ → Outcome → Type 0
Onward size at stays = Unit {0}
Onward size at (takes q) = (at < q.at) × (q.at ≤ size)
Onward size at misses = Unit {0}
Onward size at (faults n) = Unit {0}
Onward size at too_deep = Unit {0}

taken_onward : (size : ℕ) (p : Place) (b : Bool) → (b ≡ true → p.at < size) → Onward size p.at (taken p b)
taken_onward size p true within = (omega arith, within refl)
taken_onward size p false within = tt

looked_onward : (size at : ℕ) (b : Bool) → Onward size at (looked b)
looked_onward size at true = tt
looked_onward size at false = tt

behind_onward : (size at : ℕ) (q : Place) (out : Outcome) → Onward size at (takes q) → Onward size q.at out
    → Onward size at (behind q out)
behind_onward size at q stays there on = there
behind_onward size at q (takes r) there on = (omega (there.0, on.0, arith), on.1)
behind_onward size at q misses there on = tt
behind_onward size at q (faults n) there on = tt
behind_onward size at q too_deep there on = tt

or_onward : (size at : ℕ) (out : Outcome) → Onward size at out → Onward size at (or_stays out)
or_onward size at stays on = tt
or_onward size at (takes q) on = on
or_onward size at misses on = tt
or_onward size at (faults n) on = tt
or_onward size at too_deep on = tt

asked_onward : (tokens : List Sight) (at size : ℕ) (out : Outcome) → Onward size at out
    → Onward size at (with_request tokens at out)
asked_onward tokens at size stays on = tt
asked_onward tokens at size (takes q) on = more_onward (is_sole tokens at q) where
  more_onward : (b : Bool) → Onward size at (takes (one_more_asked at b q))
  more_onward true = on
  more_onward false = on
asked_onward tokens at size misses on = tt
asked_onward tokens at size (faults n) on = tt
asked_onward tokens at size too_deep on = tt

module _ {tokens : List Sight} where
  onward : {c : Context} {f : Form} {p : Place} (out : Outcome) → Reads tokens c f p out → Onward (length tokens) p.at out
  onward {p} out (reads_quoted {word} e) =
      subst (λ z. Onward (length tokens) p.at z) (sym e)
      (taken_onward (length tokens) p (is_quoted word tokens p.at) (λ b. place_within (is_word word) tokens p.at b))
  onward {p} out (reads_one {c} {test} e) =
      subst (λ z. Onward (length tokens) p.at z) (sym e)
      (taken_onward (length tokens) p (passes test c.head tokens p.at) (λ b. passes_within test c.head tokens p.at b))
  onward {p} out (reads_ahead {guard} e) =
      subst (λ z. Onward (length tokens) p.at z) (sym e) (looked_onward (length tokens) p.at (holds guard tokens p.at))
  onward out (then_here d e) = onward out e
  onward {p} out (then_there {q} {next} d e i) =
      subst (λ z. Onward (length tokens) p.at z) (sym i)
      (behind_onward (length tokens) p.at q next (onward (takes q) d) (onward next e))
  onward out (then_ends d e) = onward out d
  onward out (or_first d e) = onward out d
  onward out (or_second d e) = onward out e
  onward {p} out (reads_maybe {found} d e) =
      subst (λ z. Onward (length tokens) p.at z) (sym e) (or_onward (length tokens) p.at found (onward found d))
  onward {p} out (many_more {q} {next} d e i) =
      subst (λ z. Onward (length tokens) p.at z) (sym i)
      (behind_onward (length tokens) p.at q next (onward (takes q) d) (onward next e))
  onward {p} out (many_ends {found} d e i) =
      subst (λ z. Onward (length tokens) p.at z) (sym i) (or_onward (length tokens) p.at found (onward found d))
  onward out (reads_rule d) = onward out d
  onward {p} out (reads_asks {found} d e) =
      subst (λ z. Onward (length tokens) p.at z) (sym e) (asked_onward tokens p.at (length tokens) found (onward found d))
  onward {p} out (nested_deep d e) = subst (λ z. Onward (length tokens) p.at z) (sym e) tt
  onward out (reads_nested d e) = onward out e
  onward out (reads_headed d) = onward out d

-- ---- a form that matches and takes nothing may do so

-- the form may match so, if this is such a match
abbrev Stays : Form → Outcome → Type 0
Stays f stays = can_stay f ≡ true
Stays f (takes q) = Unit {0}
Stays f misses = Unit {0}
Stays f (faults at) = Unit {0}
Stays f too_deep = Unit {0}

looked_stays : (g : Bool) (guard : Form) → can_stay guard ≡ true → Stays guard (looked g)
looked_stays true guard e = e
looked_stays false guard e = tt

taken_stays : (p : Place) (b : Bool) (f : Form) → Stays f (taken p b)
taken_stays p true f = tt
taken_stays p false f = tt

behind_stays : (q : Place) (out : Outcome) (f : Form) → Stays f (behind q out)
behind_stays q stays f = tt
behind_stays q (takes r) f = tt
behind_stays q misses f = tt
behind_stays q (faults at) f = tt
behind_stays q too_deep f = tt

stays_also : (f g : Form) (out : Outcome) → (can_stay f ≡ true → can_stay g ≡ true) → Stays f out → Stays g out
stays_also f g stays also e = also e
stays_also f g (takes q) also e = tt
stays_also f g misses also e = tt
stays_also f g (faults at) also e = tt
stays_also f g too_deep also e = tt

may_stay : (f : Form) (out : Outcome) → can_stay f ≡ true → Stays f out
may_stay f stays e = e
may_stay f (takes q) e = tt
may_stay f misses e = tt
may_stay f (faults at) e = tt
may_stay f too_deep e = tt

no_match_stays : (f : Form) (out : Outcome) → is_match out ≡ false → Stays f out
no_match_stays f stays e = absurd (cc)
no_match_stays f (takes q) e = tt
no_match_stays f misses e = tt
no_match_stays f (faults at) e = tt
no_match_stays f too_deep e = tt

asked_stays : (tokens : List Sight) (at : ℕ) (f : Form) (out : Outcome) → Stays f out
    → Stays (asks f) (with_request tokens at out)
asked_stays tokens at f stays e = e
asked_stays tokens at f (takes q) e = tt
asked_stays tokens at f misses e = tt
asked_stays tokens at f (faults n) e = tt
asked_stays tokens at f too_deep e = tt

either : (a b : Bool) → a ≡ true → (a || b) ≡ true
either true b e = refl
either false b e = absurd (cc)

or_either : (a b : Bool) → b ≡ true → (a || b) ≡ true
or_either true b e = refl
or_either false b e = e

module _ {tokens : List Sight} where
  at_rest : {c : Context} {f : Form} {p : Place} (out : Outcome) → Reads tokens c f p out → Stays f out
  at_rest {p} out (reads_quoted {word} e) =
      subst (λ z. Stays (quoted word) z) (sym e) (taken_stays p (is_quoted word tokens p.at) (quoted word))
  at_rest {p} out (reads_one {c} {test} e) =
      subst (λ z. Stays (one test) z) (sym e) (taken_stays p (passes test c.head tokens p.at) (one test))
  at_rest {p} out (reads_ahead {guard} e) =
      subst (λ z. Stays (ahead guard) z) (sym e) (looked_stays (holds guard tokens p.at) (ahead guard) refl)
  at_rest out (then_here {a} {b} d e) =
      stays_also b (a ▸ b) out (λ s. both (can_stay a) (can_stay b) (at_rest stays d) s) (at_rest out e)
  at_rest out (then_there {a} {b} {q} {next} d e i) =
      subst (λ z. Stays (a ▸ b) z) (sym i) (behind_stays q next (a ▸ b))
  at_rest out (then_ends {a} {b} d e) = no_match_stays (a ▸ b) out e
  at_rest out (or_first {a} {b} d e) =
      stays_also a (a ∣ b) out (λ s. either (can_stay a) (can_stay b) s) (at_rest out d)
  at_rest out (or_second {a} {b} d e) =
      stays_also b (a ∣ b) out (λ s. or_either (can_stay a) (can_stay b) s) (at_rest out e)
  at_rest out (reads_maybe {a} d e) = may_stay (maybe a) out refl
  at_rest out (many_more {a} d e i) = may_stay (many a) out refl
  at_rest out (many_ends {a} d e i) = may_stay (many a) out refl
  at_rest out (reads_rule {r} d) =
      stays_also (body r) (rule r) out (λ s. sym (body_stays r) ∙ s) (at_rest out d)
  at_rest {p} out (reads_asks {a} {found} d e) =
      subst (λ z. Stays (asks a) z) (sym e) (asked_stays tokens p.at a found (at_rest found d))
  at_rest out (nested_deep {a} d e) = subst (λ z. Stays (nested a) z) (sym e) tt
  at_rest out (reads_nested {a} d e) = stays_also a (nested a) out (λ s. s) (at_rest out e)
  at_rest out (reads_headed {a} d) = stays_also a (headed a) out (λ s. s) (at_rest out d)

-- ---- an outcome

abbrev Exists : List Sight → Context → Form → Place → Type 0
Exists tokens c f p = (out : Outcome) × Reads tokens c f p out

-- all forms have one behind the place
abbrev Later : List Sight → Place → Type 0
Later tokens p = (q : Place) → p.at < q.at → q.at ≤ length tokens → (c : Context) (f : Form) → Exists tokens c f q

module _ {tokens : List Sight} {c : Context} {p : Place} where
  by_first : {a b : Form} (out : Outcome) → Reads tokens c a p out → (Reads tokens c a p stays → Exists tokens c b p)
      → Later tokens p → Exists tokens c (a ▸ b) p
  by_first stays d next later = let found = next d in (found.0, then_here d found.1)
  by_first {b} (takes q) d next later =
      let on = onward (takes q) d in
      let found = later q on.0 on.1 c b in
      (behind q found.0, then_there d found.1 refl)
  by_first misses d next later = (misses, then_ends d refl)
  by_first (faults at) d next later = (faults at, then_ends d refl)
  by_first too_deep d next later = (too_deep, then_ends d refl)

  by_choice : {a b : Form} (out : Outcome) → Reads tokens c a p out → Exists tokens c b p → Exists tokens c (a ∣ b) p
  by_choice stays d other = (stays, or_first d refl)
  by_choice (takes q) d other = (takes q, or_first d refl)
  by_choice misses d other = (other.0, or_second d other.1)
  by_choice (faults at) d other = (faults at, or_first d refl)
  by_choice too_deep d other = (too_deep, or_first d refl)

  by_turns : {a : Form} (out : Outcome) → Reads tokens c a p out → Later tokens p → Exists tokens c (many a) p
  by_turns stays d later = (stays, many_ends d refl refl)
  by_turns {a} (takes q) d later =
      let on = onward (takes q) d in
      let found = later q on.0 on.1 c (many a) in
      (behind q found.0, many_more d found.1 refl)
  by_turns misses d later = (stays, many_ends d refl refl)
  by_turns (faults at) d later = (faults at, many_ends d refl refl)
  by_turns too_deep d later = (too_deep, many_ends d refl refl)

  as_maybe : {a : Form} → Exists tokens c a p → Exists tokens c (maybe a) p
  as_maybe found = (or_stays found.0, reads_maybe found.1 refl)

  as_rule : {r : Rule} → Exists tokens c (body r) p → Exists tokens c (rule r) p
  as_rule found = (found.0, reads_rule found.1)

  as_asks : {a : Form} → Exists tokens c a p → Exists tokens c (asks a) p
  as_asks found = (with_request tokens p.at found.0, reads_asks found.1 refl)

  as_nested : {a : Form} → Exists tokens (deeper c) a p → Exists tokens c (nested a) p
  as_nested {a} found =
      ge_or {P = Exists tokens c (nested a) p} c.opened most_open (λ few. (found.0, reads_nested few found.1))
      (λ full. (too_deep, nested_deep full refl))

  as_headed : {a : Form} → Exists tokens (in_head tokens p c) a p → Exists tokens c (headed a) p
  as_headed found = (found.0, reads_headed found.1)

-- by the order of rules, then by the form
some_here : (tokens : List Sight) (p : Place) → Later tokens p → (k : ℕ) (f : Form) (c : Context) → below k f ≡ true
    → Exists tokens c f p
some_here tokens p later k (quoted word) c low = (taken p (is_quoted word tokens p.at), reads_quoted refl)
some_here tokens p later k (one asked) c low = (taken p (passes asked c.head tokens p.at), reads_one refl)
some_here tokens p later k (ahead guard) c low = (looked (holds guard tokens p.at), reads_ahead refl)
some_here tokens p later k (a ▸ b) c low =
    let first = some_here tokens p later k a c (both_first _ _ low) in
    by_first first.0 first.1
    (λ d. some_here tokens p later k b c (then_second (can_stay a) _ (both_second (below k a) _ low) (at_rest stays d)))
    later
some_here tokens p later k (a ∣ b) c low =
    let first = some_here tokens p later k a c (both_first _ _ low) in
    by_choice first.0 first.1 (some_here tokens p later k b c (both_second (below k a) _ low))
some_here tokens p later k (maybe a) c low = as_maybe (some_here tokens p later k a c low)
some_here tokens p later k (many a) c low =
    let first = some_here tokens p later k a c low in
    by_turns first.0 first.1 later
some_here tokens p later zero (rule r) c low = absurd (grind (arith, nat_tests))
some_here tokens p later (suc k) (rule r) c low =
    as_rule (some_here tokens p later k (body r) c (higher (order r) k (body r) (grind (arith, nat_tests)) (body_below r)))
some_here tokens p later k (asks a) c low = as_asks (some_here tokens p later k a c low)
some_here tokens p later k (nested a) c low = as_nested (some_here tokens p later k a (deeper c) low)
some_here tokens p later k (headed a) c low = as_headed (some_here tokens p later k a (in_head tokens p c) low)

-- by the number of tokens that are left
some_from : (n : ℕ) (tokens : List Sight) (p : Place) → length tokens - p.at ≤ n → (c : Context) (f : Form)
    → Exists tokens c f p
some_from zero tokens p room c f =
    some_here tokens p (λ q on end d g. absurd (omega (on, end, room, arith))) highest f c (all_below f)
some_from (suc n) tokens p room c f =
    some_here tokens p (λ q on end d g. some_from n tokens q (omega (on, end, room, arith)) d g) highest f c (all_below f)

pub some_reading : SomeReading
some_reading tokens c f p = some_from (length tokens) tokens p (omega arith) c f
