-- The reading ends: each state has a number of turns behind which it does.
use Rattle.std.proofs.Common.{◌≡◌, ◌<◌, ℕ, zero, suc, Bool, true, false, nat_le, List, [], ◌∷◌, Some, None, if◌then◌else◌, refl, sym, ◌∙◌, ap, subst, arith}
use Rattle.std.proofs.lemmas.Bool.{lt-leb, le-leb}
use Rattle.grammar_spec.specs.declared.names.Context.{Context}
use Rattle.grammar_spec.specs.Sights.{Sight, passes, is_quoted, holds}
use Rattle.grammar_spec.specs.Forms.{Form, many}
use Rattle.grammar_spec.specs.Readings.{Place, Outcome, stays, takes, misses, faults, too_deep, behind, or_stays, taken, is_match}
use Rattle.grammar_spec.specs.Readings.{is_take, is_miss, is_sole, one_more_asked, with_request, deeper, in_head, most_open, Reads}
use Rattle.grammar_spec.specs.Readings.{looked as looked_out}
use Rattle.grammar_spec.specs.Readings.Reads.{reads_quoted, reads_one, reads_ahead, then_here, then_there, then_ends}
use Rattle.grammar_spec.specs.Readings.Reads.{or_first, or_second, reads_maybe, many_more, many_ends, reads_rule}
use Rattle.grammar_spec.specs.Readings.Reads.{reads_asks, nested_deep, reads_nested, reads_headed}
use Rattle.grammar_spec.proofs.Existence.{some_reading}
use Rattle.es_grammar.specs.Turning.{Job, read_then, read_or, may_come, may_come_again, came_before, has_taken, may_ask, goes_back}
use Rattle.es_grammar.specs.Turning.{Leads}
use Rattle.es_grammar.specs.Turning.Leads.{once, further}
use Rattle.es_grammar.specs.Turning.{Doing, reads, stayed, took, missed, over, State, state, tested, looked, next}

-- the reading ends behind so many turns
pub data Halts (tokens : List Sight) : State → ℕ → Type 0 where
  halted : {s : State} → next tokens s ≡ None → Halts tokens s zero
  goes : {s t : State} {n : ℕ} → next tokens s ≡ Some t → Halts tokens t n → Halts tokens s (suc n)

pub same_state : {s t : State} → Some s ≡ Some t → s ≡ t
same_state e = cc

pub one_number : {tokens : List Sight} {s : State} (m n : ℕ) → Halts tokens s m → Halts tokens s n → m ≡ n
one_number m n (halted e) (halted f) = refl
one_number m n (halted e) (goes f h) = absurd (cc)
one_number m n (goes e g) (halted f) = absurd (cc)
one_number {tokens} m n (goes {t} {n = k} e g) (goes {t = u} {n = l} f h) =
    let same : u ≡ t = same_state (sym f ∙ e) in
    ap suc (one_number k l g (subst (λ z. Halts tokens z l) same h))

abbrev pub Ending : List Sight → State → Type 0
Ending tokens s = (n : ℕ) × Halts tokens s n

-- the state in which a form that was begun at the place has given its outcome
abbrev pub given : List Job → Context → Place → Outcome → State
given jobs c p stays = state jobs c p.at stayed
given jobs c p (takes q) = state jobs c q.at took
given jobs c p misses = state jobs c p.at missed
given jobs c p (faults at) = state jobs c p.at over
given jobs c p too_deep = state jobs c p.at over

module _ {tokens : List Sight} where
  pub onward : {s : State} (t : State) → next tokens s ≡ Some t → Ending tokens t → Ending tokens s
  onward t e k = (suc k.0, goes e k.1)

  pub at_end : {s : State} → next tokens s ≡ None → Ending tokens s
  at_end e = (zero, halted e)

  taken_ends : (jobs : List Job) (c : Context) (p : Place) (b : Bool) → Ending tokens (given jobs c p (taken p b))
      → Ending tokens (tested jobs c p.at b)
  taken_ends jobs c p true k = k
  taken_ends jobs c p false k = k

  looked_ends : (jobs : List Job) (c : Context) (p : Place) (b : Bool) → Ending tokens (given jobs c p (looked_out b))
      → Ending tokens (looked jobs c p.at b)
  looked_ends jobs c p true k = k
  looked_ends jobs c p false k = k

  behind_then : (jobs : List Job) (c : Context) (p : Place) (b : Form) (out : Outcome) → is_match out ≡ false
      → Ending tokens (given jobs c p out) → Ending tokens (given (read_then b ∷ jobs) c p out)
  behind_then jobs c p b stays e k = absurd (cc)
  behind_then jobs c p b (takes q) e k = absurd (cc)
  behind_then jobs c p b misses e k = onward _ refl k
  behind_then jobs c p b (faults at) e k = at_end refl
  behind_then jobs c p b too_deep e k = at_end refl

  behind_or : (jobs : List Job) (c : Context) (p : Place) (b : Form) (out : Outcome) → is_miss out ≡ false
      → Ending tokens (given jobs c p out) → Ending tokens (given (read_or b ∷ jobs) c p out)
  behind_or jobs c p b stays e k = onward _ refl k
  behind_or jobs c p b (takes q) e k = onward _ refl k
  behind_or jobs c p b misses e k = absurd (cc)
  behind_or jobs c p b (faults at) e k = at_end refl
  behind_or jobs c p b too_deep e k = at_end refl

  behind_maybe : (jobs : List Job) (c : Context) (p : Place) (out : Outcome) → Ending tokens (given jobs c p (or_stays out))
      → Ending tokens (given (may_come ∷ jobs) c p out)
  behind_maybe jobs c p stays k = onward _ refl k
  behind_maybe jobs c p (takes q) k = onward _ refl k
  behind_maybe jobs c p misses k = onward _ refl k
  behind_maybe jobs c p (faults at) k = at_end refl
  behind_maybe jobs c p too_deep k = at_end refl

  behind_many : (jobs : List Job) (c : Context) (p : Place) (a : Form) (out : Outcome) → is_take out ≡ false
      → Ending tokens (given jobs c p (or_stays out)) → Ending tokens (given (may_come_again a ∷ jobs) c p out)
  behind_many jobs c p a stays e k = onward _ refl k
  behind_many jobs c p a (takes q) e k = absurd (cc)
  behind_many jobs c p a misses e k = onward _ refl k
  behind_many jobs c p a (faults at) e k = at_end refl
  behind_many jobs c p a too_deep e k = at_end refl

  behind_more : (jobs : List Job) (c : Context) (p q : Place) (a : Form) (out : Outcome) → is_take out ≡ false
      → Ending tokens (given jobs c p (behind q (or_stays out))) → Ending tokens (given (came_before a ∷ jobs) c q out)
  behind_more jobs c p q a stays e k = onward _ refl k
  behind_more jobs c p q a (takes r) e k = absurd (cc)
  behind_more jobs c p q a misses e k = onward _ refl k
  behind_more jobs c p q a (faults at) e k = at_end refl
  behind_more jobs c p q a too_deep e k = at_end refl

  behind_taken : (jobs : List Job) (c : Context) (p q : Place) (out : Outcome) → Ending tokens (given jobs c p (behind q out))
      → Ending tokens (given (has_taken ∷ jobs) c q out)
  behind_taken jobs c p q stays k = onward _ refl k
  behind_taken jobs c p q (takes r) k = onward _ refl k
  behind_taken jobs c p q misses k = onward (state jobs c q.at over) refl (at_end refl)
  behind_taken jobs c p q (faults at) k = at_end refl
  behind_taken jobs c p q too_deep k = at_end refl

  asked_ends : (jobs : List Job) (c : Context) (p q : Place) (at : ℕ) (b : Bool)
      → Ending tokens (given jobs c p (takes (one_more_asked at b q))) → Ending tokens (state jobs c q.at took)
  asked_ends jobs c p q at true k = k
  asked_ends jobs c p q at false k = k

  behind_asks : (jobs : List Job) (c : Context) (p : Place) (out : Outcome)
      → Ending tokens (given jobs c p (with_request tokens p.at out)) → Ending tokens (given (may_ask ∷ jobs) c p out)
  behind_asks jobs c p stays k = onward _ refl k
  behind_asks jobs c p (takes q) k = onward _ refl (asked_ends jobs c p q p.at (is_sole tokens p.at q) k)
  behind_asks jobs c p misses k = onward _ refl k
  behind_asks jobs c p (faults at) k = at_end refl
  behind_asks jobs c p too_deep k = at_end refl

  back_ends : (jobs : List Job) (c inner : Context) (p : Place) (out : Outcome) → Ending tokens (given jobs c p out)
      → Ending tokens (given (goes_back c ∷ jobs) inner p out)
  back_ends jobs c inner p stays k = onward _ refl k
  back_ends jobs c inner p (takes q) k = onward _ refl k
  back_ends jobs c inner p misses k = onward _ refl k
  back_ends jobs c inner p (faults at) k = at_end refl
  back_ends jobs c inner p too_deep k = at_end refl

  -- one outcome behind another that took tokens
  again : (jobs : List Job) (c : Context) (p q r : Place) (out : Outcome)
      → Ending tokens (given jobs c p (behind q (behind r out))) → Ending tokens (given jobs c p (behind r out))
  again jobs c p q r stays k = k
  again jobs c p q r (takes s) k = k
  again jobs c p q r misses k = at_end refl
  again jobs c p q r (faults at) k = at_end refl
  again jobs c p q r too_deep k = at_end refl

  ended_as : (jobs : List Job) (c : Context) (p : Place) {out found : Outcome} → out ≡ found
      → Ending tokens (given jobs c p out) → Ending tokens (given jobs c p found)
  ended_as jobs c p e k = subst (λ z. Ending tokens (given jobs c p z)) e k

  nested_over : (jobs : List Job) (c : Context) (at : ℕ) (a : Form) (b : Bool) → b ≡ true
      → Ending tokens (if b then state jobs c at over else state (goes_back c ∷ jobs) (deeper c) at (reads a))
  nested_over jobs c at a true e = at_end refl
  nested_over jobs c at a false e = absurd (cc)

  nested_on : (jobs : List Job) (c : Context) (at : ℕ) (a : Form) (b : Bool) → b ≡ false
      → Ending tokens (state (goes_back c ∷ jobs) (deeper c) at (reads a))
      → Ending tokens (if b then state jobs c at over else state (goes_back c ∷ jobs) (deeper c) at (reads a))
  nested_on jobs c at a true e k = absurd (cc)
  nested_on jobs c at a false e k = k

  -- a form that is read ends where what comes behind it does
  mutual
    pub read_ends : {c : Context} {f : Form} {p : Place} {out : Outcome} → Reads tokens c f p out → (jobs : List Job)
        → Ending tokens (given jobs c p out) → Ending tokens (state jobs c p.at (reads f))
    read_ends {c} {p} (reads_quoted {word} e) jobs k =
        onward _ refl (taken_ends jobs c p (is_quoted word tokens p.at) (ended_as jobs c p e k))
    read_ends {c} {p} (reads_one {test} e) jobs k =
        onward _ refl (taken_ends jobs c p (passes test c.head tokens p.at) (ended_as jobs c p e k))
    read_ends {c} {p} (reads_ahead {guard} e) jobs k =
        onward _ refl (looked_ends jobs c p (holds guard tokens p.at) (ended_as jobs c p e k))
    read_ends (then_here {b} d e) jobs k = onward _ refl (read_ends d (read_then b ∷ jobs) (onward _ refl (read_ends e jobs k)))
    read_ends {c} {p} (then_there {b} {q} {next = more} d e i) jobs k =
        onward _ refl
        (read_ends d (read_then b ∷ jobs)
        (onward _ refl (read_ends e (has_taken ∷ jobs) (behind_taken jobs c p q more (ended_as jobs c p i k)))))
    read_ends {c} {p} {out} (then_ends {b} d e) jobs k =
        onward _ refl (read_ends d (read_then b ∷ jobs) (behind_then jobs c p b out e k))
    read_ends {c} {p} {out} (or_first {b} d e) jobs k =
        onward _ refl (read_ends d (read_or b ∷ jobs) (behind_or jobs c p b out e k))
    read_ends (or_second {b} d e) jobs k = onward _ refl (read_ends d (read_or b ∷ jobs) (onward _ refl (read_ends e jobs k)))
    read_ends {c} {p} (reads_maybe {found} d e) jobs k =
        onward _ refl (read_ends d (may_come ∷ jobs) (behind_maybe jobs c p found (ended_as jobs c p e k)))
    read_ends {c} {p} (many_more {a} {q} {next = more} d e i) jobs k =
        onward _ refl (read_ends d (may_come_again a ∷ jobs) (onward _ refl (more_ends p e jobs (ended_as jobs c p i k))))
    read_ends {c} {p} (many_ends {a} {found} d e i) jobs k =
        onward _ refl (read_ends d (may_come_again a ∷ jobs) (behind_many jobs c p a found e (ended_as jobs c p i k)))
    read_ends (reads_rule d) jobs k = onward _ refl (read_ends d jobs k)
    read_ends {c} {p} (reads_asks {found} d e) jobs k =
        onward _ refl (read_ends d (may_ask ∷ jobs) (behind_asks jobs c p found (ended_as jobs c p e k)))
    read_ends {c} {p} (nested_deep {a} d e) jobs k =
        onward _ refl (nested_over jobs c p.at a (nat_le most_open c.opened) (le-leb most_open c.opened d))
    read_ends {c} {p} {out} (reads_nested {a} d e) jobs k =
        onward _ refl
        (nested_on jobs c p.at a (nat_le most_open c.opened) (lt-leb most_open c.opened d)
        (read_ends e (goes_back c ∷ jobs) (back_ends jobs c (deeper c) p out k)))
    read_ends {c} {p} {out} (reads_headed d) jobs k =
        onward _ refl (read_ends d (goes_back c ∷ jobs) (back_ends jobs c (in_head tokens p c) p out k))

    -- the same of a form that came before
    pub more_ends : {c : Context} {a : Form} {q : Place} {out : Outcome} (start : Place) → Reads tokens c (many a) q out
        → (jobs : List Job) → Ending tokens (given jobs c start (behind q out))
        → Ending tokens (state (came_before a ∷ jobs) c q.at (reads a))
    more_ends {c} {a} {q} start (many_more {q = r} {next = more} d e i) jobs k =
        read_ends d (came_before a ∷ jobs)
        (onward _ refl (more_ends start e jobs (again jobs c start q r more (ended_as jobs c start (ap (behind q) i) k))))
    more_ends {c} {a} {q} start (many_ends {found} d e i) jobs k =
        read_ends d (came_before a ∷ jobs) (behind_more jobs c start q a found e (ended_as jobs c start (ap (behind q) i) k))

  -- whatever is to be done behind it, an outcome leads to an end
  pub all_end : (jobs : List Job) (c : Context) (p : Place) (out : Outcome) → Ending tokens (given jobs c p out)
  all_end jobs c p (faults at) = at_end refl
  all_end jobs c p too_deep = at_end refl
  all_end [] c p stays = at_end refl
  all_end [] c p (takes q) = at_end refl
  all_end [] c p misses = at_end refl
  all_end (read_then b ∷ jobs) c p stays =
      let d = some_reading tokens c b p in onward _ refl (read_ends d.1 jobs (all_end jobs c p d.0))
  all_end (read_then b ∷ jobs) c p (takes q) =
      let d = some_reading tokens c b q in
      onward _ refl (read_ends d.1 (has_taken ∷ jobs) (behind_taken jobs c p q d.0 (all_end jobs c p (behind q d.0))))
  all_end (read_then b ∷ jobs) c p misses = onward _ refl (all_end jobs c p misses)
  all_end (read_or b ∷ jobs) c p stays = onward _ refl (all_end jobs c p stays)
  all_end (read_or b ∷ jobs) c p (takes q) = onward _ refl (all_end jobs c p (takes q))
  all_end (read_or b ∷ jobs) c p misses =
      let d = some_reading tokens c b p in onward _ refl (read_ends d.1 jobs (all_end jobs c p d.0))
  all_end (may_come ∷ jobs) c p stays = onward _ refl (all_end jobs c p stays)
  all_end (may_come ∷ jobs) c p (takes q) = onward _ refl (all_end jobs c p (takes q))
  all_end (may_come ∷ jobs) c p misses = onward _ refl (all_end jobs c p stays)
  all_end (may_come_again a ∷ jobs) c p stays = onward _ refl (all_end jobs c p stays)
  all_end (may_come_again a ∷ jobs) c p (takes q) =
      let d = some_reading tokens c (many a) q in
      onward _ refl (more_ends p d.1 jobs (all_end jobs c p (behind q d.0)))
  all_end (may_come_again a ∷ jobs) c p misses = onward _ refl (all_end jobs c p stays)
  all_end (came_before a ∷ jobs) c p stays = onward _ refl (all_end jobs c p (takes p))
  all_end (came_before a ∷ jobs) c p (takes q) =
      let d = some_reading tokens c (many a) q in
      onward _ refl (more_ends p d.1 jobs (all_end jobs c p (behind q d.0)))
  all_end (came_before a ∷ jobs) c p misses = onward _ refl (all_end jobs c p (takes p))
  all_end (has_taken ∷ jobs) c p stays = onward _ refl (all_end jobs c p (takes p))
  all_end (has_taken ∷ jobs) c p (takes q) = onward _ refl (all_end jobs c p (takes q))
  all_end (has_taken ∷ jobs) c p misses = onward (state jobs c p.at over) refl (at_end refl)
  all_end (may_ask ∷ jobs) c p stays = onward _ refl (all_end jobs c p stays)
  all_end (may_ask ∷ jobs) c p (takes q) = onward _ refl (all_end jobs c p (takes q))
  all_end (may_ask ∷ jobs) c p misses = onward _ refl (all_end jobs c p misses)
  all_end (goes_back before ∷ jobs) c p stays = onward _ refl (all_end jobs before p stays)
  all_end (goes_back before ∷ jobs) c p (takes q) = onward _ refl (all_end jobs before p (takes q))
  all_end (goes_back before ∷ jobs) c p misses = onward _ refl (all_end jobs before p misses)

abbrev place_at : ℕ → Place
place_at at = record { at = at; asked = [] }

-- each state has an end
doing_ends : (tokens : List Sight) (jobs : List Job) (c : Context) (at : ℕ) (doing : Doing)
    → Ending tokens (state jobs c at doing)
doing_ends tokens jobs c at (reads f) =
    let d = some_reading tokens c f (place_at at) in read_ends d.1 jobs (all_end jobs c (place_at at) d.0)
doing_ends tokens jobs c at stayed = all_end jobs c (place_at at) stays
doing_ends tokens jobs c at took = all_end jobs c (place_at at) (takes (place_at at))
doing_ends tokens jobs c at missed = all_end jobs c (place_at at) misses
doing_ends tokens jobs c at over = at_end refl

pub ends : (tokens : List Sight) (s : State) → Ending tokens s
ends tokens s = doing_ends tokens s.jobs s.context s.at s.doing

-- how many turns are left
abbrev pub turns_left : List Sight → State → ℕ
turns_left tokens s = (ends tokens s).0

fewer_by : (tokens : List Sight) (s t : State) (n : ℕ) → Halts tokens s n → next tokens s ≡ Some t → turns_left tokens t < n
fewer_by tokens s t n (halted e) f = absurd (cc)
fewer_by tokens s t n (goes {t = u} {n = m} e h) f =
    let same : u ≡ t = same_state (sym e ∙ f) in
    let count : turns_left tokens t ≡ m = one_number (turns_left tokens t) m (ends tokens t).1 (subst (λ z. Halts tokens z m) same h) in
    omega (count, arith)

pub fewer_left : (tokens : List Sight) (s t : State) → next tokens s ≡ Some t → turns_left tokens t < turns_left tokens s
fewer_left tokens s t e = fewer_by tokens s t (turns_left tokens s) (ends tokens s).1 e

pub fewer_behind : (tokens : List Sight) (s t : State) → Leads tokens s t → turns_left tokens t < turns_left tokens s
fewer_behind tokens s t (once e) = fewer_left tokens s t e
fewer_behind tokens s t (further {t = u} e more) =
    let first = fewer_left tokens s u e in
    let later = fewer_behind tokens u t more in
    omega (first, later, arith)
