-- A form that misses by the token at a place alone is passed over there.
use Rattle.std.proofs.Common.{◌≡◌, if◌then◌else◌, ℕ, Bool, true, false, List, ◌∷◌, not, map, Option, Some, Result, Ok, Err, IfOk, refl, sym, ◌∙◌, ap, subst}
use Rattle.std.specs.Bool.{OnTrue}
use Rattle.std.proofs.lemmas.Bool.{lt-leb}
use denote.Bor.{Bor}
use Rattle.grammar_spec.specs.declared.names.Context.{Context}
use Rattle.grammar_spec.specs.declared.names.Rule.{Rule}
use Rattle.grammar_spec.specs.declared.names.Test.{Test}
use Rattle.grammar_spec.specs.declared.names.Guard.{Guard}
use Rattle.grammar_spec.specs.Sights.{Sight, is_quoted, passes, holds}
use Rattle.grammar_spec.specs.Forms.{Form, rule}
use Rattle.grammar_spec.specs.Statements.{body}
use Rattle.grammar_spec.specs.Readings.{Place, misses, stays, taken, looked, most_open, deeper, Reads}
use Rattle.grammar_spec.specs.Readings.{Reads as reads_as}
use Rattle.grammar_table.specs.declared.node.Node as node
use Rattle.grammar_table.specs.declared.node.Node.{Node}
use Rattle.grammar_table.specs.NodeForms.{form_of}
use Rattle.grammar_table.proofs.NodeForms.{form_quoted, form_one, form_ahead, form_then, form_or, form_maybe, form_many, form_call}
use Rattle.es_grammar.specs.declared.stack.Frame.{Frame}
use Rattle.es_grammar.specs.Turning.{Job, read_or, read_then, may_come, may_come_again, goes_back, reads, stayed, missed, over, State, state, tested, Leads, Absent}
use Rattle.es_grammar.specs.Turning.Leads.{once, further}
use Rattle.es_grammar.specs.Turning.Absent.{no_word, no_one, no_guard, no_first, no_maybe, no_many, no_choice, no_rule, no_nested}
use Rattle.es_grammar.specs.Turning.{looked as looked_at, entered, behind_stay, behind_take, behind_miss, job_of, doing_of}
use Rattle.es_grammar.specs.declared.reader.Step.{Step}
use Rattle.es_grammar.specs.declared.reader.Step.TheVariants as step
use Rattle.es_grammar.specs.Unwinding.{Enters, Leaves}
use Rattle.es_grammar.proofs.Arms.{at_form}
use Rattle.es_grammar.proofs.Steps.{enter_misses, enter_or, enter_maybe, enter_many, miss_or, miss_maybe, miss_many}

pub absent_misses : {tokens : List Sight} {c : Context} {p : Place} {f : Form} → Absent tokens c p.at f → Reads tokens c f p misses
absent_misses {p} (no_word e) = reads_as.reads_quoted (ap (taken p) (sym e))
absent_misses {p} (no_one e) = reads_as.reads_one (ap (taken p) (sym e))
absent_misses (no_guard e) = reads_as.reads_ahead (ap looked (sym e))
absent_misses (no_first d) = reads_as.then_ends (absent_misses d) refl
absent_misses (no_maybe d e) = reads_as.then_here (reads_as.reads_maybe (absent_misses d) refl) (absent_misses e)
absent_misses (no_many d e) = reads_as.then_here (reads_as.many_ends (absent_misses d) refl refl) (absent_misses e)
absent_misses (no_choice d e) = reads_as.or_second (absent_misses d) (absent_misses e)
absent_misses (no_rule d) = reads_as.reads_rule (absent_misses d)
absent_misses (no_nested l d) = reads_as.reads_nested l (absent_misses d)

-- what a form leads to that counts as open, where so many may be
abbrev opened_at : List Job → Context → ℕ → Form → Bool → Option State
opened_at jobs c at a b = Some (if b then state jobs c at over else state (goes_back c ∷ jobs) (deeper c) at (reads a))

module _ {tokens : List Sight} where
  joined : {s t u : State} → Leads tokens s t → Leads tokens t u → Leads tokens s u
  joined (once e) m = further e m
  joined (further e l) m = further e (joined l m)

  pub absent_leads : {c : Context} {at : ℕ} {f : Form} → Absent tokens c at f → (jobs : List Job)
      → Leads tokens (state jobs c at (reads f)) (state jobs c at missed)
  absent_leads {c} {at} (no_word e) jobs = once (ap (λ b. Some (tested jobs c at b)) e)
  absent_leads {c} {at} (no_one e) jobs = once (ap (λ b. Some (tested jobs c at b)) e)
  absent_leads {c} {at} (no_guard e) jobs = once (ap (λ b. Some (looked_at jobs c at b)) e)
  absent_leads (no_first {b} d) jobs = further refl (joined (absent_leads d (read_then b ∷ jobs)) (once refl))
  absent_leads (no_maybe {b} d e) jobs =
      further refl
      (further refl
      (joined (absent_leads d (may_come ∷ read_then b ∷ jobs)) (further refl (further refl (absent_leads e jobs)))))
  absent_leads (no_many {a} {b} d e) jobs =
      further refl
      (further refl
      (joined (absent_leads d (may_come_again a ∷ read_then b ∷ jobs)) (further refl (further refl (absent_leads e jobs)))))
  absent_leads (no_choice {b} d e) jobs =
      further refl (joined (absent_leads d (read_or b ∷ jobs)) (further refl (absent_leads e jobs)))
  absent_leads (no_rule d) jobs = further refl (absent_leads d jobs)
  absent_leads {c} {at} (no_nested {a} l d) jobs =
      further (ap (opened_at jobs c at a) (lt-leb most_open c.opened l))
      (joined (absent_leads d (goes_back c ∷ jobs)) (once refl))

-- ---- by the node that is passed

as_form : {tokens : List Sight} {c : Context} {at : ℕ} {whole form : Form} → whole ≡ form → Absent tokens c at form
    → Absent tokens c at whole
as_form {tokens} {c} {at} e a = subst (λ f. Absent tokens c at f) (sym e) a

module _ {tokens : List Sight} {c : Context} {at : ℕ} {n : Node} where
  pub lacks_quoted : (word : Bor (List ℕ)) → n ≡ node.Quoted word → is_quoted word.now tokens at ≡ false
      → Absent tokens c at (form_of n)
  lacks_quoted word is e = as_form (ap form_of is ∙ form_quoted word) (no_word e)

  pub lacks_one : (asked : Test) → n ≡ node.One asked → passes asked c.head tokens at ≡ false → Absent tokens c at (form_of n)
  lacks_one asked is e = as_form (ap form_of is ∙ form_one asked) (no_one e)

  pub lacks_guard : (guard : Guard) → n ≡ node.Ahead guard → holds guard tokens at ≡ false → Absent tokens c at (form_of n)
  lacks_guard guard is e = as_form (ap form_of is ∙ form_ahead guard) (no_guard e)

  pub lacks_then : (a b : Bor Node) → n ≡ node.Then a b → Absent tokens c at (form_of a.now) → Absent tokens c at (form_of n)
  lacks_then a b is d = as_form (ap form_of is ∙ form_then a b) (no_first d)

  pub lacks_or : (a b : Bor Node) → n ≡ node.Or a b → Absent tokens c at (form_of a.now)
      → Absent tokens c at (form_of b.now) → Absent tokens c at (form_of n)
  lacks_or a b is d e = as_form (ap form_of is ∙ form_or a b) (no_choice d e)

  pub lacks_call : (r : Rule) (next : Node) → n ≡ node.Call r → form_of next ≡ body r → Absent tokens c at (form_of next)
      → Absent tokens c at (form_of n)
  lacks_call r next is found d = as_form (ap form_of is ∙ form_call r) (no_rule (subst (λ f. Absent tokens c at f) found d))

-- ---- what is passed over

module _ {tokens : List Sight} {fs : List Frame} {c : Context} {p : Place} {n : Node} where
  pub passes_or : (a b : Bor Node) → n ≡ node.Or a b → Absent tokens c p.at (form_of a.now)
      → Enters tokens fs c p (form_of n) → Enters tokens fs c p (form_of b.now)
  passes_or a b is d enters =
      miss_or (enter_misses (absent_misses d) (enter_or a b (at_form (ap form_of is ∙ form_or a b) enters)))

  pub passes_maybe : (a : Bor Node) → n ≡ node.Maybe a → Absent tokens c p.at (form_of a.now)
      → Enters tokens fs c p (form_of n) → Leaves tokens fs c p stays
  passes_maybe a is d enters =
      miss_maybe (enter_misses (absent_misses d) (enter_maybe a (at_form (ap form_of is ∙ form_maybe a) enters)))

  pub passes_many : (a : Bor Node) → n ≡ node.Many a → Absent tokens c p.at (form_of a.now)
      → Enters tokens fs c p (form_of n) → Leaves tokens fs c p stays
  passes_many a is d enters =
      miss_many (enter_misses (absent_misses d) (enter_many a (at_form (ap form_of is ∙ form_many a) enters)))

module _ (tokens : List Sight) (c : Context) (at : ℕ) (jobs : List Job) (t : State) where
  from_form : {whole form : Form} → whole ≡ form → Leads tokens (state jobs c at (reads form)) t
      → Leads tokens (state jobs c at (reads whole)) t
  from_form e l = subst (λ f. Leads tokens (state jobs c at (reads f)) t) (sym e) l

module _ (tokens : List Sight) (c : Context) (at : ℕ) (jobs : List Job) {n : Node} where
  pub leads_or : (a b : Bor Node) → n ≡ node.Or a b → Absent tokens c at (form_of a.now)
      → Leads tokens (state jobs c at (reads (form_of n))) (state jobs c at (reads (form_of b.now)))
  leads_or a b is d =
      from_form tokens c at jobs (state jobs c at (reads (form_of b.now))) (ap form_of is ∙ form_or a b)
      (further refl (joined (absent_leads d (read_or (form_of b.now) ∷ jobs)) (once refl)))

  pub leads_maybe : (a : Bor Node) → n ≡ node.Maybe a → Absent tokens c at (form_of a.now)
      → Leads tokens (state jobs c at (reads (form_of n))) (state jobs c at stayed)
  leads_maybe a is d =
      from_form tokens c at jobs (state jobs c at stayed) (ap form_of is ∙ form_maybe a)
      (further refl (joined (absent_leads d (may_come ∷ jobs)) (once refl)))

  pub leads_many : (a : Bor Node) → n ≡ node.Many a → Absent tokens c at (form_of a.now)
      → Leads tokens (state jobs c at (reads (form_of n))) (state jobs c at stayed)
  leads_many a is d =
      from_form tokens c at jobs (state jobs c at stayed) (ap form_of is ∙ form_many a)
      (further refl (joined (absent_leads d (may_come_again (form_of a.now) ∷ jobs)) (once refl)))

  pub leads_call : (r : Rule) → n ≡ node.Call r → Absent tokens c at (rule r)
      → Leads tokens (state jobs c at (reads (form_of n))) (state jobs c at missed)
  leads_call r is d = from_form tokens c at jobs (state jobs c at missed) (ap form_of is ∙ form_call r) (absent_leads d jobs)

pub passes_call : {tokens : List Sight} {fs : List Frame} {c : Context} {p : Place} {n : Node} (r : Rule) → n ≡ node.Call r
    → Absent tokens c p.at (rule r) → Enters tokens fs c p (form_of n) → Leaves tokens fs c p misses
passes_call r is d enters = enter_misses (absent_misses d) (at_form (ap form_of is ∙ form_call r) enters)

-- ---- one turn

pub enter_leads : {E : Type 0} (tokens : List Sight) (jobs : List Job) (c : Context) (at : ℕ) (form : Form) (after : Step → State)
    (r : Result Step E) → IfOk r (λ now. entered tokens jobs c at form ≡ after now)
    → IfOk r (λ now. Leads tokens (state jobs c at (reads form)) (after now))
enter_leads tokens jobs c at form after (Ok now) e = once (ap Some e)
enter_leads tokens jobs c at form after (Err fault) e = tt

module _ (tokens : List Sight) (c : Context) (at : ℕ) (old rest : List Frame) (f : Frame) (now : Step) (t : State) where
  pub stays_lead : now ≡ step.Stays → old ≡ f ∷ rest → behind_stay (job_of f) (map job_of rest) c at ≡ t
      → Leads tokens (state (map job_of old) c at (doing_of now)) t
  stays_lead is popped e = rw (is, popped) (once (ap Some e))

  pub takes_lead : now ≡ step.Takes → old ≡ f ∷ rest → behind_take (job_of f) (map job_of rest) c at ≡ t
      → Leads tokens (state (map job_of old) c at (doing_of now)) t
  takes_lead is popped e = rw (is, popped) (once (ap Some e))

  pub misses_lead : now ≡ step.Misses → old ≡ f ∷ rest → behind_miss (job_of f) (map job_of rest) c at ≡ t
      → Leads tokens (state (map job_of old) c at (doing_of now)) t
  misses_lead is popped e = rw (is, popped) (once (ap Some e))

-- ---- what a test says

pub on_not : {P : Type 0} (b : Bool) → (b ≡ false → P) → OnTrue (not b) P
on_not true f = tt
on_not false f = f refl

pub on_true : {P : Type 0} (b : Bool) → (b ≡ true → P) → OnTrue b P
on_true true f = f refl
on_true false f = tt
