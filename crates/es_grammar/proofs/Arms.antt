-- The steps as the code takes them: by the node that is read, and by what is to be done behind it.
use Rattle.std.proofs.Common.{◌≡◌, ◌<◌, ◌≤◌, ℕ, suc, true, false, List, [], ◌∷◌, ◌++◌, sym, ◌∙◌, ap, subst, Option}
use denote.Bor.{Bor}
use Rattle.grammar_spec.specs.declared.names.Context.{Context}
use Rattle.grammar_spec.specs.declared.names.Rule.{Rule}
use Rattle.grammar_spec.specs.declared.names.Test.{Test}
use Rattle.grammar_spec.specs.declared.names.Guard.{Guard}
use Rattle.grammar_spec.specs.Sights.{Sight, is_quoted, passes, holds, depth_at}
use Rattle.grammar_spec.specs.Forms.{Form}
use Rattle.grammar_spec.specs.Statements.{body}
use Rattle.grammar_spec.specs.Readings.{Place, stays, misses, too_deep, taken, looked, most_open}
use Rattle.grammar_spec.specs.Readings.{deeper, in_head, one_more_asked, is_sole, ReadsModule}
use Rattle.grammar_spec.specs.Readings.{Reads as reads}
use Rattle.grammar_table.specs.declared.node.Node as node
use Rattle.grammar_table.specs.declared.node.Node.{Node, the_lemmas}
use Rattle.es_grammar.specs.declared.stack.Frame.{Frame}
use Rattle.es_grammar.specs.declared.stack.Frame.TheVariants as frame
use Rattle.grammar_table.specs.NodeForms.{form_of}
use Rattle.es_grammar.specs.Unwinding.{Enters, Leaves, Took}
use Rattle.grammar_table.proofs.NodeForms.{form_quoted, form_one, form_ahead, form_then, form_or, form_maybe, form_many, form_call, form_asks, form_nested, form_headed}
use Rattle.es_grammar.proofs.Steps.{enter_takes, enter_misses, enter_stays, enter_then, enter_or, enter_maybe, enter_many}
use Rattle.es_grammar.proofs.Steps.{enter_rule, enter_asks, enter_deep, enter_nested, enter_headed, take_then, take_many, take_more, take_asks}

-- ---- a form is read

pub at_form : {tokens : List Sight} {fs : List Frame} {c : Context} {p : Place} {whole form : Form} → whole ≡ form
    → Enters tokens fs c p whole → Enters tokens fs c p form
at_form {tokens} {fs} {c} {p} e enters = subst (λ f. Enters tokens fs c p f) e enters

module _ {tokens : List Sight} {fs : List Frame} {c : Context} {p : Place} {n : Node} where
  pub arm_call : (r : Rule) (next : Node) → n ≡ node.Call r → form_of next ≡ body r → Enters tokens fs c p (form_of n)
      → Enters tokens fs c p (form_of next)
  arm_call r next is found enters =
      subst (λ z. Enters tokens fs c p z) (sym found) (enter_rule (at_form (ap form_of is ∙ form_call r) enters))

  pub arm_deep : (a : Bor Node) → n ≡ node.Nested a → most_open ≤ c.opened → Enters tokens fs c p (form_of n)
      → ReadsModule tokens too_deep
  arm_deep a is full enters = enter_deep full (at_form (ap form_of is ∙ form_nested a) enters)

  pub arm_quoted_takes : (word : Bor (List ℕ)) (next : ℕ) → n ≡ node.Quoted word → true ≡ is_quoted word.now tokens p.at
      → next ≡ suc p.at → Enters tokens fs c p (form_of n) → Took tokens fs c (record { at = next; asked = p.asked })
  arm_quoted_takes word next is tested onward enters =
      subst (λ k. Took tokens fs c (record { at = k; asked = p.asked })) (sym onward)
      (enter_takes (reads.reads_quoted (ap (taken p) tested)) (at_form (ap form_of is ∙ form_quoted word) enters))

  pub arm_quoted_misses : (word : Bor (List ℕ)) → n ≡ node.Quoted word → false ≡ is_quoted word.now tokens p.at
      → Enters tokens fs c p (form_of n) → Leaves tokens fs c p misses
  arm_quoted_misses word is tested enters =
      enter_misses (reads.reads_quoted (ap (taken p) tested)) (at_form (ap form_of is ∙ form_quoted word) enters)

  pub arm_one_takes : (asked : Test) (next : ℕ) → n ≡ node.One asked → true ≡ passes asked c.head tokens p.at
      → next ≡ suc p.at → Enters tokens fs c p (form_of n) → Took tokens fs c (record { at = next; asked = p.asked })
  arm_one_takes asked next is tested onward enters =
      subst (λ k. Took tokens fs c (record { at = k; asked = p.asked })) (sym onward)
      (enter_takes (reads.reads_one (ap (taken p) tested)) (at_form (ap form_of is ∙ form_one asked) enters))

  pub arm_one_misses : (asked : Test) → n ≡ node.One asked → false ≡ passes asked c.head tokens p.at
      → Enters tokens fs c p (form_of n) → Leaves tokens fs c p misses
  arm_one_misses asked is tested enters =
      enter_misses (reads.reads_one (ap (taken p) tested)) (at_form (ap form_of is ∙ form_one asked) enters)

  pub arm_ahead_stays : (guard : Guard) → n ≡ node.Ahead guard → true ≡ holds guard tokens p.at
      → Enters tokens fs c p (form_of n) → Leaves tokens fs c p stays
  arm_ahead_stays guard is tested enters =
      enter_stays (reads.reads_ahead (ap looked tested)) (at_form (ap form_of is ∙ form_ahead guard) enters)

  pub arm_ahead_misses : (guard : Guard) → n ≡ node.Ahead guard → false ≡ holds guard tokens p.at
      → Enters tokens fs c p (form_of n) → Leaves tokens fs c p misses
  arm_ahead_misses guard is tested enters =
      enter_misses (reads.reads_ahead (ap looked tested)) (at_form (ap form_of is ∙ form_ahead guard) enters)

module _ {tokens : List Sight} {fs new : List Frame} {c : Context} {p : Place} {n : Node} where
  pub arm_then : (a b : Bor Node) → n ≡ node.Then a b → new ≡ frame.Then b ∷ fs → Enters tokens fs c p (form_of n)
      → Enters tokens new c p (form_of a.now)
  arm_then a b is pushed enters =
      subst (λ z. Enters tokens z c p (form_of a.now)) (sym pushed) (enter_then a b (at_form (ap form_of is ∙ form_then a b) enters))

  pub arm_or : (a b : Bor Node) → n ≡ node.Or a b → new ≡ frame.Or b ∷ fs → Enters tokens fs c p (form_of n)
      → Enters tokens new c p (form_of a.now)
  arm_or a b is pushed enters =
      subst (λ z. Enters tokens z c p (form_of a.now)) (sym pushed) (enter_or a b (at_form (ap form_of is ∙ form_or a b) enters))

  pub arm_maybe : (a : Bor Node) → n ≡ node.Maybe a → new ≡ frame.Maybe ∷ fs → Enters tokens fs c p (form_of n)
      → Enters tokens new c p (form_of a.now)
  arm_maybe a is pushed enters =
      subst (λ z. Enters tokens z c p (form_of a.now)) (sym pushed) (enter_maybe a (at_form (ap form_of is ∙ form_maybe a) enters))

  pub arm_many : (a : Bor Node) → n ≡ node.Many a → new ≡ frame.Many a ∷ fs → Enters tokens fs c p (form_of n)
      → Enters tokens new c p (form_of a.now)
  arm_many a is pushed enters =
      subst (λ z. Enters tokens z c p (form_of a.now)) (sym pushed) (enter_many a (at_form (ap form_of is ∙ form_many a) enters))

  pub arm_asks : (a : Bor Node) → n ≡ node.Asks a → new ≡ frame.Asks p.at ∷ fs → Enters tokens fs c p (form_of n)
      → Enters tokens new c p (form_of a.now)
  arm_asks a is pushed enters =
      subst (λ z. Enters tokens z c p (form_of a.now)) (sym pushed) (enter_asks a (at_form (ap form_of is ∙ form_asks a) enters))

  pub arm_nested : (a : Bor Node) (count : ℕ) → n ≡ node.Nested a → c.opened < most_open → count ≡ suc c.opened
      → new ≡ frame.Back c ∷ fs → Enters tokens fs c p (form_of n)
      → Enters tokens new (record { opened = count; head = c.head }) p (form_of a.now)
  arm_nested a count is few more pushed enters =
      subst (λ k. Enters tokens new (record { opened = k; head = c.head }) p (form_of a.now)) (sym more)
      (subst (λ z. Enters tokens z (deeper c) p (form_of a.now)) (sym pushed) (enter_nested a few (at_form (ap form_of is ∙ form_nested a) enters)))

  pub arm_headed : (a : Bor Node) (head : Option ℕ) → n ≡ node.Headed a → head ≡ depth_at tokens p.at → new ≡ frame.Back c ∷ fs
      → Enters tokens fs c p (form_of n) → Enters tokens new (record { opened = c.opened; head = head }) p (form_of a.now)
  arm_headed a head is meant pushed enters =
      subst (λ h. Enters tokens new (record { opened = c.opened; head = h }) p (form_of a.now)) (sym meant)
      (subst (λ z. Enters tokens z (in_head tokens p c) p (form_of a.now)) (sym pushed) (enter_headed a (at_form (ap form_of is ∙ form_headed a) enters)))

-- ---- a form took tokens, and another is read

module _ {tokens : List Sight} {fs new : List Frame} {c : Context} {p : Place} where
  pub arm_goes_then : (b : Bor Node) → new ≡ frame.Behind ∷ fs → Took tokens (frame.Then b ∷ fs) c p → Enters tokens new c p (form_of b.now)
  arm_goes_then b pushed t = subst (λ z. Enters tokens z c p (form_of b.now)) (sym pushed) (take_then t)

  pub arm_goes_many : (a : Bor Node) → new ≡ frame.More a ∷ fs → Took tokens (frame.Many a ∷ fs) c p → Enters tokens new c p (form_of a.now)
  arm_goes_many a pushed t = subst (λ z. Enters tokens z c p (form_of a.now)) (sym pushed) (take_many t)

  pub arm_goes_more : (a : Bor Node) → new ≡ frame.More a ∷ fs → Took tokens (frame.More a ∷ fs) c p → Enters tokens new c p (form_of a.now)
  arm_goes_more a pushed t = subst (λ z. Enters tokens z c p (form_of a.now)) (sym pushed) (take_more t)

module _ {tokens : List Sight} {fs : List Frame} {c : Context} {p : Place} where
  pub arm_asks_more : (at : ℕ) (more : List ℕ) → Took tokens (frame.Asks at ∷ fs) c p → is_sole tokens at p ≡ true
      → more ≡ p.asked ++ at ∷ [] → Took tokens fs c (record { at = p.at; asked = more })
  arm_asks_more at more t sole is =
      subst (λ z. Took tokens fs c (record { at = p.at; asked = z })) (sym is) (subst (λ b. Took tokens fs c (one_more_asked at b p)) sole (take_asks t))

  pub arm_asks_none : (at : ℕ) → Took tokens (frame.Asks at ∷ fs) c p → is_sole tokens at p ≡ false → Took tokens fs c p
  arm_asks_none at t sole = subst (λ b. Took tokens fs c (one_more_asked at b p)) sole (take_asks t)
