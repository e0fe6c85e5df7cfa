-- One step of the reader leads where the grammar does.
use Rattle.std.proofs.Common.{◌<◌, ◌≤◌, ℕ, List, ◌∷◌, refl, Bor}
use Rattle.grammar_spec.specs.declared.names.Context.{Context}
use Rattle.grammar_spec.specs.declared.names.Rule.{Rule}
use Rattle.grammar_spec.specs.Sights.{Sight}
use Rattle.grammar_spec.specs.Forms.{Form, ◌▸◌, ◌∣◌, maybe, many, rule, asks, nested, headed}
use Rattle.grammar_spec.specs.Statements.{body}
use Rattle.grammar_spec.specs.Readings.{Place, Outcome, stays, takes, misses, faults, too_deep, behind, or_stays}
use Rattle.grammar_spec.specs.Readings.{with_request, is_sole, one_more_asked, deeper, in_head, most_open, Reads, ReadsModule}
use Rattle.grammar_spec.specs.Readings.{Reads as reads}
use Rattle.grammar_table.specs.declared.node.Node.{Node}
use Rattle.es_grammar.specs.declared.stack.Frame.{Frame}
use Rattle.es_grammar.specs.declared.stack.Frame.TheVariants as frame
use Rattle.grammar_table.specs.NodeForms.{form_of}
use Rattle.es_grammar.specs.Unwinding.{Unwinds, Enters, Leaves, Took}
use Rattle.es_grammar.specs.Unwinding.Unwinds.{then_stays, then_takes, then_ends, or_first, or_second, may}
use Rattle.es_grammar.specs.Unwinding.Unwinds.{many_takes, many_ends, more_takes, more_ends, back_behind, asks_takes}
use Rattle.es_grammar.specs.Unwinding.Unwinds.{asks_ends, back}
use Rattle.es_grammar.proofs.Unwound.{took, behind_settled, anywhere, fault_through, deep_through}

behind_again : {tokens : List Sight} {fs : List Frame} {c : Context} {start : Place} {whole : Outcome} (p q : Place) (next : Outcome) → Unwinds tokens fs c start (behind q next) whole → Unwinds tokens fs c start (behind p (behind q next)) whole
behind_again p q stays u = u
behind_again p q (takes r) u = u
behind_again p q misses u = u
behind_again p q (faults at) u = u
behind_again p q too_deep u = u

module _ {tokens : List Sight} {fs : List Frame} {c : Context} {p : Place} where
  -- ---- a form is read

  pub enter_takes : {form : Form} {q : Place} → Reads tokens c form p (takes q) → Enters tokens fs c p form → Took tokens fs c q
  enter_takes {q} r e start whole u = e (takes q) whole r (anywhere took u)

  pub enter_misses : {form : Form} → Reads tokens c form p misses → Enters tokens fs c p form → Leaves tokens fs c p misses
  enter_misses r e whole u = e misses whole r u

  pub enter_stays : {form : Form} → Reads tokens c form p stays → Enters tokens fs c p form → Leaves tokens fs c p stays
  enter_stays r e whole u = e stays whole r u

  pub enter_then : (a b : Bor Node) → Enters tokens fs c p (form_of a.now ▸ form_of b.now) → Enters tokens (frame.Then b ∷ fs) c p (form_of a.now)
  enter_then a b e out whole r (then_stays {next} s u) = e next whole (reads.then_here r s) u
  enter_then a b e out whole r (then_takes {q} {next} s u) = e (behind q next) whole (reads.then_there r s refl) (anywhere (behind_settled q next) u)
  enter_then a b e out whole r (then_ends d u) = e out whole (reads.then_ends r d) u

  pub enter_or : (a b : Bor Node) → Enters tokens fs c p (form_of a.now ∣ form_of b.now) → Enters tokens (frame.Or b ∷ fs) c p (form_of a.now)
  enter_or a b e out whole r (or_first d u) = e out whole (reads.or_first r d) u
  enter_or a b e out whole r (or_second {next} s u) = e next whole (reads.or_second r s) u

  pub enter_maybe : (a : Bor Node) → Enters tokens fs c p (maybe (form_of a.now)) → Enters tokens (frame.Maybe ∷ fs) c p (form_of a.now)
  enter_maybe a e out whole r (may u) = e (or_stays out) whole (reads.reads_maybe r refl) u

  pub enter_many : (a : Bor Node) → Enters tokens fs c p (many (form_of a.now)) → Enters tokens (frame.Many a ∷ fs) c p (form_of a.now)
  enter_many a e out whole r (many_takes {q} {next} s u) = e (behind q next) whole (reads.many_more r s refl) (anywhere (behind_settled q next) u)
  enter_many a e out whole r (many_ends d u) = e (or_stays out) whole (reads.many_ends r d refl) u

  pub enter_rule : {r : Rule} → Enters tokens fs c p (rule r) → Enters tokens fs c p (body r)
  enter_rule e out whole r u = e out whole (reads.reads_rule r) u

  pub enter_asks : (a : Bor Node) → Enters tokens fs c p (asks (form_of a.now)) → Enters tokens (frame.Asks p.at ∷ fs) c p (form_of a.now)
  enter_asks a e out whole r (asks_takes {q} u) = e (with_request tokens p.at (takes q)) whole (reads.reads_asks r refl) (anywhere took u)
  enter_asks a e stays whole r (asks_ends d u) = e stays whole (reads.reads_asks r refl) u
  enter_asks a e (takes q) whole r (asks_ends d u) = absurd (cc)
  enter_asks a e misses whole r (asks_ends d u) = e misses whole (reads.reads_asks r refl) u
  enter_asks a e (faults at) whole r (asks_ends d u) = e (faults at) whole (reads.reads_asks r refl) u
  enter_asks a e too_deep whole r (asks_ends d u) = e too_deep whole (reads.reads_asks r refl) u

  pub enter_deep : {a : Form} → most_open ≤ c.opened → Enters tokens fs c p (nested a) → ReadsModule tokens too_deep
  enter_deep d e = e too_deep too_deep (reads.nested_deep d refl) (deep_through fs c p)

  pub enter_nested : (a : Bor Node) → c.opened < most_open → Enters tokens fs c p (nested (form_of a.now))
      → Enters tokens (frame.Back c ∷ fs) (deeper c) p (form_of a.now)
  enter_nested a d e out whole r (back u) = e out whole (reads.reads_nested d r) u

  pub enter_headed : (a : Bor Node) → Enters tokens fs c p (headed (form_of a.now)) → Enters tokens (frame.Back c ∷ fs) (in_head tokens p c) p (form_of a.now)
  enter_headed a e out whole r (back u) = e out whole (reads.reads_headed r) u

  -- ---- a form took nothing

  pub stay_then : {b : Bor Node} → Leaves tokens (frame.Then b ∷ fs) c p stays → Enters tokens fs c p (form_of b.now)
  stay_then l out whole r u = l whole (then_stays r u)

  pub stay_or : {b : Bor Node} → Leaves tokens (frame.Or b ∷ fs) c p stays → Leaves tokens fs c p stays
  stay_or l whole u = l whole (or_first refl u)

  pub stay_maybe : Leaves tokens (frame.Maybe ∷ fs) c p stays → Leaves tokens fs c p stays
  stay_maybe l whole u = l whole (may u)

  pub stay_many : {a : Bor Node} → Leaves tokens (frame.Many a ∷ fs) c p stays → Leaves tokens fs c p stays
  stay_many l whole u = l whole (many_ends refl u)

  pub stay_more : {a : Bor Node} → Leaves tokens (frame.More a ∷ fs) c p stays → Took tokens fs c p
  stay_more l start whole u = l whole (more_ends {start = start} refl u)

  pub stay_behind : Leaves tokens (frame.Behind ∷ fs) c p stays → Took tokens fs c p
  stay_behind l start whole u = l whole (back_behind {start = start} u)

  pub stay_asks : {at : ℕ} → Leaves tokens (frame.Asks at ∷ fs) c p stays → Leaves tokens fs c p stays
  stay_asks l whole u = l whole (asks_ends refl u)

  pub stay_back : {before : Context} → Leaves tokens (frame.Back before ∷ fs) c p stays → Leaves tokens fs before p stays
  stay_back l whole u = l whole (back u)

  -- ---- a form missed

  pub miss_then : {b : Bor Node} → Leaves tokens (frame.Then b ∷ fs) c p misses → Leaves tokens fs c p misses
  miss_then l whole u = l whole (then_ends refl u)

  pub miss_or : {b : Bor Node} → Leaves tokens (frame.Or b ∷ fs) c p misses → Enters tokens fs c p (form_of b.now)
  miss_or l out whole r u = l whole (or_second r u)

  pub miss_maybe : Leaves tokens (frame.Maybe ∷ fs) c p misses → Leaves tokens fs c p stays
  miss_maybe l whole u = l whole (may u)

  pub miss_many : {a : Bor Node} → Leaves tokens (frame.Many a ∷ fs) c p misses → Leaves tokens fs c p stays
  miss_many l whole u = l whole (many_ends refl u)

  pub miss_more : {a : Bor Node} → Leaves tokens (frame.More a ∷ fs) c p misses → Took tokens fs c p
  miss_more l start whole u = l whole (more_ends {start = start} refl u)

  pub miss_behind : Leaves tokens (frame.Behind ∷ fs) c p misses → ReadsModule tokens (faults p.at)
  miss_behind l = l (faults p.at) (back_behind {start = p} (fault_through fs c p p.at))

  pub miss_asks : {at : ℕ} → Leaves tokens (frame.Asks at ∷ fs) c p misses → Leaves tokens fs c p misses
  miss_asks l whole u = l whole (asks_ends refl u)

  pub miss_back : {before : Context} → Leaves tokens (frame.Back before ∷ fs) c p misses → Leaves tokens fs before p misses
  miss_back l whole u = l whole (back u)

  -- ---- a form took tokens; `p` is the place behind them

  pub take_then : {b : Bor Node} → Took tokens (frame.Then b ∷ fs) c p → Enters tokens (frame.Behind ∷ fs) c p (form_of b.now)
  take_then t out whole r (back_behind u) = t p whole (then_takes r u)

  pub take_or : {b : Bor Node} → Took tokens (frame.Or b ∷ fs) c p → Took tokens fs c p
  take_or t start whole u = t start whole (or_first refl u)

  pub take_maybe : Took tokens (frame.Maybe ∷ fs) c p → Took tokens fs c p
  take_maybe t start whole u = t start whole (may u)

  pub take_many : {a : Bor Node} → Took tokens (frame.Many a ∷ fs) c p → Enters tokens (frame.More a ∷ fs) c p (form_of a.now)
  take_many t out whole r (more_takes {q} {next} s u) = t p whole (many_takes (reads.many_more r s refl) (behind_again p q next u))
  take_many t out whole r (more_ends d u) = t p whole (many_takes (reads.many_ends r d refl) u)

  pub take_more : {a : Bor Node} → Took tokens (frame.More a ∷ fs) c p → Enters tokens (frame.More a ∷ fs) c p (form_of a.now)
  take_more t out whole r (more_takes {q} {next} s u) = t p whole (more_takes (reads.many_more r s refl) (behind_again p q next u))
  take_more t out whole r (more_ends d u) = t p whole (more_takes (reads.many_ends r d refl) u)

  pub take_behind : Took tokens (frame.Behind ∷ fs) c p → Took tokens fs c p
  take_behind t start whole u = t start whole (back_behind {start = start} u)

  pub take_asks : {at : ℕ} → Took tokens (frame.Asks at ∷ fs) c p → Took tokens fs c (one_more_asked at (is_sole tokens at p) p)
  take_asks t start whole u = t start whole (asks_takes {start = start} u)

  pub take_back : {before : Context} → Took tokens (frame.Back before ∷ fs) c p → Took tokens fs before p
  take_back t start whole u = t start whole (back u)
