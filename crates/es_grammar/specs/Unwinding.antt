-- How the reader's state stands to what the grammar reads.
--     Unwinds tokens frames context place out whole      where a form that was begun at the place has this outcome, and
--                       this is to be done behind it, the module has the whole outcome
--     StandsAt reader step      whatever comes of the next step, the module has the outcome to which it leads
use Rattle.std.specs.Prelude.{◌≡◌, ℕ, false, List, [], ◌∷◌}
use denote.Bor.{Bor}
use Rattle.grammar_spec.specs.declared.names.Context.{Context}
use Rattle.grammar_spec.specs.Sights.{Sight}
use Rattle.grammar_spec.specs.Forms.{Form, many}
use Rattle.grammar_spec.specs.Readings.{Place, Outcome, stays, takes, misses, faults, too_deep, behind, or_stays}
use Rattle.grammar_spec.specs.Readings.{with_request, is_match, is_miss, is_take, Reads, ReadsModule}
use Rattle.grammar_table.specs.declared.node.Node.{Node}
use Rattle.grammar_table.specs.NodeForms.{form_of}
use Rattle.es_grammar.specs.declared.stack.Frame.{Frame}
use Rattle.es_grammar.specs.declared.stack.Frame.TheVariants as frame
use Rattle.es_grammar.specs.declared.reader.Reader.{Reader}
use Rattle.es_grammar.specs.declared.reader.Step.{Step}
use Rattle.es_grammar.specs.declared.reader.Step.TheVariants as step
use Rattle.es_grammar.specs.declared.reader.End.{End}
use Rattle.es_grammar.specs.declared.reader.End.TheVariants as end
use Rattle.es_grammar.specs.declared.reader.Turn.{Turn}
use Rattle.es_grammar.specs.declared.reader.Turn.TheVariants as turn
use Rattle.es_grammar.specs.Pending.{pending}

-- a form behind which this is to be done, next thing first, was begun in the context and at the place and has the
-- outcome; then the module has the whole outcome
pub data Unwinds (tokens : List Sight) : List Frame → Context → Place → Outcome → Outcome → Type 0 where
  done : {c : Context} {p : Place} {out : Outcome} → Unwinds tokens [] c p out out
  then_stays : {fs : List Frame} {c : Context} {p : Place} {next whole : Outcome} {b : Bor Node}
      → Reads tokens c (form_of b.now) p next → Unwinds tokens fs c p next whole
      → Unwinds tokens (frame.Then b ∷ fs) c p stays whole
  then_takes : {fs : List Frame} {c : Context} {p q start : Place} {next whole : Outcome} {b : Bor Node}
      → Reads tokens c (form_of b.now) q next → Unwinds tokens fs c start (behind q next) whole
      → Unwinds tokens (frame.Then b ∷ fs) c p (takes q) whole
  then_ends : {fs : List Frame} {c : Context} {p : Place} {out whole : Outcome} {b : Bor Node} → is_match out ≡ false
      → Unwinds tokens fs c p out whole → Unwinds tokens (frame.Then b ∷ fs) c p out whole
  or_first : {fs : List Frame} {c : Context} {p : Place} {out whole : Outcome} {b : Bor Node} → is_miss out ≡ false
      → Unwinds tokens fs c p out whole → Unwinds tokens (frame.Or b ∷ fs) c p out whole
  or_second : {fs : List Frame} {c : Context} {p : Place} {next whole : Outcome} {b : Bor Node}
      → Reads tokens c (form_of b.now) p next → Unwinds tokens fs c p next whole
      → Unwinds tokens (frame.Or b ∷ fs) c p misses whole
  may : {fs : List Frame} {c : Context} {p : Place} {out whole : Outcome} → Unwinds tokens fs c p (or_stays out) whole
      → Unwinds tokens (frame.Maybe ∷ fs) c p out whole
  many_takes : {fs : List Frame} {c : Context} {p q start : Place} {next whole : Outcome} {a : Bor Node}
      → Reads tokens c (many (form_of a.now)) q next → Unwinds tokens fs c start (behind q next) whole
      → Unwinds tokens (frame.Many a ∷ fs) c p (takes q) whole
  many_ends : {fs : List Frame} {c : Context} {p : Place} {out whole : Outcome} {a : Bor Node} → is_take out ≡ false
      → Unwinds tokens fs c p (or_stays out) whole → Unwinds tokens (frame.Many a ∷ fs) c p out whole
  more_takes : {fs : List Frame} {c : Context} {p q start : Place} {next whole : Outcome} {a : Bor Node}
      → Reads tokens c (many (form_of a.now)) q next → Unwinds tokens fs c start (behind q next) whole
      → Unwinds tokens (frame.More a ∷ fs) c p (takes q) whole
  more_ends : {fs : List Frame} {c : Context} {p start : Place} {out whole : Outcome} {a : Bor Node} → is_take out ≡ false
      → Unwinds tokens fs c start (behind p (or_stays out)) whole → Unwinds tokens (frame.More a ∷ fs) c p out whole
  back_behind : {fs : List Frame} {c : Context} {p start : Place} {out whole : Outcome}
      → Unwinds tokens fs c start (behind p out) whole → Unwinds tokens (frame.Behind ∷ fs) c p out whole
  asks_takes : {fs : List Frame} {c : Context} {p q start : Place} {at : ℕ} {whole : Outcome}
      → Unwinds tokens fs c start (with_request tokens at (takes q)) whole
      → Unwinds tokens (frame.Asks at ∷ fs) c p (takes q) whole
  asks_ends : {fs : List Frame} {c : Context} {p : Place} {at : ℕ} {out whole : Outcome} → is_take out ≡ false
      → Unwinds tokens fs c p out whole → Unwinds tokens (frame.Asks at ∷ fs) c p out whole
  back : {fs : List Frame} {c before : Context} {p : Place} {out whole : Outcome}
      → Unwinds tokens fs before p out whole → Unwinds tokens (frame.Back before ∷ fs) c p out whole

-- a form that is read at the place: whatever its outcome leads to, the module has that
abbrev pub Enters : List Sight → List Frame → Context → Place → Form → Type 0
Enters tokens fs c p form =
    (out whole : Outcome) → Reads tokens c form p out → Unwinds tokens fs c p out whole → ReadsModule tokens whole

-- a form that was begun at the place had this outcome, and took nothing
abbrev pub Leaves : List Sight → List Frame → Context → Place → Outcome → Type 0
Leaves tokens fs c p out = (whole : Outcome) → Unwinds tokens fs c p out whole → ReadsModule tokens whole

-- a form took the tokens up to the place
abbrev pub Took : List Sight → List Frame → Context → Place → Type 0
Took tokens fs c q = (p : Place) (whole : Outcome) → Unwinds tokens fs c p (takes q) whole → ReadsModule tokens whole

abbrev pub Stands : List Sight → List Frame → Context → Place → Step → Type 0
Stands tokens fs c p (step.Enter node) = Enters tokens fs c p (form_of node.now)
Stands tokens fs c p step.Stays = Leaves tokens fs c p stays
Stands tokens fs c p step.Takes = Took tokens fs c p
Stands tokens fs c p step.Misses = Leaves tokens fs c p misses
Stands tokens fs c p (step.Faults at) = ReadsModule tokens (faults at)
Stands tokens fs c p step.TooDeep = ReadsModule tokens too_deep

-- ---- the reader

abbrev pub place : Reader → Place
place r = record { at = r.at; asked = r.asked.items }

abbrev pub EntersAt : List Sight → Reader → Form → Type 0
EntersAt tokens r form = Enters tokens (pending r.stack) r.context (place r) form

abbrev pub StandsAt : List Sight → Reader → Step → Type 0
StandsAt tokens r next = Stands tokens (pending r.stack) r.context (place r) next

-- the same where this is to be done first
abbrev pub LeavesBefore : List Sight → Frame → Reader → Outcome → Type 0
LeavesBefore tokens f r out = Leaves tokens (f ∷ pending r.stack) r.context (place r) out

abbrev pub TookBefore : List Sight → Frame → Reader → Type 0
TookBefore tokens f r = Took tokens (f ∷ pending r.stack) r.context (place r)

-- the outcome of which the reader tells: the tokens up to its end that are requests are those that it gives
pub data Tells : End → List ℕ → Outcome → Type 0 where
  nothing : {asked : List ℕ} → Tells end.Nothing asked stays
  matches : {p : Place} → Tells end.Matches p.asked (takes p)
  missing : {asked : List ℕ} → Tells end.Misses asked misses
  faulty : {asked : List ℕ} {at : ℕ} → Tells (end.Faults at) asked (faults at)
  deep : {asked : List ℕ} → Tells end.TooDeep asked too_deep

pub record TellsOf (tokens : List Sight) (told : End) (asked : List ℕ) : Type 0 where
  pub outcome : Outcome
  pub reads : ReadsModule tokens outcome
  pub tells : Tells told asked outcome

abbrev pub TurnsAt : List Sight → Reader → Turn → Type 0
TurnsAt tokens r (turn.Goes next) = StandsAt tokens r next
TurnsAt tokens r (turn.Ends told) = TellsOf tokens told r.asked.items
