-- Whatever a session is told, its map is that of a fresh generation behind the edits that were accepted; and what it
-- says to the first bytes of an input is the front of what it says to it all.
use Rattle.std.proofs.Common.{◌≡◌, ◌≤◌, ◌++◌, [], ◌∷◌, ℕ, List, length, Option, None, refl, sym, ap, ◌∙◌, subst, arith, ⊎_elim}
use Rattle.std.proofs.lemmas.List.{append_assoc, take-append-drop, length-take}
use Rattle.std.proofs.lemmas.Bool.{cases_lt}
use Rattle.std.specs.Prelude.{take, drop}
use Rattle.tree_spec.specs.Limits.{limit_number}
use Rattle.tree_spec.specs.Trees.{Tree}
use Rattle.tree_spec.specs.declared.LimitName.TheVariants.{Session}
use Rattle.session_spec.specs.declared.Change.{Change}
use Rattle.session_spec.specs.Conversations.{Answers}
use Rattle.session_spec.specs.Laws as laws
use Rattle.session_spec.specs.Laws.{all_changes, AreAccepted, accepts, leaves, BeginsWith, IsFreshAfter, MapsAreFreshAfterEdits, RepliesAreFront}
use Rattle.session_spec.specs.Openings.{OpensAt, opens, opening_line}
use Rattle.session_spec.specs.Replies.{Replies, AllAccepted, none, then}
use Rattle.session_spec.specs.SessionRuns.{RepliesTo as replies_to}
use Rattle.session_spec.specs.SessionRuns.{RepliesTo, refused, replied}
use Rattle.session_spec.specs.SessionStates.{SessionState, IsCurrent}
use Rattle.session_spec.specs.Talks.{Standing, begun, behind, Talks, edits_of, still, edits, collects, shows_it}
use Rattle.session_spec.proofs.Replying.{accepted_or_left, accepted_join}
use Rattle.session_spec.proofs.Conversing.{taken_by}
use Rattle.session_spec.proofs.Talking.{with_more, talks_on, front_replies, talks_stay_current}
use Rattle.session_spec.proofs.WholeSessions.{one_opening, refused_or_opened}

-- ---- accepted edits

record LeadsBy (state : SessionState) (made : List (List Change)) (later : SessionState) : Type 0 where
  pub edits : List (List Change)
  pub are_accepted : AreAccepted state made edits later
  pub accepted : AllAccepted state edits later

led_by :
    (state next later : SessionState) (edit : List Change) (made : List (List Change)) (line : List ℕ) → Replies state edit next line → LeadsBy next made later
    → LeadsBy state (edit ∷ made) later
led_by state next later edit made line replies led =
    ⊎_elim
    (λ is. record {
      edits = edit ∷ led.edits;
      are_accepted = accepts state next later edit made led.edits line is led.are_accepted;
      accepted = then state next later edit led.edits line is led.accepted;
    })
    (λ left. record {
      edits = led.edits;
      are_accepted = leaves state next later edit made led.edits line left led.are_accepted;
      accepted = subst (λ (s : SessionState). AllAccepted s led.edits later) left.stays led.accepted;
    })
    (accepted_or_left state next edit line replies)

talks_lead : (at later : Standing) (out : List ℕ) (talks : Talks at out later) → LeadsBy at.state (edits_of at later out talks) later.state
talks_lead _ _ _ (still at) = record { edits = []; are_accepted = laws.none at.state; accepted = none at.state }
talks_lead _ _ _ (edits at later edit rest next line out is replies goes) =
    led_by at.state next later.state edit (edits_of (behind at next None rest) later out goes) line replies (talks_lead (behind at next None rest) later out goes)
talks_lead _ _ _ (collects at later held rest out is goes) = talks_lead (behind at at.state (Option.Some held) rest) later out goes
talks_lead _ _ _ (shows_it at later rest out is goes) = talks_lead (behind at at.state None rest) later out goes

opened_current : (tree : Tree) (first : SessionState) → OpensAt tree first → IsCurrent first
opened_current tree _ (opens config map counts is generated) = generated

pub maps_are_fresh_after_edits : MapsAreFreshAfterEdits
maps_are_fresh_after_edits tree first input out later is talks =
    let led = talks_lead (begun first input) later out talks in
    record {
      edits = led.edits;
      are_accepted = led.are_accepted;
      accepted = led.accepted;
      behind = accepted_join first later.state led.edits led.accepted;
      fresh = talks_stay_current (begun first input) later out (opened_current tree first is) talks;
    }

-- ---- fronts

begins_behind : (line front out : List ℕ) → BeginsWith front out → BeginsWith (line ++ front) (line ++ out)
begins_behind line front out is = record { rest = is.rest; whole = ap (λ (t : List ℕ). line ++ t) is.whole ∙ sym (append_assoc line front is.rest) }

take_few : (n : ℕ) (bytes : List ℕ) → length (take n bytes) ≤ n
take_few n bytes = (let long = length-take n bytes in omega (arith, long))

begins_opened : (state : SessionState) (taken more front out : List ℕ) (status : ℕ) (later : Standing) → Talks (begun state (take (limit_number Session) taken)) front later → Answers state (taken ++ more) out status
    → BeginsWith (opening_line state ++ front) (opening_line state ++ out)
begins_opened state taken more front out status later talks answers =
    let first = take (limit_number Session) taken in
    let last = drop (limit_number Session) taken in
    let whole : taken ++ more ≡ first ++ (last ++ more) = ap (λ (t : List ℕ). t ++ more) (sym (take-append-drop (limit_number Session) taken)) ∙ append_assoc first last more in
    begins_behind (opening_line state) front out
    (front_replies state first (last ++ more) front out status later (take_few (limit_number Session) taken) talks (subst (λ (input : List ℕ). Answers state input out status) whole answers))

pub replies_are_front : RepliesAreFront
replies_are_front tree taken more _ out status replies_to.unopened comes = record { rest = out; whole = refl }
replies_are_front tree taken more _ _ _ (replies_to.opened state front later opens_at talks) (refused why is) = absurd (refused_or_opened tree why state is opens_at)
replies_are_front tree taken more _ _ _ (replies_to.opened state front later opens_at talks) (replied other status out opens_too answers) =
    let same = one_opening tree state other opens_at opens_too in
    let answered = subst (λ (s : SessionState). Answers s (taken ++ more) out status) (sym same) answers in
    subst (λ (s : SessionState). BeginsWith (opening_line state ++ front) (opening_line s ++ out)) same
    (begins_opened state taken more front out status later talks answered)

-- ---- more input

-- what is replied to bytes is replied to them with any behind them
pub replies_on : (tree : Tree) (taken more text : List ℕ) → RepliesTo tree taken text → RepliesTo tree (taken ++ more) text
replies_on tree taken more _ replies_to.unopened = replies_to.unopened
replies_on tree taken more _ (replies_to.opened state out later opens_at talks) =
    let found = taken_by (limit_number Session) taken more (cases_lt (length taken) (limit_number Session)) in
    let all = talks_on found.0 (begun state (take (limit_number Session) taken)) later out talks in
    replies_to.opened state out (with_more found.0 later) opens_at
    (subst (λ (bytes : List ℕ). Talks (begun state bytes) out (with_more found.0 later)) (sym found.1) all)
