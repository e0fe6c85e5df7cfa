-- Inputs that leave a session open, and what is replied to them.
use Rattle.std.proofs.Common.{◌≡◌, ◌≤◌, ◌++◌, [], ℕ, List, length, Option, Some, None, refl, sym, ◌∙◌, subst}
use Rattle.std.proofs.lemmas.List.{take_all}
use Rattle.std.specs.Prelude.{◌+◌}
use Rattle.tree_spec.specs.Limits.{limit_number}
use Rattle.tree_spec.specs.declared.LimitName.TheVariants.{Session}
use Rattle.session_spec.specs.declared.Change.{Change}
use Rattle.session_spec.specs.Conversations.{Turn, makes, holds, shows, stops, turn_at, map_reply}
use Rattle.session_spec.specs.Laws.{OpenInputsWait, WaitingIsOpen}
use Rattle.session_spec.specs.Openings.{opening_line}
use Rattle.session_spec.specs.SessionRuns as session
use Rattle.session_spec.specs.SessionStates.{SessionState}
use Rattle.session_spec.specs.SessionSteps.{MakesEdits, generations}
use Rattle.session_spec.specs.SessionSteps as spending
use Rattle.session_spec.specs.TakenInput.{LeavesOpen}
use Rattle.session_spec.specs.Talks.{Standing, begun, behind, turn_of, Talks, still, edits, collects, shows_it}
use Rattle.session_spec.proofs.SomeAnswer.{some_reply}
use Rattle.session_spec.proofs.Talking.{talks_then}

-- ---- edits without a state

record ReachesEdits (input : List ℕ) (later : Standing) : Type 0 where
  pub count : ℕ
  pub made : MakesEdits input count later.held later.input

made_by : (input : List ℕ) (at later : Standing) (out : List ℕ) → Talks at out later → (count : ℕ) → MakesEdits input count at.held at.input → ReachesEdits input later
made_by input _ _ _ (still at) count made = record { count = count; made = made }
made_by input _ _ _ (edits at later edit rest next line out is replies goes) count made =
    made_by input (behind at next None rest) later out goes (count + generations edit) (spending.edits count at.held at.input edit rest made is)
made_by input _ _ _ (collects at later held rest out is goes) count made =
    made_by input (behind at at.state (Some held) rest) later out goes count (spending.collects count at.held at.input held rest made is)
made_by input _ _ _ (shows_it at later rest out is goes) count made =
    made_by input (behind at at.state None rest) later out goes count (spending.shows_it count at.held at.input rest made is)

pub talks_leave_open : (state : SessionState) (input out : List ℕ) (later : Standing) → length input ≤ limit_number Session → Talks (begun state input) out later → turn_of later ≡ stops → LeavesOpen input
talks_leave_open state input out later few talks waits =
    let found = made_by input (begun state input) later out talks 0 spending.begun in
    record { few = few; edits = found.count; held = later.held; behind = later.input; made = found.made; waits = waits }

pub waiting_is_open : WaitingIsOpen
waiting_is_open tree input _ few (session.opened state out later opens_at talks waits) =
    talks_leave_open state input out later few (subst (λ (bytes : List ℕ). Talks (begun state bytes) out later) (take_all (limit_number Session) input few) talks) waits

-- ---- what is replied to them

record TalksTo (state : SessionState) (input : List ℕ) (held : Option (List Change)) (behind : List ℕ) : Type 0 where
  pub out : List ℕ
  pub later : Standing
  pub talks : Talks (begun state input) out later
  pub held_is : later.held ≡ held
  pub input_is : later.input ≡ behind

module _ (state : SessionState) (input : List ℕ) where
  same_turn : (held : Option (List Change)) (from : List ℕ) (turn : Turn) (to : TalksTo state input held from) → turn_at held from ≡ turn → turn_of to.later ≡ turn
  same_turn held from turn to is = (λ i. turn_at (to.held_is i) (to.input_is i)) ∙ is

  talked_then : (held after : Option (List Change)) (from next_input line : List ℕ) (to : TalksTo state input held from) (next : Standing) → next.held ≡ after → next.input ≡ next_input → Talks to.later line next
      → TalksTo state input after next_input
  talked_then held after from next_input line to next held_is input_is one = record {
    out = to.out ++ line;
    later = next;
    talks = talks_then (begun state input) to.later next to.out line to.talks one;
    held_is = held_is;
    input_is = input_is;
  }

  talks_to : (count : ℕ) (held : Option (List Change)) (behind_it : List ℕ) → MakesEdits input count held behind_it → TalksTo state input held behind_it
  talks_to _ _ _ spending.begun = record { out = []; later = begun state input; talks = still (begun state input); held_is = refl; input_is = refl }
  talks_to _ _ _ (spending.edits count held from edit rest made is) =
      let to = talks_to count held from made in
      let reply = some_reply to.later.state edit in
      let next = behind to.later reply.next None rest in
      talked_then held None from rest.behind (reply.line ++ []) to next refl refl
      (edits to.later next edit rest reply.next reply.line [] (same_turn held from (makes edit rest) to is) reply.replies (still next))
  talks_to _ _ _ (spending.collects count held from changes rest made is) =
      let to = talks_to count held from made in
      let next = behind to.later to.later.state (Some changes) rest in
      talked_then held (Some changes) from rest.behind [] to next refl refl
      (collects to.later next changes rest [] (same_turn held from (holds changes rest) to is) (still next))
  talks_to _ _ _ (spending.shows_it count held from rest made is) =
      let to = talks_to count held from made in
      let next = behind to.later to.later.state None rest in
      talked_then held None from rest.behind (map_reply to.later.state.map ++ []) to next refl refl
      (shows_it to.later next rest [] (same_turn held from (shows rest) to is) (still next))

pub open_inputs_wait : OpenInputsWait
open_inputs_wait tree input can is =
    let state = can.state in
    let to = talks_to state input is.edits is.held is.behind is.made in
    record {
      text = opening_line state ++ to.out;
      replied = session.opened state to.out to.later can.opens_at
          (subst (λ (bytes : List ℕ). Talks (begun state bytes) to.out to.later) (sym (take_all (limit_number Session) input is.few)) to.talks)
          (same_turn state input is.held is.behind stops to is.waits);
    }
