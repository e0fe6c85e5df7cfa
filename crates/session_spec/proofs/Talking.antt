-- Where a session stands behind some lines, however much comes behind them.
use Rattle.std.proofs.Common.{◌≡◌, ◌≤◌, ◌++◌, ℕ, List, length, Bool, Option, None, sym, ap, ◌∙◌, subst, arith}
use Rattle.std.proofs.lemmas.Bool.{cases_lt}
use Rattle.std.proofs.lemmas.List.{append_assoc, take_all}
use Rattle.std.specs.Prelude.{◌+◌, nat_lt, take}
use Rattle.tree_spec.specs.declared.LimitName.TheVariants.{Session}
use Rattle.tree_spec.specs.Limits.{limit_number}
use Rattle.session_spec.specs.Conversations.{Turn, makes, holds, shows, turn_at, map_reply}
use Rattle.session_spec.specs.Conversations.{Conversation}
use Rattle.session_spec.specs.Conversations as conversation
use Rattle.session_spec.specs.Edits.{edited}
use Rattle.session_spec.specs.Laws.{FrontReplies, TalksStayCurrent}
use Rattle.session_spec.specs.SessionStates.{draft_of}
use Rattle.session_spec.specs.Talks.{Standing, begun, behind, turn_of, Talks, still, edits, collects, shows_it}
use Rattle.session_spec.proofs.Conversing.{at_on, one_conversation, taken_by}
use Rattle.session_spec.proofs.LinesOn.{rest_on}
use Rattle.session_spec.proofs.Replying.{next_current}
use Rattle.session_spec.proofs.SomeAnswer.{input_answered}

-- ---- more input

module _ (more : List ℕ) where
  abbrev pub with_more : Standing → Standing
  with_more at = record { state = at.state; number = at.number; held = at.held; input = at.input ++ more }

  pub talks_on : (at later : Standing) (out : List ℕ) → Talks at out later → Talks (with_more at) out (with_more later)
  talks_on _ _ _ (still at) = still (with_more at)
  talks_on _ _ _ (edits at later edit rest next line out is replies goes) =
      edits (with_more at) (with_more later) edit (rest_on more rest) next line out (at_on more at.held at.input (makes edit rest) (sym is) tt) replies
      (talks_on (behind at next None rest) later out goes)
  talks_on _ _ _ (collects at later held rest out is goes) =
      collects (with_more at) (with_more later) held (rest_on more rest) out (at_on more at.held at.input (holds held rest) (sym is) tt)
      (talks_on (behind at at.state (Option.Some held) rest) later out goes)
  talks_on _ _ _ (shows_it at later rest out is goes) =
      shows_it (with_more at) (with_more later) (rest_on more rest) out (at_on more at.held at.input (shows rest) (sym is) tt)
      (talks_on (behind at at.state None rest) later out goes)

-- ---- and then

pub talks_then : (at middle later : Standing) (out more : List ℕ) → Talks at out middle → Talks middle more later → Talks at (out ++ more) later
talks_then _ _ later _ more (still at) then = then
talks_then _ _ later _ more (edits at middle edit rest next line out is replies goes) then =
    subst (λ (text : List ℕ). Talks at text later) (sym (append_assoc line out more))
    (edits at later edit rest next line (out ++ more) is replies (talks_then (behind at next None rest) middle later out more goes then))
talks_then _ _ later _ more (collects at middle held rest out is goes) then =
    collects at later held rest (out ++ more) is (talks_then (behind at at.state (Option.Some held) rest) middle later out more goes then)
talks_then _ _ later _ more (shows_it at middle rest out is goes) then =
    subst (λ (text : List ℕ). Talks at text later) (sym (append_assoc (map_reply at.state.map) out more))
    (shows_it at later rest (out ++ more) is (talks_then (behind at at.state None rest) middle later out more goes then))

module _ (is_more : Bool) where
  abbrev pub Ending : Standing → List ℕ → ℕ → Type 0
  Ending at out status = Conversation is_more at.state at.number (turn_of at) out status

  moved : (at : Standing) (turn : Turn) (out : List ℕ) (status : ℕ) → turn_of at ≡ turn → Conversation is_more at.state at.number turn out status → Ending at out status
  moved at turn out status e goes = subst (λ (t : Turn). Conversation is_more at.state at.number t out status) (sym e) goes

  texted : (at : Standing) (out other : List ℕ) (status : ℕ) → out ≡ other → Ending at out status → Ending at other status
  texted at out other status e goes = subst (λ (text : List ℕ). Ending at text status) e goes

  pub talks_end : (at later : Standing) (out last : List ℕ) (status : ℕ) → Talks at out later → Ending later last status → Ending at (out ++ last) status
  talks_end _ _ _ last status (still at) ends = ends
  talks_end _ _ _ last status (edits at later edit rest next line out is replies goes) ends =
      texted at (line ++ (out ++ last)) (line ++ out ++ last) status (sym (append_assoc line out last))
      (moved at (makes edit rest) (line ++ (out ++ last)) status is
      (conversation.edits at.state next at.number status edit rest line (out ++ last) replies (talks_end (behind at next None rest) later out last status goes ends)))
  talks_end _ _ _ last status (collects at later held rest out is goes) ends =
      moved at (holds held rest) (out ++ last) status is
      (conversation.collects at.state at.number status held rest (out ++ last) (talks_end (behind at at.state (Option.Some held) rest) later out last status goes ends))
  talks_end _ _ _ last status (shows_it at later rest out is goes) ends =
      let line = map_reply at.state.map in
      texted at (line ++ (out ++ last)) (line ++ out ++ last) status (sym (append_assoc line out last))
      (moved at (shows rest) (line ++ (out ++ last)) status is
      (conversation.shows_it at.state at.number status rest (out ++ last) (talks_end (behind at at.state None rest) later out last status goes ends)))

-- ---- laws

pub talks_stay_current : TalksStayCurrent
talks_stay_current _ _ _ current (still at) = current
talks_stay_current _ _ _ current (edits at later edit rest next line out is replies goes) =
    talks_stay_current (behind at next None rest) later out (next_current at.state next line (edited (draft_of at.state) edit) current replies) goes
talks_stay_current _ _ _ current (collects at later held rest out is goes) = talks_stay_current (behind at at.state (Option.Some held) rest) later out current goes
talks_stay_current _ _ _ current (shows_it at later rest out is goes) = talks_stay_current (behind at at.state None rest) later out current goes

-- the bytes that the limit allows begin with these
pub allowed_front : (taken more : List ℕ) → length taken ≤ limit_number Session → (rest : List ℕ) × (take (limit_number Session) (taken ++ more) ≡ taken ++ rest)
allowed_front taken more few =
    let found = taken_by (limit_number Session) taken more (cases_lt (length taken) (limit_number Session)) in
    (found.0, found.1 ∙ ap (λ (front : List ℕ). front ++ found.0) (take_all (limit_number Session) taken few))

pub front_replies : FrontReplies
front_replies state taken more front out status later few talks answers =
    let is_more = nat_lt (limit_number Session) (length (taken ++ more)) in
    let allowed = allowed_front taken more few in
    let rest = allowed.0 in
    let goes = input_answered is_more (length (later.input ++ rest) + 1) later.state later.number later.held (later.input ++ rest) (omega arith) in
    let whole = talks_end is_more (begun state (taken ++ rest)) (with_more rest later) front goes.out goes.status (talks_on rest (begun state taken) later front talks) goes.conversation in
    let answered = subst (λ (input : List ℕ). Conversation is_more state 1 (turn_at None input) out status) allowed.1 answers in
    let same = one_conversation is_more state 1 (turn_at None (taken ++ rest)) out (front ++ goes.out) status goes.status answered whole in
    record { rest = goes.out; whole = same.one_text }
