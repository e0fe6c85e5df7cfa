-- The edits to which an input comes.
use Rattle.std.proofs.Common.{◌≡◌, ◌≤◌, ◌++◌, ℕ, List, length, sym, subst}
use Rattle.std.proofs.lemmas.Bool.{cases_lt}
use Rattle.std.specs.Prelude.{take}
use Rattle.tree_spec.specs.declared.LimitName.TheVariants.{Session}
use Rattle.tree_spec.specs.Limits.{limit_number}
use Rattle.tree_spec.specs.Trees.{Tree}
use Rattle.session_spec.specs.declared.Change.{Change}
use Rattle.session_spec.specs.Conversations.{makes}
use Rattle.session_spec.specs.Laws.{TriedAreCurrent, LooksStay}
use Rattle.session_spec.specs.Openings.{OpensAt, opens}
use Rattle.session_spec.specs.SessionLooks.{IsTried, IsTriedLook, of_opening, of_edit}
use Rattle.session_spec.specs.SessionStates.{SessionState, IsCurrent}
use Rattle.session_spec.specs.Talks.{Standing, begun}
use Rattle.session_spec.proofs.Conversing.{at_on, taken_by}
use Rattle.session_spec.proofs.LinesOn.{rest_on}
use Rattle.session_spec.proofs.Talking.{with_more, talks_on, talks_stay_current, allowed_front}

-- more input leaves the edits to which the input comes
pub tried_on : (more : List ℕ) (start : Standing) (state : SessionState) (edit : List Change) → IsTried start state edit → IsTried (with_more more start) state edit
tried_on more start state edit is = record {
  out = is.out;
  at = with_more more is.at;
  talks = talks_on more start is.at is.out is.talks;
  state_is = is.state_is;
  rest = rest_on more is.rest;
  turn = at_on more is.at.held is.at.input (makes edit is.rest) (sym is.turn) tt;
}

opened_current : (tree : Tree) (first : SessionState) → OpensAt tree first → IsCurrent first
opened_current tree _ (opens config map counts is generated) = generated

pub tried_are_current : TriedAreCurrent
tried_are_current tree first state input edit opened is =
    subst IsCurrent is.state_is (talks_stay_current (begun first input) is.at is.out (opened_current tree first opened) is.talks)

-- and so where they look
pub looks_on : (first : SessionState) (taken more path : List ℕ) → IsTriedLook first taken path → IsTriedLook first (taken ++ more) path
looks_on first taken more path is =
    record { state = is.state; edit = is.edit; tried = tried_on more (begun first taken) is.state is.edit is.tried; looks = is.looks }

looks_by : (first : SessionState) (some all path : List ℕ) → some ≡ all → IsTriedLook first some path → IsTriedLook first all path
looks_by first some all path e is = subst (λ (bytes : List ℕ). IsTriedLook first bytes path) e is

-- within the limit
pub looks_allowed : (first : SessionState) (taken more path : List ℕ) → length taken ≤ limit_number Session → IsTriedLook first taken path
    → IsTriedLook first (take (limit_number Session) (taken ++ more)) path
looks_allowed first taken more path few is =
    let allowed = allowed_front taken more few in
    looks_by first (taken ++ allowed.0) (take (limit_number Session) (taken ++ more)) path (sym allowed.1) (looks_on first taken allowed.0 path is)

pub looks_stay : LooksStay
looks_stay tree taken more path (of_opening config is_config looks) = of_opening config is_config looks
looks_stay tree taken more path (of_edit first opened looks) =
    let found = taken_by (limit_number Session) taken more (cases_lt (length taken) (limit_number Session)) in
    let all = looks_on first (take (limit_number Session) taken) found.0 path looks in
    of_edit first opened (looks_by first (take (limit_number Session) taken ++ found.0) (take (limit_number Session) (taken ++ more)) path (sym found.1) all)
