-- The edits that the lines of an input make, however much comes behind them.
use Rattle.std.proofs.Common.{◌≤◌, ◌++◌, [], ℕ, List, length, Option, None, sym, subst, arith}
use Rattle.std.proofs.lemmas.List.{append-nil}
use Rattle.std.specs.Prelude.{◌+◌, ◌*◌, take}
use Rattle.tree_spec.specs.Limits.{limit_number}
use Rattle.tree_spec.specs.declared.LimitName.TheVariants.{Session}
use Rattle.session_spec.specs.declared.Change.{Change}
use Rattle.session_spec.specs.Conversations.{makes, holds, shows}
use Rattle.session_spec.specs.SessionSteps.{MakesEdits, begun, edits, collects, shows_it, SpendsFor, SessionSpends, most_steps}
use Rattle.session_spec.proofs.Conversing.{at_on}
use Rattle.session_spec.proofs.LinesOn.{rest_on}
use Rattle.session_spec.proofs.Talking.{allowed_front}

pub few_by_none : (before after most : ℕ) → after ≤ before → after ≤ before + 0 * most
few_by_none before after most few = omega (arith, few)

pub spends_nothing : (input : List ℕ) (before after : ℕ) → after ≤ before → SpendsFor input before after
spends_nothing input before after few = record { edits = 0; held = None; behind = input; made = begun; few = few_by_none before after most_steps few }

more_steps : (spent most : ℕ) → spent ≤ spent + most
more_steps spent most = omega arith

pub none_spent : (taken : List ℕ) (spent : ℕ) → SessionSpends taken spent spent
none_spent taken spent = spends_nothing (take (limit_number Session) taken) (spent + most_steps) spent (more_steps spent most_steps)

pub edits_on : (input more : List ℕ) (count : ℕ) (held : Option (List Change)) (behind : List ℕ) → MakesEdits input count held behind → MakesEdits (input ++ more) count held (behind ++ more)
edits_on input more _ _ _ begun = begun
edits_on input more _ _ _ (edits count held from edit rest made is) =
    edits count held (from ++ more) edit (rest_on more rest) (edits_on input more count held from made) (at_on more held from (makes edit rest) (sym is) tt)
edits_on input more _ _ _ (collects count held from changes rest made is) =
    collects count held (from ++ more) changes (rest_on more rest) (edits_on input more count held from made) (at_on more held from (holds changes rest) (sym is) tt)
edits_on input more _ _ _ (shows_it count held from rest made is) =
    shows_it count held (from ++ more) (rest_on more rest) (edits_on input more count held from made) (at_on more held from (shows rest) (sym is) tt)

pub spends_on : (input more : List ℕ) (before after : ℕ) → SpendsFor input before after → SpendsFor (input ++ more) before after
spends_on input more before after is = record {
  edits = is.edits;
  held = is.held;
  behind = is.behind ++ more;
  made = edits_on input more is.edits is.held is.behind is.made;
  few = is.few;
}

-- within the limit
pub spends_allowed : (taken more : List ℕ) (before after : ℕ) → length taken ≤ limit_number Session → SpendsFor taken before after → SpendsFor (take (limit_number Session) (taken ++ more)) before after
spends_allowed taken more before after few is =
    let allowed = allowed_front taken more few in
    subst (λ (bytes : List ℕ). SpendsFor bytes before after) (sym allowed.1) (spends_on taken allowed.0 before after is)

pub spends_here : (taken : List ℕ) (before after : ℕ) → length taken ≤ limit_number Session → SpendsFor taken before after → SpendsFor (take (limit_number Session) taken) before after
spends_here taken before after few is =
    subst (λ (bytes : List ℕ). SpendsFor (take (limit_number Session) bytes) before after) (append-nil taken) (spends_allowed taken [] before after few is)
