-- An edit has one reply, and a refused one leaves the state.
use Rattle.std.proofs.Common.{◌≡◌, ◌⊎◌, ◌++◌, ◌∷◌, [], ℕ, List, Result, Ok, Err, refl, sym, ap, ◌∙◌, subst, inl, inr}
use Rattle.trace_spec.specs.Modules.{Config}
use Rattle.tree_spec.specs.Trees.{Tree}
use Rattle.config_spec.specs.declared.Command.TheVariants.{Refresh}
use Rattle.generator_spec.proofs.Generations.{one_trace, one_layout, one_text}
use Rattle.generator_spec.proofs.Refusals.{one_refusal, refused_or_opened_and_generated}
use Rattle.generator_spec.specs.Commands.{nothing, refresh}
use Rattle.generator_spec.specs.Lines.{line_of}
use Rattle.session_spec.specs.declared.Change.{Change}
use Rattle.session_spec.specs.declared.EditFault.{EditFault}
use Rattle.session_spec.specs.Edits.{Draft, edited, then_edited, changed}
use Rattle.session_spec.specs.Laws.{SameReply, OneReply, RefusedLeaves, IsLeft, AcceptedOrLeft, AlwaysCurrent, EditsJoin, AcceptedJoin, all_changes}
use Rattle.session_spec.specs.Replies.{IsRefused, by_change, by_generation, Follows, Replies, refused, accepted, accepted_line, IsAccepted}
use Rattle.session_spec.specs.Replies.{nowhere, on, none, then}
use Rattle.session_spec.specs.SessionStates.{SessionState, Counts, counts_of, draft_of, config_with, next_state, IsGenerated, IsCurrent}

pub one_count : (tree : Tree) (config : Config) (map other : List ℕ) (counts second : Counts) → IsGenerated tree config map counts → IsGenerated tree config other second → counts ≡ second
one_count tree config map other counts second a b =
    let traces = one_trace tree config config map other refl a.generates b.generates in
    let layouts = one_layout tree config config map other refl a.generates b.generates in
    a.counted ∙ ((λ i. counts_of (traces i) (layouts i)) ∙ sym b.counted)

module _ (state : SessionState) where
  one_line : (made : Result Draft EditFault) (line said : List ℕ) → IsRefused state made line → IsRefused state made said → line ≡ said
  one_line _ _ _ (by_change fault) (by_change same) = refl
  one_line _ _ _ (by_generation draft why is) (by_generation same other is_too) =
      ap line_of (one_refusal draft.tree (config_with state.config draft.entries) Refresh why other is is_too)

  refused_or_generated : (draft : Draft) (map line : List ℕ) (counts : Counts) → IsRefused state (Ok draft) line
      → IsGenerated draft.tree (config_with state.config draft.entries) map counts → ⊥
  refused_or_generated draft map line counts (by_generation same why is) generated =
      refused_or_opened_and_generated draft.tree (config_with state.config draft.entries) Refresh why map tt is (nothing Refresh refresh) generated.generates

  one_following : (made : Result Draft EditFault) (next other : SessionState) (line said : List ℕ) → Follows state made next line → Follows state made other said → SameReply next other line said
  one_following made _ _ _ _ (refused _ line is) (refused _ said is_too) = record { one_state = refl; one_line = one_line made line said is is_too }
  one_following _ _ _ _ _ (refused _ line is) (accepted draft map counts generated) = absurd (refused_or_generated draft map line counts is generated)
  one_following _ _ _ _ _ (accepted draft map counts generated) (refused _ line is) = absurd (refused_or_generated draft map line counts is generated)
  one_following _ _ _ _ _ (accepted draft map counts generated) (accepted same other second generated_too) =
      let config = config_with state.config draft.entries in
      let maps = one_text draft.tree config config map other refl generated.generates generated_too.generates in
      let counted = one_count draft.tree config map other counts second generated generated_too in
      record { one_state = λ i. next_state state draft (maps i) (counted i); one_line = ap accepted_line counted }

pub one_reply : OneReply
one_reply state next other edit line said a b = one_following state (edited (draft_of state) edit) next other line said a b

pub refused_leaves : RefusedLeaves
refused_leaves state next edit line said is replies =
    one_following state (edited (draft_of state) edit) next state said line replies (refused (edited (draft_of state) edit) line is)

accepted_by : (state next : SessionState) (edit : List Change) (line : List ℕ) (made : Result Draft EditFault) → edited (draft_of state) edit ≡ made → Follows state made next line → IsAccepted state edit next line ⊎ IsLeft state edit next line
accepted_by state _ edit line made e (refused _ _ is) = inr (record { stays = refl; why = subst (λ m. IsRefused state m line) (sym e) is })
accepted_by state _ edit _ _ e (accepted draft map counts generated) = inl (record { made = e; same_project = refl; current = generated; said = refl })

pub accepted_or_left : AcceptedOrLeft
accepted_or_left state next edit line replies = accepted_by state next edit line (edited (draft_of state) edit) refl replies

abbrev state_with : SessionState → Config → SessionState
state_with state config = record { tree = state.tree; config = config; map = state.map; counts = state.counts }

pub replies_accepted : (state next : SessionState) (edit : List Change) (line : List ℕ) → IsAccepted state edit next line → Replies state edit next line
replies_accepted state next edit line is =
    let project = sym is.same_project in
    let same : next_state state (draft_of next) next.map next.counts ≡ next = λ i. state_with next (project i) in
    let current = subst (λ (c : Config). IsGenerated next.tree c next.map next.counts) is.same_project is.current in
    subst (λ (l : List ℕ). Replies state edit next l) (sym is.said)
    (subst (λ (s : SessionState). Replies state edit s (accepted_line next.counts)) same
    (subst (λ (made : Result Draft EditFault). Follows state made (next_state state (draft_of next) next.map next.counts) (accepted_line next.counts)) (sym is.made)
    (accepted (draft_of next) next.map next.counts current)))

pub next_current : (state next : SessionState) (line : List ℕ) (made : Result Draft EditFault) → IsCurrent state → Follows state made next line → IsCurrent next
next_current state _ _ _ current (refused _ _ is) = current
next_current state _ _ _ current (accepted draft map counts generated) = generated

pub always_current : AlwaysCurrent
always_current _ _ _ current (nowhere state) = current
always_current _ _ _ current (on state next later edit edits line replies leads) =
    always_current next later edits (next_current state next line (edited (draft_of state) edit) current replies) leads

-- ---- changes one after another

joined_by : (made : Result Draft EditFault) (front back : List Change)
    → ((draft : Draft) → edited draft (front ++ back) ≡ then_edited (edited draft front) (λ after. edited after back))
    → then_edited made (λ after. edited after (front ++ back)) ≡ then_edited (then_edited made (λ after. edited after front)) (λ after. edited after back)
joined_by (Ok draft) front back join = join draft
joined_by (Err fault) front back join = refl

pub edits_join : EditsJoin
edits_join draft [] back = refl
edits_join draft (change ∷ front) back = joined_by (changed draft change) front back (λ after. edits_join after front back)

pub accepted_join : AcceptedJoin
accepted_join _ _ _ (none state) = record { made = refl; same_project = refl }
accepted_join _ _ _ (then state next later edit edits line is others) =
    let rest = accepted_join next later edits others in
    record {
      made = edits_join (draft_of state) edit (all_changes edits) ∙ (ap (λ made. then_edited made (λ after. edited after (all_changes edits))) is.made ∙ rest.made);
      same_project = rest.same_project ∙ ap (λ (config : Config). config_with config later.config.entries) is.same_project;
    }
