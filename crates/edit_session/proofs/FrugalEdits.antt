-- How many steps an edit takes.
--     takes_fresh          those of a trace by the answers of the state
--     frugal               and of an edit whose changes are made
--     frugal_nothing       where nothing is traced
--     opens_to_end, opens_nothing      those of the opening
use Rattle.std.proofs.Common.{◌≡◌, ◌≤◌, ◌+◌, ◌∷◌, [], ℕ, Bool, true, false, List, Option, None, Result, Ok, Err, sym, ◌∙◌, subst, arith}
use Rattle.std.specs.Prelude.{OnErr, length, filter, cond, Some}
use Rattle.std.specs.FinMap.{get}
use Rattle.std.proofs.lemmas.Option.{same_Some}
use Rattle.asking_spec.specs.Askings.{questions}
use Rattle.tree_spec.proofs.ToldStates.{if_some, if_all}
use Rattle.tree_spec.specs.LookAskings.{Sights}
use Rattle.tree_spec.specs.States.{FolderState}
use Rattle.tree_spec.specs.Trees.{Tree}
use Rattle.trace_spec.specs.Laws.{asked_by_end}
use Rattle.trace_spec.specs.Modules.{Config}
use Rattle.trace_spec.specs.Questions.{Question, always}
use Rattle.trace_spec.specs.Traces.{trace}
use Rattle.package_lookup.proofs.Laying.{laid_is_seen, nothing_kept, nothing_laid}
use Rattle.package_lookup.specs.Looked.{kept_at, laid_at, Sees}
use Rattle.package_lookup.specs.declared.known.Known.{Known}
use Rattle.request_trace.specs.Answering.{Freshness}
use Rattle.request_trace.specs.Tracing.{StepsByFresh, TakesFreshSteps}
use Rattle.generation.specs.Generating.{StepsToEnd}
use Rattle.generator_spec.proofs.CountedQuestions.{always_asked}
use Rattle.kept_trace.specs.Ready.{is_anew}
use Rattle.kept_trace.specs.Tracing.{FreshIsByTrees}
use Rattle.kept_trace.specs.declared.kept.Kept.{Kept}
use Rattle.session_spec.specs.declared.Change.{Change}
use Rattle.session_spec.specs.declared.EditFault.{EditFault}
use Rattle.session_spec.specs.Edits.{Draft, edited}
use Rattle.session_spec.specs.SessionStates.{SessionState, draft_of, config_with}
use Rattle.session_spec.specs.Frugality.{TakesFresh, IsFrugal}
use Rattle.edit_session.specs.KeptAnswers.{AreAnswersOf}

pub takes_fresh : FreshIsByTrees → (kept : Kept) (tree : Tree) (config : Config) → AreAnswersOf kept tree config
    → (later : Tree) (other : Config) (from to : ℕ) → StepsByFresh (is_anew kept) (get later) other from to
    → TakesFresh tree config later other from to
takes_fresh law kept tree config answers later other from to taken = record {
  is_fresh = is_anew kept (get later);
  fresh = law kept (get tree) (get later) (questions (always (get tree)) (trace config)) answers.right answers.complete;
  asked = taken.asked;
  are = taken.are;
  steps = taken.steps;
}

takes_none : (tree : Tree) (config : Config) (later : Tree) (other : Config) (from to : ℕ) → to ≡ from
    → TakesFresh tree config later other from to
takes_none tree config later other from to same =
    let all = always_asked (get later) other in
    record {
      is_fresh = λ question. false;
      fresh = λ question is. absurd (cc);
      asked = all.asked;
      are = all.are;
      steps = omega (arith, same);
    }

none_refused : {A : Type 0} (result : Result A EditFault) (from to : ℕ) → to ≡ from → OnErr result (to ≡ from)
none_refused (Ok value) from to same = tt
none_refused (Err fault) from to same = same

pub frugal_nothing : (state : SessionState) (edit : List Change) (from to : ℕ) → to ≡ from → IsFrugal state edit from to
frugal_nothing state edit from to same = record {
  left = λ draft made.
      takes_none state.tree state.config draft.tree (config_with state.config draft.entries) from to same;
  refused = none_refused (edited (draft_of state) edit) from to same;
}

same_draft : (one other : Draft) (result : Result Draft EditFault) → result ≡ Ok one → result ≡ Ok other → one ≡ other
same_draft one other result first last =
    (let both : Ok one ≡ Ok other = sym first ∙ last in let p : one ≡ other = cc in p)

unrefused : (A : Type 0) (draft : Draft) (result : Result Draft EditFault) → result ≡ Ok draft → OnErr result A
unrefused A draft (Ok other) made = tt
unrefused A draft (Err fault) made = absurd (cc)

pub frugal : FreshIsByTrees → (kept : Kept) (state : SessionState) → AreAnswersOf kept state.tree state.config
    → (edit : List Change) (draft : Draft) → edited (draft_of state) edit ≡ Ok draft → (from to : ℕ)
    → StepsByFresh (is_anew kept) (get draft.tree) (config_with state.config draft.entries) from to
    → IsFrugal state edit from to
frugal law kept state answers edit draft made from to taken = record {
  left = λ other is.
      subst
      (λ (d : Draft). TakesFresh state.tree state.config d.tree (config_with state.config d.entries) from to)
      (same_draft draft other (edited (draft_of state) edit) made is)
      (takes_fresh law kept state.tree state.config answers draft.tree (config_with state.config draft.entries) from to
      taken);
  refused = unrefused (to ≡ from) draft (edited (draft_of state) edit) made;
}

-- ---- the opening

fewer : {Q : Type 0} (test : Q → Bool) (asked : List Q) → length (filter test asked) ≤ length asked
fewer test [] = omega arith
fewer {Q} test (question ∷ asked) = one (test question) (fewer test asked)
  where
    one : (passes : Bool) → length (filter test asked) ≤ length asked
        → length (cond passes (question ∷ filter test asked) (filter test asked)) ≤ length (question ∷ asked)
    one true few = omega (arith, few)
    one false few = omega (arith, few)

-- where nothing is known, each path is seen as it stands in the tree
pub opens_to_end : (is_fresh : Freshness) (config : Config) (before : FolderState) (known : Known)
    → ((path : List ℕ) → kept_at known path ≡ None) → ((path : List ℕ) → laid_at known path ≡ None) → (from to : ℕ)
    → TakesFreshSteps is_fresh config before known from to → StepsToEnd config before.holds from to
opens_to_end is_fresh config before known none_kept none_laid from to takes =
    if_some
    {P = λ tree. (sights : Sights) → Sees tree known sights → StepsByFresh is_fresh sights config from to}
    {Q = λ tree. (asked : List Question) → asked_by_end (get tree) config ≡ Some asked → to ≤ from + length asked}
    before.holds
    (λ tree each asked are.
    let here = each (get tree)
    (laid_is_seen tree tree known (nothing_kept tree known none_kept) (nothing_laid tree known.laid none_laid)) in
    let few = fewer (is_fresh (get tree)) here.asked in
    let steps = here.steps in
    subst (λ (questions : List Question). to ≤ from + length questions) (same_Some here.asked asked (sym here.are ∙ are))
    (omega (arith, few, steps))) takes

pub opens_nothing : (config : Config) (told : Option Tree) (steps : ℕ) → StepsToEnd config told steps steps
opens_nothing config told steps = if_all told (λ tree. λ asked are. omega arith)
