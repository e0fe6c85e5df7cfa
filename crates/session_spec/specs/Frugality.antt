-- How many steps an edit takes. own.
--     IsFreshFor tree config later question   the question wasn't asked for the trace of the tree and the config, or
--                                     something changed at its footprint
--     TakesFresh tree config later other from to      no more steps than there are questions that are fresh so among
--                                     those of the trace of the later tree and the other config until it ends
--     IsFrugal state edit from to     so it is with what an edit leaves of a state
use Rattle.std.specs.Prelude.{◌≡◌, ◌≤◌, ◌+◌, ℕ, Bool, true, List, length, filter, Contains, Some, Ok, OnErr}
use Rattle.std.specs.FinMap.{get}
use Rattle.asking_spec.specs.Askings.{questions}
use Rattle.tree_spec.specs.Trees.{Tree}
use Rattle.trace_spec.specs.Laws.{asked_by_end}
use Rattle.trace_spec.specs.Modules.{Config}
use Rattle.trace_spec.specs.Questions.{Question, put, always}
use Rattle.trace_spec.specs.Traces.{trace}
use Rattle.kept_spec.specs.Freshness.{IsFresh}
use Rattle.session_spec.specs.declared.Change.{Change}
use Rattle.session_spec.specs.Edits.{Draft, edited}
use Rattle.session_spec.specs.SessionStates.{SessionState, draft_of, config_with}

abbrev pub IsFreshFor : Tree → Config → Tree → Question → Type 0
IsFreshFor tree config later question =
    IsFresh (Contains (questions (always (get tree)) (trace config)) question) (get tree) (get later) (put question)

-- own: a module whose bytes changed is fresh, since its file is in the footprint of its question
pub record TakesFresh (tree : Tree) (config : Config) (later : Tree) (other : Config) (from to : ℕ) : Type 0 where
  pub is_fresh : Question → Bool
  pub fresh : (question : Question) → is_fresh question ≡ true → IsFreshFor tree config later question
  pub asked : List Question
  pub are : asked_by_end (get later) other ≡ Some asked
  pub steps : to ≤ from + length (filter is_fresh asked)

-- own: a change that can't be made takes none
pub record IsFrugal (state : SessionState) (edit : List Change) (from to : ℕ) : Type 0 where
  pub left :
      (draft : Draft) → edited (draft_of state) edit ≡ Ok draft
      → TakesFresh state.tree state.config draft.tree (config_with state.config draft.entries) from to
  pub refused : OnErr (edited (draft_of state) edit) (to ≡ from)
