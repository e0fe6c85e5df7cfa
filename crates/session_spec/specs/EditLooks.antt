-- Where an edit looks. own.
--     climbed sights paths            the paths up to the first at which something stands
--     change_looks sights change      where one change looks
--     behind_change made next         where it is looked behind a change, which is made
--     edit_looks draft edit           where the changes look, one after another, up to the first that can't be made
--     IsEditLook state edit path      the edit looks there, or the generation for what it leaves does
use Rattle.std.specs.Prelude.{◌≡◌, ℕ, List, [], ◌∷◌, ◌++◌, Result, Ok, Err, is_some, Contains, if◌then◌else◌}
use Rattle.std.specs.FinMap.{get}
use Rattle.tree_spec.specs.FoldersAbove.{folders_from}
use Rattle.tree_spec.specs.LookAskings.{Sights}
use Rattle.trace_spec.specs.Laws.{IsLookedAt}
use Rattle.session_spec.specs.declared.Change.{Change}
use Rattle.session_spec.specs.declared.Change.TheVariants.{Link, Unlink, Put, Drop}
use Rattle.session_spec.specs.declared.EditFault.{EditFault}
use Rattle.session_spec.specs.Edits.{Draft, changed, edited}
use Rattle.session_spec.specs.SessionStates.{SessionState, draft_of, config_with}

abbrev pub climbed : Sights → List (List ℕ) → List (List ℕ)
climbed sights [] = []
climbed sights (path ∷ paths) = path ∷ (if is_some (sights path) then [] else climbed sights paths)

-- own: a put looks at its path and, where nothing stands there, at the folders above it, the deepest first; a drop
-- looks at its path
abbrev pub change_looks : Sights → Change → List (List ℕ)
change_looks sights (Link entry) = []
change_looks sights (Unlink entry) = []
change_looks sights (Put path bytes) = climbed sights (folders_from path)
change_looks sights (Drop path) = path ∷ []

abbrev pub behind_change : Result Draft EditFault → (Draft → List (List ℕ)) → List (List ℕ)
behind_change (Ok draft) next = next draft
behind_change (Err fault) next = []

abbrev pub edit_looks : Draft → List Change → List (List ℕ)
edit_looks draft [] = []
edit_looks draft (change ∷ edit) =
    change_looks (get draft.tree) change ++ behind_change (changed draft change) (λ after. edit_looks after edit)

pub data IsEditLook (state : SessionState) (edit : List Change) (path : List ℕ) : Type 0 where
  of_change : Contains (edit_looks (draft_of state) edit) path → IsEditLook state edit path
  of_generation :
      (draft : Draft) → edited (draft_of state) edit ≡ Ok draft
      → IsLookedAt (get draft.tree) (config_with state.config draft.entries) path
      → IsEditLook state edit path
