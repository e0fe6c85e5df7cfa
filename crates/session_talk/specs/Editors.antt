-- Who makes the edits of a session.
--     EditorState                     the session's state, where it is told, how many looks failed, for which paths the
--                                     folder was asked, where it tells that, how many steps were taken, what is shown
--                                     of the modules, and what its watch was shown, where it tells that
--     AsksFor Among old asked         it was asked for further paths, for such alone
--     EditsLook before edit after     for paths alone at which the edit looks
--     Seen Is P                       of a state that it is, this
--     IsReplied state edit line before showings after     the line is the reply, what is told then is the next state,
--                                     and this was shown
--     EditsTold before edit line showings after   so it is, where a state is told
--     Comes before edit showings result after     what comes of an edit, for which this was shown
--     EditSpends before edit after    how many steps it takes: as many at most as a generation, where it needs one, and
--                                     of a state that is told no more than is fresh
--     Edits before edit result after  an edit is made, and its reply given
--     EditsFrom Before edit result After      the same from each state that it is to one that it is then
--     Shows state map                 the map is the state's
use Rattle.std.specs.Prelude.{◌≡◌, ◌≤◌, ◌+◌, ◌*◌, ◌++◌, [], ℕ, List, Option, Some, None, Result, Ok, Err, IfSome, All}
use Rattle.tree_spec.specs.Counts.{Rose}
use Rattle.session_spec.specs.declared.Change.{Change}
use Rattle.session_spec.specs.EditLooks.{IsEditLook}
use Rattle.session_spec.specs.Frugality.{IsFrugal}
use Rattle.session_spec.specs.SessionDoings.{SeesMore, Display, DoesEdit, MayShow}
use Rattle.session_spec.specs.SessionStates.{SessionState}
use Rattle.session_spec.specs.SessionSteps.{generations, most_steps}
use Rattle.session_spec.specs.Showings.{Shown}
use Rattle.session_talk.specs.declared.editor.EditorFault.{EditorFault}
use Rattle.session_talk.specs.declared.editor.EditorFault.TheVariants.{ReadFault, Memory}

pub record EditorState : Type 0 where
  pub told : Option SessionState
  pub faults : ℕ
  pub asked : Option (List (List ℕ))
  pub spent : ℕ
  pub display : Display
  pub seen : Option (List (List Shown))

pub record AsksFor (Among : List ℕ → Type 0) (old : List (List ℕ)) (asked : Option (List (List ℕ))) : Type 0 where
  pub more : List (List ℕ)
  pub is : asked ≡ Some (old ++ more)
  pub among : All Among more

abbrev pub EditsLook : EditorState → List Change → EditorState → Type 0
EditsLook before edit after =
    IfSome before.told (λ state. IfSome before.asked (λ old. AsksFor (IsEditLook state edit) old after.asked))

-- own: a session is told by a tree behind it, of which there may be several
pub record Seen (Is P : EditorState → Type 0) : Type 0 where
  pub at : EditorState
  pub is : Is at
  pub holds : P at

pub record IsReplied (state : SessionState) (edit : List Change) (line : List ℕ) (before : EditorState)
    (showings : List (List Shown)) (after : EditorState) : Type 0 where
  pub next : SessionState
  pub does : DoesEdit state edit before.display after.display next line showings
  pub is_told : after.told ≡ Some next

pub record EditsTold (before : EditorState) (edit : List Change) (line : List ℕ) (showings : List (List Shown))
    (after : EditorState) : Type 0 where
  pub replied : IfSome before.told (λ state. IsReplied state edit line before showings after)
  pub untold : before.told ≡ None → after.told ≡ None
  pub quiet : after.faults ≡ before.faults

-- own: where a look failed nothing was shown; where memory is wanting, it may be so for the line alone
abbrev pub Comes :
    EditorState → List Change → List (List Shown) → Result (List ℕ) EditorFault → EditorState → Type 0
Comes before edit showings (Ok line) after = EditsTold before edit line showings after
Comes before edit showings (Err ReadFault) after = Rose before.faults after.faults × (showings ≡ [])
Comes before edit showings (Err Memory) after =
    (after.faults ≡ before.faults) × IfSome before.told (λ state. MayShow state edit before.display showings)

pub record EditSpends (before : EditorState) (edit : List Change) (after : EditorState) : Type 0 where
  pub most : after.spent ≤ before.spent + generations edit * most_steps
  pub frugal : IfSome before.told (λ state. IsFrugal state edit before.spent after.spent)

pub record Edits (before : EditorState) (edit : List Change) (result : Result (List ℕ) EditorFault)
    (after : EditorState) : Type 0 where
  pub showings : List (List Shown)
  pub sees : SeesMore before.seen showings after.seen
  pub comes : Comes before edit showings result after
  pub looks : EditsLook before edit after
  pub steps : EditSpends before edit after

abbrev pub EditsFrom :
    (EditorState → Type 0) → List Change → Result (List ℕ) EditorFault → (EditorState → Type 0) → Type 0
EditsFrom Before edit result After =
    (before : EditorState) → Before before → Seen After (λ after. Edits before edit result after)

abbrev pub Shows : EditorState → List ℕ → Type 0
Shows state map = IfSome state.told (λ s. map ≡ s.map)
