-- Where a session looks. own.
--     IsTried start state edit        a talk comes from there to a line that makes this edit of this state
--     IsTriedLook first input path    an edit to which this input comes looks there, of a session that begins so
--     IsSessionLook tree input path   the generation of the opening looks there, or an edit to which the input comes,
--                                     as far as the limit allows
--     AsksFresh holds taken old after the folder was asked for no path twice, and where it tells a tree, for such alone
--     AsksWithin holds taken old after        for the project's path or for nothing, and then so
use Rattle.std.specs.FinMap.{get}
use Rattle.std.specs.List.{IsDistinct}
use Rattle.std.specs.Prelude.{◌≡◌, ◌⊎◌, ◌++◌, ◌∷◌, [], ℕ, List, take, bytes_eq, All, Option, Some, IfSome}
use Rattle.tree_spec.specs.Limits.{limit_number}
use Rattle.tree_spec.specs.States.{FolderState}
use Rattle.tree_spec.specs.Trees.{Tree}
use Rattle.tree_spec.specs.declared.LimitName.TheVariants.{Session}
use Rattle.trace_spec.specs.Laws.{IsLookedAt}
use Rattle.trace_spec.specs.Modules.{Config}
use Rattle.config_spec.specs.Projects.{project_path, IsConfigOf}
use Rattle.config_spec.specs.declared.Command.TheVariants.{Refresh}
use Rattle.session_spec.specs.declared.Change.{Change}
use Rattle.session_spec.specs.Conversations.{makes}
use Rattle.session_spec.specs.EditLooks.{IsEditLook}
use Rattle.session_spec.specs.Openings.{refresh_words, OpensAt}
use Rattle.session_spec.specs.SessionLines.{Rest}
use Rattle.session_spec.specs.SessionStates.{SessionState}
use Rattle.session_spec.specs.Talks.{Standing, begun, turn_of, Talks}

pub record IsTried (start : Standing) (state : SessionState) (edit : List Change) : Type 0 where
  pub out : List ℕ
  pub at : Standing
  pub talks : Talks start out at
  pub state_is : at.state ≡ state
  pub rest : Rest
  pub turn : turn_of at ≡ makes edit rest

-- own: the edit may be refused
pub record IsTriedLook (first : SessionState) (input path : List ℕ) : Type 0 where
  pub state : SessionState
  pub edit : List Change
  pub tried : IsTried (begun first input) state edit
  pub looks : IsEditLook state edit path

-- own: so may the opening
pub data IsSessionLook (tree : Tree) (input path : List ℕ) : Type 0 where
  of_opening :
      (config : Config) → IsConfigOf refresh_words tree Refresh config
      → IsLookedAt (get tree) config path → IsSessionLook tree input path
  of_edit :
      (first : SessionState) → OpensAt tree first → IsTriedLook first (take (limit_number Session) input) path
      → IsSessionLook tree input path

pub record AsksFresh (holds : Option Tree) (taken : List ℕ) (old : List (List ℕ)) (after : FolderState) : Type 0 where
  pub more : List (List ℕ)
  pub asked : after.asked ≡ Some (old ++ more)
  pub once : IsDistinct bytes_eq more
  pub among : IfSome holds (λ tree. All (IsSessionLook tree taken) more)

-- own: the project's path may be among the further paths too
pub record AsksWithin (holds : Option Tree) (taken : List ℕ) (old : List (List ℕ)) (after : FolderState) : Type 0 where
  pub first : List (List ℕ)
  pub is_first : (first ≡ []) ⊎ (first ≡ project_path ∷ [])
  pub then : AsksFresh holds taken (old ++ first) after
