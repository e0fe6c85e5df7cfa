-- The steps of an edit.
--     LeadsTo tree state edit config pending kept shown      the edit leads to what is pending, for this config, these
--                                             are the answers of its trace, and by its plan it is shown
--     LacksMap tree config stop               for this reason there is no map
--     CanLackMap config stop                  there can be none, whatever the folder tells
--     IsAsBefore old new                      but for what is kept, the parts are as before
--     GeneratesNext before old over entries result after new      what is pending once the changes are made
--     MakesNext before old edit result after new                  what is pending of an edit
--     TakesFreshOf before old edit from to    an edit takes so many steps
--     IsStep old pending new                  what is pending becomes the state
use Rattle.std.specs.Prelude.{◌≡◌, ⊤, ℕ, List, true, is_some, Some, Result, Err, IfOk, IfErr, OnOk}
use Rattle.std.specs.FinMap.{get}
use Rattle.tree_spec.specs.States.{FolderState}
use Rattle.tree_spec.specs.Trees.{Tree}
use Rattle.trace_spec.specs.Laws.{IsLookedAt}
use Rattle.trace_spec.specs.Modules.{Config}
use Rattle.graph_repair.specs.declared.parts.Plan.{Plan}
use Rattle.config_spec.specs.declared.Command.TheVariants.{Refresh}
use Rattle.generator_spec.specs.Commands.{Refuses, IsRefusalOf}
use Rattle.package_lookup.specs.declared.over.Over.{Over}
use Rattle.package_lookup.specs.LaidTrees.{StandsBehind, IsLaid}
use Rattle.package_lookup.specs.Looked.{over_at}
use Rattle.kept_trace.specs.Ready.{AreAllRight}
use Rattle.session_spec.specs.declared.Change.{Change}
use Rattle.session_spec.specs.EditLooks.{IsEditLook}
use Rattle.session_spec.specs.Replies.{IsAccepted}
use Rattle.session_spec.specs.SessionStates.{SessionState, config_with, IsGenerated}
use Rattle.kept_trace.specs.declared.kept.Kept.{Kept}
use Rattle.session_spec.specs.Frugality.{IsFrugal}
use Rattle.edit_session.specs.KeptAnswers.{AreAnswersOf}
use Rattle.edit_session.specs.LooksOn.{LooksOn}
use Rattle.edit_session.specs.Mapping.{IsKeptFor}
use Rattle.edit_session.specs.Shown.{Shows, KeepsShown, IsNextShown, NoMorePlaces, PlansFor}
use Rattle.edit_session.specs.Sessions.{StopsEdit, CanStopEdit}
use Rattle.edit_session.specs.SessionTrees.{IsStateOf, counts_in}
use Rattle.edit_session.specs.Trying.{IfLaid}
use Rattle.edit_session.specs.SessionParts.{Parts, IsPartsOf}
use Rattle.edit_session.specs.declared.session.Pending.{Pending}
use Rattle.edit_session.specs.declared.stop.EditStop.{EditStop}
use Rattle.edit_session.specs.declared.stop.EditStop.TheVariants.{Change as NoChange, Generation, ReadFault, Memory}

pub record LeadsTo (tree : Tree) (state : SessionState) (edit : List Change) (config : Config) (pending : Pending)
    (kept : Kept) (shown : Shows) : Type 0 where
  pub next : SessionState
  pub line : List ℕ
  pub is_state : IsStateOf tree pending.over (config_with config pending.entries) pending.generated next
  pub accepted : IsAccepted state edit next line
  pub answers : AreAnswersOf kept next.tree next.config
  pub plans : PlansFor (λ P. P next.tree) next.config shown

-- own: a generation stops for no change
abbrev pub LacksMap : Tree → Config → EditStop → Type 0
LacksMap tree config (NoChange fault) = ⊥
LacksMap tree config (Generation why) = Refuses tree config Refresh why
LacksMap tree config ReadFault = ⊤
LacksMap tree config Memory = ⊤

abbrev pub CanLackMap : Config → EditStop → Type 0
CanLackMap config (NoChange fault) = ⊥
CanLackMap config (Generation why) = IsRefusalOf config Refresh why
CanLackMap config ReadFault = ⊤
CanLackMap config Memory = ⊤

-- own: but for what is kept, the parts are as before
pub record IsAsBefore (old new : Parts) : Type 0 where
  pub config : new.config ≡ old.config
  pub generated : new.generated ≡ old.generated
  pub answers : new.answers.kept ≡ old.answers.kept

pub record GeneratesNext (before : FolderState) (old : Parts) (over : Over) (entries : List (List ℕ))
    (result : Result Pending EditStop) (after : FolderState) (new : Parts) : Type 0 where
  pub same : IsAsBefore old new
  pub looks :
      LooksOn before old.known after new.known (result ≡ Err ReadFault) (result ≡ Err Memory)
      (λ tree path. AreAllRight old.answers.kept → (seen : Tree) → StandsBehind tree old.known → IsLaid tree over seen
      → IsLookedAt (get seen) (config_with old.config entries) path)
  pub same_over : IfOk result (λ pending. (path : List ℕ) → over_at pending.over path ≡ over_at over path)
  pub same_entries : IfOk result (λ pending. pending.entries ≡ entries)
  pub generated :
      IfOk result (λ pending. IfLaid (AreAllRight old.answers.kept) before old.known over (λ seen.
      IsGenerated seen (config_with old.config entries) pending.generated.map.items (counts_in pending.generated)))
  pub refused :
      IfErr result (λ stop. IfLaid (AreAllRight old.answers.kept) before old.known over
      (λ seen. LacksMap seen (config_with old.config entries) stop))
  pub kind : IfErr result (CanLackMap (config_with old.config entries))
  pub keeps :
      IfOk result (λ pending. IfLaid (AreAllRight old.answers.kept) before old.known over
      (IsKeptFor old.answers.kept (config_with old.config entries) new.answers.next))
  pub shown : KeepsShown old.shown.links new.shown.links
  pub plans :
      OnOk result (PlansFor (IfLaid (AreAllRight old.answers.kept) before old.known over)
      (config_with old.config entries) new.shown)

pub record MakesNext (before : FolderState) (old : Parts) (edit : List Change) (result : Result Pending EditStop)
    (after : FolderState) (new : Parts) : Type 0 where
  pub same : IsAsBefore old new
  pub looks :
      LooksOn before old.known after new.known (result ≡ Err ReadFault) (result ≡ Err Memory)
      (λ tree path. (state : SessionState) → IsPartsOf tree old state → IsEditLook state edit path)
  pub accepted :
      IfOk result (λ pending. (tree : Tree) (state : SessionState) → before.holds ≡ Some tree
      → IsPartsOf tree old state → LeadsTo tree state edit old.config pending new.answers.next new.shown)
  pub refused :
      IfErr result (λ stop. (tree : Tree) (state : SessionState) → before.holds ≡ Some tree
      → IsPartsOf tree old state → StopsEdit state edit stop)
  pub kind : IfErr result (CanStopEdit old.config edit)
  pub shown : KeepsShown old.shown.links new.shown.links
  pub has_plan : OnOk result (is_some new.shown.plan ≡ true)

-- own: each state of these parts
abbrev pub TakesFreshOf : FolderState → Parts → List Change → ℕ → ℕ → Type 0
TakesFreshOf before old edit from to =
    (tree : Tree) (state : SessionState) → before.holds ≡ Some tree → IsPartsOf tree old state
    → IsFrugal state edit from to

pub record IsStep (old : Parts) (pending : Pending) (new : Parts) : Type 0 where
  pub laid : new.known.laid ≡ pending.over
  pub kept : new.known.kept ≡ old.known.kept
  pub config : new.config ≡ config_with old.config pending.entries
  pub generated : new.generated ≡ pending.generated
  pub answers : new.answers.kept ≡ old.answers.next
  pub shown : (plan : Plan) → old.shown.plan ≡ Some plan → IsNextShown old.shown.links plan new.shown.links
  pub places : NoMorePlaces old.shown.links new.shown.links
