-- What edits ask of a folder. own: no public standard speaks of it.
--     LookState                       what the folder tells, of which paths it is kept what stands there, and which
--                                     references lead there
--     AsksUnkept old before after     the folder was asked for no path of which that was kept, and for none twice
--     AsksAndKeeps old before after   the same, and of each of them it is kept then
--     OnlyAsks Asks before after      the tree stays, nothing is written, and the folder is asked so
--     AsksSome before after           what calls ask that may have ended with a fault
--     AsksKeeping before after        what calls ask that didn't: what was kept is kept
--     EditAsks before result after    what an edit asks
--     TurnAsks result before after    what a turn asks: where it goes on, there was no fault
use Rattle.std.specs.Prelude.{◌≡◌, ◌≤◌, ◌++◌, ℕ, List, Bool, true, false, Option, Some, None, Result, Ok, Err, All}
use Rattle.std.specs.Prelude.{IfSome, bytes_eq}
use Rattle.std.specs.List.{IsDistinct}
use Rattle.tree_spec.specs.States.{FolderState}
use Rattle.session_talk.specs.declared.editor.EditorFault.{EditorFault}

pub record LookState : Type 0 where
  pub folder : FolderState
  pub kept : List ℕ → Bool
  pub references : List ℕ

pub record AsksUnkept (old : List (List ℕ)) (before after : LookState) : Type 0 where
  pub more : List (List ℕ)
  pub asked : after.folder.asked ≡ Some (old ++ more)
  pub once : IsDistinct bytes_eq more
  pub new : All (λ path. before.kept path ≡ false) more

pub record AsksAndKeeps (old : List (List ℕ)) (before after : LookState) : Type 0 where
  pub asks : AsksUnkept old before after
  pub held : All (λ path. after.kept path ≡ true) asks.more

pub record OnlyAsks (Asks : List (List ℕ) → Type 0) (before after : LookState) : Type 0 where
  pub references : after.references ≡ before.references
  pub tree : after.folder.holds ≡ before.folder.holds
  pub writes : after.folder.write_faults ≡ before.folder.write_faults
  pub later : before.folder.look_faults ≤ after.folder.look_faults
  pub asked : IfSome before.folder.asked Asks

abbrev pub AsksSome : LookState → LookState → Type 0
AsksSome before after = OnlyAsks (λ old. AsksUnkept old before after) before after

pub record AsksKeeping (before after : LookState) : Type 0 where
  pub asks : OnlyAsks (λ old. AsksAndKeeps old before after) before after
  pub keeps : (path : List ℕ) → before.kept path ≡ true → after.kept path ≡ true

abbrev pub EditAsks : LookState → Result (List ℕ) EditorFault → LookState → Type 0
EditAsks before (Ok line) after = AsksKeeping before after
EditAsks before (Err fault) after = AsksSome before after

abbrev pub TurnAsks : Option ℕ → LookState → LookState → Type 0
TurnAsks None before after = AsksKeeping before after
TurnAsks (Some status) before after = AsksSome before after
