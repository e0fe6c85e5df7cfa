-- What a change makes of a draft, as looks that are laid over a folder, and entries.
--     MakesTree Made allowed asks before known over result after later left
--                                     a file is put or dropped where that is allowed
--     Work                            a folder, what is known of it, looks to be laid, and entries
--     IsDraftOf tree work draft       the draft that these make
--     IsMadeOf made result next       a change of a draft comes to this
--     IsAllowed path made result      a file is put or dropped at the path, or that is a bad edit
--     IsListOfEntries entries         they are distinct, and no more than a project has
--     CanStop Can result              where a change is refused, this holds of why
--     Makes made asks Can before result after     changes of a draft, one after another, which can be refused so
use Rattle.std.specs.Prelude.{◌≡◌, ◌≤◌, ⊤, ℕ, List, Bool, true, false, length, bytes_eq}
use Rattle.std.specs.Prelude.{Some, Result, Ok, Err, Contains}
use Rattle.std.specs.List.{IsDistinct}
use Rattle.tree_spec.specs.Limits.{limit_number}
use Rattle.tree_spec.specs.States.{FolderState}
use Rattle.tree_spec.specs.Trees.{Tree}
use Rattle.tree_spec.specs.declared.LimitName.TheVariants.{Entries}
use Rattle.tree_spec.specs.declared.LookFault.{LookFault}
use Rattle.tree_spec.specs.declared.LookFault.TheVariants as look
use Rattle.package_lookup.specs.declared.known.Known.{Known}
use Rattle.package_lookup.specs.declared.over.Over.{Over}
use Rattle.session_spec.specs.Edits.{Draft}
use Rattle.session_spec.specs.declared.EditFault.{EditFault}
use Rattle.session_spec.specs.declared.EditFault.TheVariants.{BadEdit}
use Rattle.edit_session.specs.LooksOn.{LooksOn, IsSeenBy}
use Rattle.edit_session.specs.declared.stop.ChangeStop.{ChangeStop}
use Rattle.edit_session.specs.declared.stop.ChangeStop.TheVariants.{Refused, ReadFault, Memory}

-- ---- a tree

pub record MakesTree (Made : Tree → Tree → Over → Type 0) (allowed : Tree → Bool) (asks : Tree → List (List ℕ))
    (before : FolderState) (known : Known) (over : Over) (result : Result Bool LookFault) (after : FolderState)
    (later : Known) (left : Over) : Type 0 where
  pub looks :
      LooksOn before known after later (result ≡ Err look.Failed) (result ≡ Err look.Memory)
      (λ tree path. (seen : Tree) → IsSeenBy tree known over seen → Contains (asks seen) path)
  pub may :
      (tree seen : Tree) (answer : Bool) → before.holds ≡ Some tree → IsSeenBy tree known over seen
      → result ≡ Ok answer → allowed seen ≡ answer
  pub made :
      (tree seen : Tree) → before.holds ≡ Some tree → IsSeenBy tree known over seen → result ≡ Ok true
      → Made tree seen left

-- ---- a draft

pub record Work : Type 0 where
  pub folder : FolderState
  pub known : Known
  pub over : Over
  pub entries : List (List ℕ)

abbrev pub work : FolderState → Known → Over → List (List ℕ) → Work
work folder known over entries = record { folder = folder; known = known; over = over; entries = entries }

abbrev pub as_draft : Tree → List (List ℕ) → Draft
as_draft tree entries = record { tree = tree; entries = entries }

pub record IsDraftOf (tree : Tree) (now : Work) (draft : Draft) : Type 0 where
  pub seen : IsSeenBy tree now.known now.over draft.tree
  pub entries_are : draft.entries ≡ now.entries

-- own: entries are changed without a look; want of memory tells nothing
abbrev pub IsMadeOf : Result Draft EditFault → Result (Unit {0}) ChangeStop → Draft → Type 0
IsMadeOf made (Ok done) next = made ≡ Ok next
IsMadeOf made (Err (Refused fault)) next = made ≡ Err fault
IsMadeOf made (Err ReadFault) next = ⊥
IsMadeOf made (Err Memory) next = ⊤

-- own: there may be no memory to say so
pub data IsAllowed (path : List ℕ) : Result Bool LookFault → Result (Unit {0}) ChangeStop → Type 0 where
  is_made : IsAllowed path (Ok true) (Ok tt)
  is_bad : IsAllowed path (Ok false) (Err (Refused (BadEdit path)))
  not_said : IsAllowed path (Ok false) (Err Memory)
  failed : IsAllowed path (Err look.Failed) (Err ReadFault)
  no_memory : IsAllowed path (Err look.Memory) (Err Memory)

pub record IsListOfEntries (entries : List (List ℕ)) : Type 0 where
  pub distinct : IsDistinct bytes_eq entries
  pub few : length entries ≤ limit_number Entries

-- own: a look that failed and want of memory tell nothing
abbrev pub LeavesDraft : Tree → Result Draft EditFault → Result (Unit {0}) ChangeStop → Work → Type 0
LeavesDraft tree made (Ok done) after = (next : Draft) × (made ≡ Ok next) × IsDraftOf tree after next
LeavesDraft tree made (Err (Refused fault)) after = made ≡ Err fault
LeavesDraft tree made (Err ReadFault) after = ⊤
LeavesDraft tree made (Err Memory) after = ⊤

abbrev pub CanStop : (EditFault → Type 0) → Result (Unit {0}) ChangeStop → Type 0
CanStop Can (Ok done) = ⊤
CanStop Can (Err (Refused fault)) = Can fault
CanStop Can (Err ReadFault) = ⊤
CanStop Can (Err Memory) = ⊤

pub record Makes (made : Draft → Result Draft EditFault) (asks : Draft → List (List ℕ)) (Can : EditFault → Type 0)
    (before : Work) (result : Result (Unit {0}) ChangeStop) (after : Work) : Type 0 where
  pub looks :
      LooksOn before.folder before.known after.folder after.known (result ≡ Err ReadFault) (result ≡ Err Memory)
      (λ tree path. (draft : Draft) → IsDraftOf tree before draft → Contains (asks draft) path)
  pub leaves :
      (tree : Tree) (draft : Draft) → before.folder.holds ≡ Some tree → IsDraftOf tree before draft
      → LeavesDraft tree (made draft) result after
  pub kind : CanStop Can result
