-- Changes of a tree and of entries, and edits, which are changes that are made together. own: no public standard speaks
-- of sessions.
--     Draft                           a tree and entries
--     is_folder seen, is_file seen    what stands somewhere is a folder, is a file
--     above path                      the folders above a path, the deepest first
--     can_put sights path             a file may stand there: no folder does, and nothing above it is a file
--     with_folders tree folders       the tree with these folders
--     put_file tree path bytes        the tree with the file, and with all folders above it
--     linked, unlinked, put, dropped  the draft behind one change, or why it can't be made
--     changed draft change            the same for any change
--     then_edited made next           what is made of a draft, where there is one
--     edited draft edit               the draft behind the changes, one after another, or why the first that can't be
--                                     made can't
use Rattle.std.specs.FinMap.{get, insert, remove}
use Rattle.std.specs.List.{list_any, list_all}
use Rattle.std.specs.Prelude.{◌&&◌, ◌++◌, ◌∷◌, [], not, nat_lt, ℕ, Bool, true, false, List, length, drop, bytes_eq}
use Rattle.std.specs.Prelude.{Option, Some, None, Result, Ok, Err, if◌then◌else◌}
use Rattle.config_spec.specs.Projects.{without}
use Rattle.session_spec.specs.declared.Change.{Change}
use Rattle.session_spec.specs.declared.Change.TheVariants.{Link, Unlink, Put, Drop}
use Rattle.session_spec.specs.declared.EditFault.{EditFault}
use Rattle.session_spec.specs.declared.EditFault.TheVariants.{NotLinked, TooManyEntries, BadEdit}
use Rattle.tree_spec.specs.FoldersAbove.{folders_from}
use Rattle.tree_spec.specs.Limits.{limit_number}
use Rattle.tree_spec.specs.LookAskings.{Sights}
use Rattle.tree_spec.specs.Trees.{Tree}
use Rattle.tree_spec.specs.declared.Entry.{Entry}
use Rattle.tree_spec.specs.declared.Entry.TheVariants.{Stored, Directory}
use Rattle.tree_spec.specs.declared.LimitName.TheVariants.{Entries}

pub record Draft : Type 0 where
  pub tree : Tree
  pub entries : List (List ℕ)

abbrev pub is_folder : Option Entry → Bool
is_folder None = false
is_folder (Some Directory) = true
is_folder (Some (Stored bytes)) = false

abbrev pub is_file : Option Entry → Bool
is_file None = false
is_file (Some Directory) = false
is_file (Some (Stored bytes)) = true

-- ---- a file is put

abbrev pub above : List ℕ → List (List ℕ)
above path = drop 1 (folders_from path)

-- own: not where a folder stands, as the root does, and not below a file
abbrev pub can_put : Sights → List ℕ → Bool
can_put sights path =
    not (is_folder (sights path)) && list_all (λ folder. not (is_file (sights folder))) (above path)

abbrev pub with_folders : Tree → List (List ℕ) → Tree
with_folders tree [] = tree
with_folders tree (folder ∷ folders) = insert (with_folders tree folders) folder Directory

-- own: folders that are missing are made
abbrev pub put_file : Tree → List ℕ → List ℕ → Tree
put_file tree path bytes = insert (with_folders tree (above path)) path (Stored bytes)

-- ---- one change

-- own: an entry that is there already changes nothing, and there is no 1,025th
abbrev pub linked : Draft → List ℕ → Result Draft EditFault
linked draft entry =
    if list_any (bytes_eq entry) draft.entries then Ok draft
    else if nat_lt (length draft.entries) (limit_number Entries)
    then Ok (record { tree = draft.tree; entries = draft.entries ++ entry ∷ [] })
    else Err TooManyEntries

-- own: an entry that is taken out must be there
abbrev pub unlinked : Draft → List ℕ → Result Draft EditFault
unlinked draft entry =
    if list_any (bytes_eq entry) draft.entries
    then Ok (record { tree = draft.tree; entries = without entry draft.entries })
    else Err (NotLinked entry)

abbrev pub put : Draft → List ℕ → List ℕ → Result Draft EditFault
put draft path bytes =
    if can_put (get draft.tree) path
    then Ok (record { tree = put_file draft.tree path bytes; entries = draft.entries })
    else Err (BadEdit path)

-- own: a file that is dropped must be there; all folders stay
abbrev pub dropped : Draft → List ℕ → Result Draft EditFault
dropped draft path =
    if is_file (get draft.tree path)
    then Ok (record { tree = remove draft.tree path; entries = draft.entries })
    else Err (BadEdit path)

abbrev pub changed : Draft → Change → Result Draft EditFault
changed draft (Link entry) = linked draft entry
changed draft (Unlink entry) = unlinked draft entry
changed draft (Put path bytes) = put draft path bytes
changed draft (Drop path) = dropped draft path

-- ---- one after another

abbrev pub then_edited : Result Draft EditFault → (Draft → Result Draft EditFault) → Result Draft EditFault
then_edited (Ok draft) next = next draft
then_edited (Err fault) next = Err fault

-- own: a change sees what those before it left, and the first that can't be made refuses the whole edit
abbrev pub edited : Draft → List Change → Result Draft EditFault
edited draft [] = Ok draft
edited draft (change ∷ edit) = then_edited (changed draft change) (λ after. edited after edit)
