-- The folder in memory: as it is made, and what each call of it does.
--     state_of folder                                     what it tells of itself
--     IsEmptyFolder folder look_numbers write_numbers     it holds the root alone, and calls with these numbers fail
--     IsPutInto before path entry result after            an entry is put into it
--     IsLookOf before path limit result after             a look at a path
--     IsWriteOf before path bytes result after            a write of a file
use Rattle.std.specs.Prelude.{◌≡◌, ◌≢◌, ◌≤◌, ◌↔◌, ◌++◌, [], ◌∷◌, if◌then◌else◌, ℕ, List, Bool, Some, Result, Err}
use Rattle.std.specs.Prelude.{is_ok, IfOk, OnOk, OnErr, IsErr, IsErrOf}
use Rattle.std.specs.List.{Contains}
use Rattle.tree_spec.specs.Counts.{following}
use Rattle.tree_spec.specs.States.{FolderState}
use Rattle.tree_spec.specs.Trees.{Places, bare_tree}
use Rattle.tree_spec.specs.Looks.{IsLook}
use Rattle.tree_spec.specs.declared.Entry.{Entry}
use Rattle.tree_spec.specs.declared.Entry.TheVariants.{Stored}
use Rattle.tree_spec.specs.declared.Look.{Look}
use Rattle.tree_spec.specs.declared.LookFault.{LookFault}
use Rattle.tree_spec.specs.declared.LookFault.TheVariants.{Failed}
use Rattle.tree_model.specs.Entries.{tree_of, IsPutNew, IsBarred}
use Rattle.tree_model.specs.declared.mem_folder.MemFolder.{MemFolder}

-- own: it tells all that it holds and was asked for
abbrev pub state_of : MemFolder → FolderState
state_of folder = record {
  holds = Some (tree_of folder.entries);
  asked = Some folder.asked;
  look_faults = folder.look_faults;
  write_faults = folder.write_faults;
}

-- own: the root alone, before the first call
pub record IsEmptyFolder (folder : MemFolder) (look_numbers write_numbers : List ℕ) : Type 0 where
  pub tree : tree_of folder.entries ≡ bare_tree
  pub asked : folder.asked ≡ []
  pub looks : folder.looks ≡ 0
  pub writes : folder.writes ≡ 0
  pub look_faults : folder.look_faults ≡ 0
  pub write_faults : folder.write_faults ≡ 0
  pub failing_looks : folder.failing_looks ≡ look_numbers
  pub failing_writes : folder.failing_writes ≡ write_numbers

-- own: an entry is put where its place is free, and that is no look and no write
pub record IsPutInto {E : Type 0} (before : MemFolder) (path : List ℕ) (entry : Entry) (result : Result Bool E)
    (after : MemFolder) : Type 0 where
  pub put : IsPutNew (tree_of before.entries) path entry result (tree_of after.entries)
  pub asked : after.asked ≡ before.asked
  pub looks : after.looks ≡ before.looks
  pub writes : after.writes ≡ before.writes
  pub look_faults : after.look_faults ≡ before.look_faults
  pub write_faults : after.write_faults ≡ before.write_faults
  pub failing_looks : after.failing_looks ≡ before.failing_looks
  pub failing_writes : after.failing_writes ≡ before.failing_writes

-- own: a look answers what stands there, and then its path is among those asked for; it fails exactly where its number
-- is listed, and counts that; nothing else changes but the number of looks
pub record IsLookOf (before : MemFolder) (path : List ℕ) (limit : ℕ) (result : Result Look LookFault)
    (after : MemFolder) : Type 0 where
  pub entry : IfOk result (λ look. IsLook (tree_of before.entries) path limit look)
  pub tree : tree_of after.entries ≡ tree_of before.entries
  pub asked : after.asked ≡ (if is_ok result then before.asked ++ path ∷ [] else before.asked)
  pub number : after.looks ≡ following before.looks
  pub listed : IsErrOf result Failed ↔ Contains before.failing_looks (following before.looks)
  pub failed : IsErrOf result Failed → after.look_faults ≡ following before.look_faults
  pub quiet : result ≢ Err Failed → after.look_faults ≡ before.look_faults
  pub later : before.look_faults ≤ after.look_faults
  pub writes : after.writes ≡ before.writes
  pub write_faults : after.write_faults ≡ before.write_faults
  pub failing_looks : after.failing_looks ≡ before.failing_looks
  pub failing_writes : after.failing_writes ≡ before.failing_writes

-- own: a write makes the file, with the missing folders above it; or it fails, as it does where its number is listed or
-- something bars the file, leaves the tree and counts that
pub record IsWriteOf {E : Type 0} (before : MemFolder) (path bytes : List ℕ) (result : Result (Unit {0}) E)
    (after : MemFolder) : Type 0 where
  pub written : OnOk result (Places (tree_of before.entries) path (Stored bytes) (tree_of after.entries))
  pub tree : OnErr result (tree_of after.entries ≡ tree_of before.entries)
  pub asked : after.asked ≡ before.asked
  pub number : after.writes ≡ following before.writes
  pub listed : Contains before.failing_writes (following before.writes) → IsErr result
  pub barred : IsBarred (tree_of before.entries) path → IsErr result
  pub failed : OnErr result (after.write_faults ≡ following before.write_faults)
  pub quiet : OnOk result (after.write_faults ≡ before.write_faults)
  pub later : before.write_faults ≤ after.write_faults
  pub looks : after.looks ≡ before.looks
  pub look_faults : after.look_faults ≡ before.look_faults
  pub failing_looks : after.failing_looks ≡ before.failing_looks
  pub failing_writes : after.failing_writes ≡ before.failing_writes
