-- What the outside tells of itself, and what a call of it does.
--     FolderState, SourceState, SinkState      what is told, and how many calls failed
--     IsLooked before path limit result after  a look at a path
--     OnlyLooks before after failed            calls that look and do nothing else, and whether one of them failed
--     IsWritten before path bytes result after a write of a file
--     brought result                           how many bytes a take brought
--     IsTaken before into filled result after  what was moved from a source into a slice
--     IsGiven before bytes result after        bytes that were given to a sink
use Rattle.std.specs.Prelude.{◌≡◌, ◌≢◌, ◌≤◌, ◌<◌, ◌++◌, ℕ, List, [], length, take, drop, Option, Some, None, option_map}
use Rattle.std.specs.Prelude.{Result, Ok, Err, is_ok, IfOk, IfSome, OnOk, OnErr, IsErrOf}
use Rattle.tree_spec.specs.declared.Entry.TheVariants.{Stored}
use Rattle.tree_spec.specs.declared.Look.{Look}
use Rattle.tree_spec.specs.declared.LookFault.{LookFault}
use Rattle.tree_spec.specs.declared.LookFault.TheVariants.{Failed}
use Rattle.tree_spec.specs.Counts.{Rose}
use Rattle.tree_spec.specs.Trees.{Tree, Places}
use Rattle.tree_spec.specs.Looks.{IsLook, asked_after}

-- own: the tree and the paths that were looked at, where they are told, and the looks and writes that failed
pub record FolderState : Type 0 where
  pub holds : Option Tree
  pub asked : Option (List (List ℕ))
  pub look_faults : ℕ
  pub write_faults : ℕ

-- own: the bytes still to come, and how many the last take brought (none before the first), where they are told
pub record SourceState : Type 0 where
  pub left : Option (List ℕ)
  pub latest : Option ℕ
  pub faults : ℕ

-- own: the bytes taken so far, where they are told
pub record SinkState : Type 0 where
  pub got : Option (List ℕ)
  pub faults : ℕ

-- own: a look answers what stands there, and fails only where that was counted
pub record IsLooked (before : FolderState) (path : List ℕ) (limit : ℕ) (result : Result Look LookFault)
    (after : FolderState) : Type 0 where
  pub entry : IfOk result (λ look. IfSome before.holds (λ tree. IsLook tree path limit look))
  pub tree : after.holds ≡ before.holds
  pub asked : after.asked ≡ asked_after (is_ok result) path before.asked
  pub failed : IsErrOf result Failed → Rose before.look_faults after.look_faults
  pub quiet : result ≢ Err Failed → after.look_faults ≡ before.look_faults
  pub later : before.look_faults ≤ after.look_faults
  pub writes : after.write_faults ≡ before.write_faults

-- own: the tree and the count of writes are as they were, and the count of looks is too unless a look failed
pub record OnlyLooks (before after : FolderState) (failed : Type 0) : Type 0 where
  pub tree : after.holds ≡ before.holds
  pub writes : after.write_faults ≡ before.write_faults
  pub later : before.look_faults ≤ after.look_faults
  pub cause : failed → Rose before.look_faults after.look_faults
  pub quiet : (failed → ⊥) → after.look_faults ≡ before.look_faults

-- own: a write makes the file, with the missing folders above it, or fails, leaves the tree and counts it
pub record IsWritten {E : Type 0} (before : FolderState) (path bytes : List ℕ) (result : Result (Unit {0}) E)
    (after : FolderState) : Type 0 where
  pub written : OnOk result (IfSome before.holds (λ tree. (later : Tree) × (after.holds ≡ Some later)
      × Places tree path (Stored bytes) later))
  pub tree : OnErr result (after.holds ≡ before.holds)
  pub untold : before.holds ≡ None → after.holds ≡ None
  pub asked : after.asked ≡ before.asked
  pub failed : OnErr result (Rose before.write_faults after.write_faults)
  pub quiet : OnOk result (after.write_faults ≡ before.write_faults)
  pub later : before.write_faults ≤ after.write_faults
  pub looks : after.look_faults ≡ before.look_faults

-- own: how many bytes a take brought
abbrev pub brought : {E : Type 0} → Result ℕ E → ℕ
brought (Ok count) = count
brought (Err failed) = 0

-- own: what comes next was moved into the beginning of the slice. None, although the slice has room, means that
-- nothing is left
pub record IsTaken {E : Type 0} (before : SourceState) (into filled : List ℕ) (result : Result ℕ E)
    (after : SourceState) : Type 0 where
  pub within : IfOk result (λ count. count ≤ length into)
  pub bytes : IfOk result (λ count. IfSome before.left
      (λ rest. (count ≤ length rest) × (take count filled ≡ take count rest) × (after.left ≡ Some (drop count rest))))
  pub untold : before.left ≡ None → after.left ≡ None
  pub end : IfOk result (λ count. count ≡ 0 → 0 < length into → IfSome before.left (λ rest. rest ≡ []))
  pub behind : IfOk result (λ count. drop count filled ≡ drop count into)
  pub untouched : OnErr result (filled ≡ into)
  pub stays : OnErr result (after.left ≡ before.left)
  pub latest : after.latest ≡ option_map (λ earlier. brought result) before.latest
  pub failed : OnErr result (Rose before.faults after.faults)
  pub quiet : OnOk result (after.faults ≡ before.faults)
  pub later : before.faults ≤ after.faults

-- own: all bytes have gone out; or a front of them has, and that was counted
pub record IsGiven {E : Type 0} (before : SinkState) (bytes : List ℕ) (result : Result (Unit {0}) E)
    (after : SinkState) : Type 0 where
  pub given : OnOk result (after.got ≡ option_map (λ front. front ++ bytes) before.got)
  pub part : OnErr result ((count : ℕ) × (after.got ≡ option_map (λ front. front ++ take count bytes) before.got))
  pub failed : OnErr result (Rose before.faults after.faults)
  pub quiet : OnOk result (after.faults ≡ before.faults)
  pub later : before.faults ≤ after.faults
