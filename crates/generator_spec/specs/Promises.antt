-- What follows from how a run ends, as its caller asks for it.
--     Tells plain out out_after done       a text went out, that of a command that was done only where this holds
--     Quiet before after out out_after             no count of faults rose
--     Stands status text held after out out_after result          this was answered, said and left
--     Finishes words tree before after out out_after result       it ended as an outcome says, or with `memory`
--     Completes status lines later before after out out_after result      the same, with this outcome
--     Meets words tree before after out out_after result          what it has to do with the outcome that is defined
--     Shows before after out out_after result      which counts of faults show in the status, and how
--     Untouched before after         nothing of the folder changed, and no call of it failed
--     HasStopped words tree told     the command's files were written up to one of them
--     AreWrong words                 why the status is that of words
--     Promises words before after out out_after result            all of this
use Rattle.std.specs.Prelude.{◌≡◌, ◌≢◌, ◌≤◌, ◌⊎◌, ◌++◌, ℕ, List, Option, Some, None, IfSome, option_map, take}
use Rattle.std.specs.List.{concat}
use Rattle.tree_spec.specs.Counts.{Rose}
use Rattle.tree_spec.specs.States.{FolderState, SinkState}
use Rattle.tree_spec.specs.Trees.{Tree}
use Rattle.generator_spec.specs.declared.Refusal.{Refusal}
use Rattle.generator_spec.specs.declared.Refusal.TheVariants.{Config as Configured}
use Rattle.generator_spec.specs.Statuses.{LeavesTree, done_status, words_status, read_fault_status}
use Rattle.generator_spec.specs.Statuses.{write_fault_status, memory_status}
use Rattle.config_spec.specs.declared.ConfigFault.{ConfigFault}
use Rattle.config_spec.specs.Words.{IsPlain, RefusesWords, VendorsTo}
use Rattle.generator_spec.specs.Lines.{status_of, counts_line, served_line, vendored_line, memory_line}
use Rattle.generator_spec.specs.Outcome.{Outcome}
use Rattle.generator_spec.specs.Ending.{CanRefuse, HasCopied, IsDone, StopsWriting, StopsCopying, Gives, TellsRefusal}

-- own: a front of one text went out; and of plain words, a byte of the line of a command that was done only where it
-- was
pub record Tells (plain : Type 0) (out out_after : Option (List ℕ)) (done : Type 0) : Type 0 where
  pub text : List ℕ
  pub gives : Gives out out_after text
  pub only_where_done :
      plain → (front : List ℕ) (modules requests mappings count : ℕ) → out ≡ Some front → 1 ≤ count
      → out_after ≡ Some (front ++ take count (counts_line modules requests mappings)) → done
  pub only_where_served :
      plain → (front : List ℕ) (needs count : ℕ) → out ≡ Some front → 1 ≤ count
      → out_after ≡ Some (front ++ take count (served_line needs)) → done
  pub only_where_copied :
      plain → (front : List ℕ) (files count : ℕ) → out ≡ Some front → 1 ≤ count
      → out_after ≡ Some (front ++ take count (vendored_line files)) → done

-- own: no count of faults rose
pub record Quiet (before after : FolderState) (out out_after : SinkState) : Type 0 where
  pub looks : Rose before.look_faults after.look_faults → ⊥
  pub writes : Rose before.write_faults after.write_faults → ⊥
  pub output : Rose out.faults out_after.faults → ⊥

-- own: this status was answered, this text went out, and the folder tells this
pub record Stands (status : ℕ) (text : List ℕ) (held : Option Tree) (after : FolderState) (out out_after : SinkState)
    (result : ℕ) : Type 0 where
  pub answered : result ≡ status
  pub given : out_after.got ≡ option_map (λ front. front ++ text) out.got
  pub told : after.holds ≡ held

-- own: the command ended with this status, these lines and this tree; or with `memory`, and the tree is as it was
pub data Completes (status : ℕ) (lines : List (List ℕ)) (later : Tree) (before after : FolderState)
    (out out_after : SinkState) (result : ℕ) : Type 0 where
  complete :
      Stands status (concat lines) (Some later) after out out_after result
      → Completes status lines later before after out out_after result
  memory :
      Stands memory_status memory_line before.holds after out out_after result
      → Completes status lines later before after out out_after result

-- own: the command ended as an outcome says that is defined; or with `memory`, and the tree is as it was
pub data Finishes (words : List (List ℕ)) (tree : Tree) (before after : FolderState) (out out_after : SinkState)
    (result : ℕ) : Type 0 where
  finished :
      (status : ℕ) (lines : List (List ℕ)) (later : Tree) → Outcome words tree status lines later
      → Stands status (concat lines) (Some later) after out out_after result
      → Finishes words tree before after out out_after result
  memory :
      Stands memory_status memory_line before.holds after out out_after result
      → Finishes words tree before after out out_after result

-- own: where no fault was counted, the command ended as an outcome says that is defined, or with `memory`. Where the
-- words and the tree have an outcome, the answer is its status, or 8, or 4 or 5 for a fault; where the words are plain
-- and no fault was counted, the command ended so; and where that outcome isn't that of a command that is done, no write
-- failed
pub record Meets (words : List (List ℕ)) (tree : Tree) (before after : FolderState) (out out_after : SinkState)
    (result : ℕ) : Type 0 where
  pub ended : Quiet before after out out_after → Finishes words tree before after out out_after result
  pub exactly :
      (status : ℕ) (lines : List (List ℕ)) (later : Tree) → Outcome words tree status lines later
      → (result ≡ status) ⊎ (result ≡ memory_status) ⊎ (result ≡ read_fault_status) ⊎ (result ≡ write_fault_status)
  pub complete :
      IsPlain words → (status : ℕ) (lines : List (List ℕ)) (later : Tree) → Outcome words tree status lines later
      → Quiet before after out out_after
      → Completes status lines later before after out out_after result
  pub unwritten :
      (status : ℕ) (lines : List (List ℕ)) (later : Tree) → Outcome words tree status lines later → status ≢ done_status
      → after.write_faults ≡ before.write_faults

-- own: a count that changed shows in the status: that of looks in 4, or in 5 where the output failed too; 4 comes
-- only where the looks alone failed
pub record Shows (before after : FolderState) (out out_after : SinkState) (result : ℕ) : Type 0 where
  pub looks : after.look_faults ≢ before.look_faults → (result ≡ read_fault_status) ⊎ (result ≡ write_fault_status)
  pub writes : after.write_faults ≢ before.write_faults → result ≡ write_fault_status
  pub output : out_after.faults ≢ out.faults → result ≡ write_fault_status
  pub looks_alone :
      after.look_faults ≢ before.look_faults → (Rose out.faults out_after.faults → ⊥) → result ≡ read_fault_status
  pub read_alone :
      result ≡ read_fault_status → (after.write_faults ≡ before.write_faults) × (out_after.faults ≡ out.faults)

-- own: the tree is as it was, and no fault was counted
pub record Untouched (before after : FolderState) : Type 0 where
  pub told : after.holds ≡ before.holds
  pub looks : after.look_faults ≡ before.look_faults
  pub writes : after.write_faults ≡ before.write_faults

-- own: there is a map whose files were written up to one of them, or copies were
pub data HasStopped (words : List (List ℕ)) (tree : Tree) (told : Option Tree) : Type 0 where
  writing : (line : List ℕ) → StopsWriting words tree line told → HasStopped words tree told
  copying : StopsCopying words tree told → HasStopped words tree told

-- own: the words have no meaning, or are refused with their status, or there is no base
abbrev pub AreWrong : List (List ℕ) → Type 0
AreWrong words = (IsPlain words → ⊥) ⊎ ((why : Refusal) × CanRefuse words why × (status_of why ≡ words_status))

-- own: what each status says of the folder, of the output and of the faults
pub record Promises (words : List (List ℕ)) (before after : FolderState) (out out_after : SinkState)
    (result : ℕ) : Type 0 where
  pub statuses : (result ≡ done_status) ⊎ (result ≡ write_fault_status) ⊎ LeavesTree result
  pub kept : LeavesTree result → after.holds ≡ before.holds
  pub done : result ≡ done_status → IfSome before.holds (λ tree. IsDone words tree after.holds)
  pub copied :
      (to : List ℕ) → VendorsTo words to → result ≡ done_status
      → IfSome before.holds (λ tree. HasCopied words tree after.holds)
  pub write_fault :
      result ≡ write_fault_status
      → (after.holds ≡ before.holds) ⊎ (IfSome before.holds (λ tree. IsDone words tree after.holds)
      ⊎ IfSome before.holds (λ tree. HasStopped words tree after.holds))
  pub read : result ≡ read_fault_status → Rose before.look_faults after.look_faults
  pub write :
      result ≡ write_fault_status → Rose before.write_faults after.write_faults ⊎ Rose out.faults out_after.faults
  pub told : Tells (IsPlain words) out.got out_after.got (IfSome before.holds (λ tree. IsDone words tree after.holds))
  pub meets : IfSome before.holds (λ tree. Meets words tree before after out out_after result)
  pub shows : Shows before after out out_after result
  pub looks_later : before.look_faults ≤ after.look_faults
  pub writes_later : before.write_faults ≤ after.write_faults
  pub output_later : out.faults ≤ out_after.faults
  pub untold : before.holds ≡ None → after.holds ≡ None
  pub refused_words :
      (fault : ConfigFault) → RefusesWords words fault
      → Untouched before after × TellsRefusal (Configured fault) out out_after result
  pub not_plain :
      (IsPlain words → ⊥)
      → Untouched before after
      × ((result ≡ words_status) ⊎ ((result ≡ memory_status) ⊎ (result ≡ write_fault_status)))
  pub wrong_words : result ≡ words_status → AreWrong words
