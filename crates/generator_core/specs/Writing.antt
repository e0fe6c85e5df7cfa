-- What the end of a command does.
--     WritesFiles files before done after      the files were written, or the write of one failed
--     SaysWrite before after files done status line      what is said of the writes of the files
--     TellsWords fault out out_after result      it is told why the words are refused
--     TellsStop stop out out_after result      it is told why nothing is written
--     EndsWriting prepared before after out out_after result      the file is written or not, and what is said went out
use Rattle.std.specs.Prelude.{◌≡◌, ◌≤◌, ◌<◌, ℕ, Bool, true, false, List, length, take, Option, None, IfSome}
use Rattle.tree_spec.specs.Trees.{Tree}
use Rattle.tree_spec.specs.Counts.{Rose}
use Rattle.tree_spec.specs.States.{FolderState, SinkState}
use Rattle.generator_spec.specs.declared.Refusal.TheVariants.{Config as Configured}
use Rattle.generator_spec.specs.Statuses.{done_status, words_status, read_fault_status, write_fault_status}
use Rattle.generator_spec.specs.Statuses.{memory_status}
use Rattle.generator_spec.specs.Lines.{counts_line, memory_line, read_fault_line, write_fault_line}
use Rattle.generator_spec.specs.Commands.{NewFile}
use Rattle.generator_spec.specs.Ending.{AreWritten, Ends, TellsRefusal}
use Rattle.command_words.specs.declared.fault.WordsFault.{WordsFault}
use Rattle.command_words.specs.declared.fault.WordsFault.TheVariants.{Told, NotPlain}
use Rattle.command_words.specs.declared.fault.WordsFault.TheVariants as words
use Rattle.generation.specs.declared.stop.Stop.{Stop}
use Rattle.generation.specs.declared.stop.Stop.TheVariants.{Refused, ReadFault, Memory}
use Rattle.generator_core.specs.Preparing.{shown_files}
use Rattle.generator_core.specs.declared.prepared.Prepared.{Prepared}

-- so many files were written
pub record AreSome (files : List NewFile) (tree : Tree) (told : Option Tree) : Type 0 where
  pub count : ℕ
  pub fewer : count < length files
  pub written : AreWritten tree (take count files) told

-- what a write leaves alone
pub record IsWriting (before after : FolderState) : Type 0 where
  pub untold : before.holds ≡ None → after.holds ≡ None
  pub asked : after.asked ≡ before.asked
  pub looks : after.look_faults ≡ before.look_faults
  pub later : before.write_faults ≤ after.write_faults

pub data WritesFiles (files : List NewFile) (before : FolderState) (done : Bool) (after : FolderState) : Type 0 where
  all :
      done ≡ true → IfSome before.holds (λ tree. AreWritten tree files after.holds)
      → after.write_faults ≡ before.write_faults → IsWriting before after → WritesFiles files before done after
  some :
      done ≡ false → IfSome before.holds (λ tree. AreSome files tree after.holds)
      → Rose before.write_faults after.write_faults → IsWriting before after → WritesFiles files before done after

pub data SaysWrite (before after : FolderState) (files : List NewFile) (done : List ℕ) (status : ℕ)
    (line : List ℕ) : Type 0 where
  written :
      status ≡ done_status → line ≡ done → IfSome before.holds (λ tree. AreWritten tree files after.holds)
      → after.write_faults ≡ before.write_faults → SaysWrite before after files done status line
  write_fault :
      status ≡ write_fault_status → line ≡ write_fault_line
      → IfSome before.holds (λ tree. AreSome files tree after.holds)
      → Rose before.write_faults after.write_faults → SaysWrite before after files done status line
  memory :
      status ≡ memory_status → line ≡ memory_line → after.holds ≡ before.holds
      → after.write_faults ≡ before.write_faults → SaysWrite before after files done status line

-- words that have no meaning are answered with some text
pub data TellsNoMeaning (out out_after : SinkState) (result : ℕ) : Type 0 where
  text : (text : List ℕ) → Ends words_status text out out_after result → TellsNoMeaning out out_after result

abbrev pub TellsWords : WordsFault → SinkState → SinkState → ℕ → Type 0
TellsWords (Told said) out out_after result = TellsNoMeaning out out_after result
TellsWords NotPlain out out_after result = TellsNoMeaning out out_after result
TellsWords (words.Refused fault) out out_after result = TellsRefusal (Configured fault) out out_after result
TellsWords words.Memory out out_after result = Ends memory_status memory_line out out_after result

-- want of memory may take the place of a refusal, but not of a look that failed
abbrev pub TellsStop : Stop → SinkState → SinkState → ℕ → Type 0
TellsStop (Refused why) out out_after result = TellsRefusal why out out_after result
TellsStop ReadFault out out_after result = Ends read_fault_status read_fault_line out out_after result
TellsStop Memory out out_after result = Ends memory_status memory_line out out_after result

pub record EndsWriting (prepared : Prepared) (before after : FolderState) (out out_after : SinkState)
    (result : ℕ) : Type 0 where
  pub status : ℕ
  pub line : List ℕ
  pub says :
      SaysWrite before after (shown_files prepared)
      (counts_line prepared.modules prepared.requests prepared.mappings) status line
  pub ends : Ends status line out out_after result
  pub untold : before.holds ≡ None → after.holds ≡ None
  pub asked : after.asked ≡ before.asked
  pub looks : after.look_faults ≡ before.look_faults
  pub writes : before.write_faults ≤ after.write_faults
  pub output : out.faults ≤ out_after.faults
