-- What follows from how a session ends, as its caller asks for it. own.
--     AreQuiet before after source later out out_after      no count of faults rose
--     Gave text out out_after         all of this text went out
--     Answered tree input out out_after result        the session said all that is defined, or whole replies of it
--                                     and `memory`
--     ShowsFaults before after source later out out_after result      which counts of faults show in the status
--     SessionPromises before after source later out out_after result  all of this
use Rattle.std.specs.Prelude.{◌≡◌, ◌≢◌, ◌⊎◌, ◌++◌, ℕ, List, IfSome, option_map}
use Rattle.tree_spec.specs.Counts.{Rose}
use Rattle.tree_spec.specs.States.{FolderState, SourceState, SinkState}
use Rattle.tree_spec.specs.Trees.{Tree}
use Rattle.generator_spec.specs.Lines.{memory_line}
use Rattle.generator_spec.specs.Statuses.{LeavesTree, done_status, memory_status, not_reached_status}
use Rattle.generator_spec.specs.Statuses.{read_fault_status, write_fault_status}
use Rattle.session_spec.specs.SessionRuns.{SessionComesTo, RepliesTo}

pub record AreQuiet (before after : FolderState) (source later : SourceState) (out out_after : SinkState) : Type 0 where
  pub looks : Rose before.look_faults after.look_faults → ⊥
  pub input : Rose source.faults later.faults → ⊥
  pub output : Rose out.faults out_after.faults → ⊥

abbrev pub Gave : List ℕ → SinkState → SinkState → Type 0
Gave text out out_after = out_after.got ≡ option_map (λ front. front ++ text) out.got

-- own: a front of what is defined, made of the opening's line and whole replies, or of nothing, behind which memory is
-- wanting
pub record LacksMemory (tree : Tree) (input text : List ℕ) (out out_after : SinkState) (result : ℕ) : Type 0 where
  pub front : List ℕ
  pub rest : List ℕ
  pub is_front : text ≡ front ++ rest
  pub replied : RepliesTo tree input front
  pub answered : result ≡ memory_status
  pub gave : Gave (front ++ memory_line) out out_after

abbrev pub Answered : Tree → List ℕ → SinkState → SinkState → ℕ → Type 0
Answered tree input out out_after result =
    (status : ℕ) (text : List ℕ) → SessionComesTo tree input status text
    → ((result ≡ status) × Gave text out out_after) ⊎ LacksMemory tree input text out out_after result

-- own: that of looks or of the input in 4, or in 5 where the output failed too; that of the output in 5
pub record ShowsFaults (before after : FolderState) (source later : SourceState) (out out_after : SinkState)
    (result : ℕ) : Type 0 where
  pub looks : after.look_faults ≢ before.look_faults → (result ≡ read_fault_status) ⊎ (result ≡ write_fault_status)
  pub input : later.faults ≢ source.faults → (result ≡ read_fault_status) ⊎ (result ≡ write_fault_status)
  pub output : out_after.faults ≢ out.faults → result ≡ write_fault_status

-- own: what each status says of the faults, and what a session answers where none was counted
pub record SessionPromises (before after : FolderState) (source later : SourceState) (out out_after : SinkState)
    (result : ℕ) : Type 0 where
  pub statuses : (result ≡ done_status) ⊎ (result ≡ write_fault_status) ⊎ LeavesTree result
  pub other : result ≢ not_reached_status
  pub kept : (after.holds ≡ before.holds) × (after.write_faults ≡ before.write_faults)
  pub read :
      result ≡ read_fault_status → Rose before.look_faults after.look_faults ⊎ Rose source.faults later.faults
  pub write : result ≡ write_fault_status → Rose out.faults out_after.faults
  pub shows : ShowsFaults before after source later out out_after result
  pub answers :
      AreQuiet before after source later out out_after
      → IfSome before.holds (λ tree. IfSome source.left (λ input. Answered tree input out out_after result))
