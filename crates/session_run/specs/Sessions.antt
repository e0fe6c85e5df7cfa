-- What a session comes to.
--     fresh                           what waits where nothing was taken yet
--     TalksOn before source out after later gone result       replies to the lines of an input, from the first on
--     RefusedEnds stop out gone result        it is said why no session is opened
--     OpensLine session out middle    what is generated is said
--     ShownEnds session before after source later out gone seen seen_after result spent spent_after
--                                     a session that is shown says what is generated, and replies to the lines of an
--                                     input
--     OpenedEnds session before after source later out gone seen seen_after result spent spent_after
--                                     a session that is opened is shown, and then so; or there is no memory for that
--     HoldsSession before after source later out gone seen seen_after result spent spent_after
--                                     a session ends, and from its opening on the folder was asked for no path twice
use Rattle.std.specs.Prelude.{◌≡◌, ◌++◌, [], ℕ, List, Option, None, IfSome, option_map}
use Rattle.tree_spec.specs.Counts.{Rose}
use Rattle.tree_spec.specs.Limits.{limit_number}
use Rattle.tree_spec.specs.States.{FolderState, SourceState, SinkState}
use Rattle.tree_spec.specs.declared.LimitName.TheVariants.{Session}
use Rattle.generation.specs.declared.stop.Stop.{Stop}
use Rattle.generation.specs.declared.stop.Stop.TheVariants as stop
use Rattle.generator_spec.specs.Ending.{Ends, Gives, TellsRefusal}
use Rattle.generator_spec.specs.Lines.{memory_line, read_fault_line}
use Rattle.generator_spec.specs.Statuses.{memory_status, read_fault_status, write_fault_status}
use Rattle.session_spec.specs.Replies.{accepted_line}
use Rattle.session_spec.specs.SessionLooks.{AsksFresh}
use Rattle.session_spec.specs.SessionRuns.{SessionEnds}
use Rattle.session_spec.specs.Showings.{Shown}
use Rattle.session_watch.specs.Seen.{Grows}
use Rattle.session_input.specs.Readers.{Waiting}
use Rattle.edit_session.specs.SessionTrees.{shown_counts, showing_in}
use Rattle.edit_session.specs.declared.session.Session.{Session as Opened}
use Rattle.session_talk.specs.EditorLooks.{AsksSome}
use Rattle.session_talk.specs.Editors.{EditorState, Seen}
use Rattle.session_talk.specs.Talking.{now_at, Converses}
use Rattle.session_run.specs.Editing.{IsViewOf, look_state}

abbrev pub fresh : Waiting
fresh = record { unread = []; number = 1; room = limit_number Session }

abbrev pub TalksOn : EditorState → SourceState → SinkState → EditorState → SourceState → SinkState → ℕ → Type 0
TalksOn before source out after later gone result =
    Converses (now_at before fresh None source out) after later gone result

abbrev pub RefusedEnds : Stop → SinkState → SinkState → ℕ → Type 0
RefusedEnds (stop.Refused why) out gone result = TellsRefusal why out gone result
RefusedEnds stop.ReadFault out gone result = Ends read_fault_status read_fault_line out gone result
RefusedEnds stop.Memory out gone result = Ends memory_status memory_line out gone result

abbrev pub opened_line : Opened → List ℕ
opened_line session = accepted_line (shown_counts session)

-- own: before anything is taken memory is wanting, or the sink fails; or all of the line goes out, and then replies do
pub data ShownEnds (session : Opened) (before after : FolderState) (source later : SourceState) (out gone : SinkState)
    (seen seen_after : Option (List (List Shown))) (result spent spent_after : ℕ) : Type 0 where
  wants :
      after ≡ before → later ≡ source → seen_after ≡ seen → spent_after ≡ spent
      → Ends memory_status memory_line out gone result
      → ShownEnds session before after source later out gone seen seen_after result spent spent_after
  cut_off :
      after ≡ before → later ≡ source → seen_after ≡ seen → spent_after ≡ spent → result ≡ write_fault_status
      → Gives out.got gone.got (opened_line session) → Rose out.faults gone.faults
      → ShownEnds session before after source later out gone seen seen_after result spent spent_after
  replies :
      (middle : SinkState) (closed : Opened) → middle.got ≡ option_map (λ front. front ++ opened_line session) out.got
      → middle.faults ≡ out.faults
      → ((view : EditorState) → IsViewOf before session seen spent view
      → Seen (IsViewOf after closed seen_after spent_after) (λ last. TalksOn view source middle last later gone result))
      → AsksSome (look_state [] before session) (look_state [] after closed)
      → ShownEnds session before after source later out gone seen seen_after result spent spent_after

pub data OpenedEnds (session : Opened) (before after : FolderState) (source later : SourceState) (out gone : SinkState)
    (seen seen_after : Option (List (List Shown))) (result spent spent_after : ℕ) : Type 0 where
  unshown :
      after ≡ before → later ≡ source → seen_after ≡ seen → spent_after ≡ spent
      → Ends memory_status memory_line out gone result
      → OpenedEnds session before after source later out gone seen seen_after result spent spent_after
  shown :
      (middle : Option (List (List Shown))) → Grows seen middle (showing_in session)
      → ShownEnds session before after source later out gone middle seen_after result spent spent_after
      → OpenedEnds session before after source later out gone seen seen_after result spent spent_after

pub record HoldsSession (before after : FolderState) (source later : SourceState) (out gone : SinkState)
    (seen seen_after : Option (List (List Shown))) (result spent spent_after : ℕ) : Type 0 where
  pub ends : SessionEnds before after source later out gone seen seen_after result spent spent_after
  pub fresh : IfSome before.asked (λ old. AsksFresh before.holds ends.taken old after)
