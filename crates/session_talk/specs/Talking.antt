-- Where the replies of a session stand, and how they end.
--     Now                             all that a turn changes: who edits, what waits, the changes since a `begin`, the
--                                     source and the sink
--     done_of editor showings         what is done, where this was shown
--     StandsAt opened state taken text showings now       of these bytes all that doesn't wait is read, this text is
--                                     replied, and this was shown; opened: what was done at first
--     Looks first input asked         the folder was asked for paths alone at which edits look to which this input
--                                     comes
--     MadeAt taken edits now          the lines of these bytes that don't wait make so many edits
--     MadeBefore order taken edits now        so, but the last line that is read isn't obeyed yet
--     Goes Stands Made first now      so far nothing failed, and it stands so; so many edits were made
--     OrderedAt opened number order state taken text showings now     so, but the last line that is read isn't obeyed
--                                     yet
--     GoesOn first now, IsOrdered number order first now      so far nothing failed, and it stands in one of both ways
--     RepliesFront state taken text   the text is replies to lines of these bytes, as far as the limit allows
--     RepliesAll state taken text     so, to each line that stands whole in them
--     DoesFor first input replied editor      what was done for this input, to which this was replied
--     IsLastLine status line          a line with which a session ends, and its exit status
--     IsShaped replied status text    such a line behind what was replied
--     Says first editor source taken replied status text     why replies end with this status and text
--     Stops first editor source out taken replied result     all of the text went out, or the sink failed
--     Converses first editor source out result       what is promised of replies to an input
--     GivesReply reply out after result              a reply went out, or the sink failed
--     TellsEnd status line out after result          the last line is told, or that memory is wanting
--     Makes before edit out after out_after result   an edit is made and replied to, or something failed
--     ShowsMap editor out after result               the map is the reply
--     Turns first editor waiting held source out result      behind a turn it goes on, or the session ends
use Rattle.std.specs.Prelude.{◌≡◌, ◌≤◌, ◌⊎◌, ◌+◌, ◌*◌, ◌++◌, [], ℕ, List, length, take}
use Rattle.std.specs.Prelude.{Option, Some, None, IfSome, option_map}
use Rattle.tree_spec.specs.Counts.{Rose}
use Rattle.tree_spec.specs.Limits.{limit_number}
use Rattle.tree_spec.specs.States.{SourceState, SinkState}
use Rattle.tree_spec.specs.declared.LimitName.TheVariants.{Session}
use Rattle.generator_spec.specs.Ending.{Ends, Gives}
use Rattle.generator_spec.specs.Lines.{memory_line, read_fault_line, limit_line}
use Rattle.generator_spec.specs.Statuses.{done_status, file_status, limit_status}
use Rattle.generator_spec.specs.Statuses.{memory_status, read_fault_status, write_fault_status}
use Rattle.session_spec.specs.declared.Change.{Change}
use Rattle.session_spec.specs.Conversations.{Answers, stops, map_reply, end_reply, bad_line}
use Rattle.session_spec.specs.SessionDoings.{SeesMore, MayShow, Done, Does, EditsDo}
use Rattle.session_spec.specs.SessionLines.{Order, Rest, reads, read_line}
use Rattle.session_spec.specs.SessionLooks.{IsTriedLook}
use Rattle.session_spec.specs.SessionStates.{SessionState}
use Rattle.session_spec.specs.SessionSteps.{MakesEdits, SpendsFor, most_steps}
use Rattle.session_spec.specs.Showings.{Shown}
use Rattle.session_spec.specs.TakenInput.{Takes, LeavesOpen, IsAwaited}
use Rattle.session_spec.specs.Talks.{Standing, begun, turn_of, Talks}
use Rattle.session_input.specs.Readers.{Waiting}
use Rattle.session_talk.specs.Editors.{EditorState, AsksFor, EditsTold, EditsLook, EditSpends, Shows}

pub record Now : Type 0 where
  pub editor : EditorState
  pub waiting : Waiting
  pub held : Option (List Change)
  pub source : SourceState
  pub out : SinkState

abbrev pub done_of : EditorState → List (List Shown) → Done
done_of editor showings = record { spent = editor.spent; display = editor.display; showings = showings }

abbrev pub now_at : EditorState → Waiting → Option (List Change) → SourceState → SinkState → Now
now_at editor waiting held source out =
    record { editor = editor; waiting = waiting; held = held; source = source; out = out }

-- ---- standing

pub record StandsAt (opened : Done) (state : SessionState) (taken text : List ℕ) (showings : List (List Shown))
    (now : Now) : Type 0 where
  pub at : Standing
  pub talks : Talks (begun state taken) text at
  pub does : Does state taken opened at text (done_of now.editor showings)
  pub told : now.editor.told ≡ Some at.state
  pub number : now.waiting.number ≡ at.number
  pub held : now.held ≡ at.held
  pub input : now.waiting.unread ≡ at.input

pub record OrderedAt (opened : Done) (number : ℕ) (order : Order) (state : SessionState) (taken text : List ℕ)
    (showings : List (List Shown)) (now : Now) : Type 0 where
  pub at : Standing
  pub talks : Talks (begun state taken) text at
  pub does : Does state taken opened at text (done_of now.editor showings)
  pub told : now.editor.told ≡ Some at.state
  pub line : number ≡ at.number
  pub held : now.held ≡ at.held
  pub rest : Rest
  pub order_is : read_line at.input ≡ reads order rest
  pub number_is : now.waiting.number ≡ at.number + rest.lines
  pub input : now.waiting.unread ≡ rest.behind

abbrev pub Looks : Now → List ℕ → Option (List (List ℕ)) → Type 0
Looks first input asked =
    IfSome first.editor.told (λ state. IfSome first.editor.asked (λ old. AsksFor (IsTriedLook state input) old asked))

abbrev pub MadeAt : List ℕ → ℕ → Now → Type 0
MadeAt taken edits now = MakesEdits taken edits now.held now.waiting.unread

pub record MadeBefore (order : Order) (taken : List ℕ) (edits : ℕ) (now : Now) : Type 0 where
  pub from : List ℕ
  pub made : MakesEdits taken edits now.held from
  pub rest : Rest
  pub order_is : read_line from ≡ reads order rest
  pub input : now.waiting.unread ≡ rest.behind

pub record Goes (Stands : SessionState → List ℕ → List ℕ → List (List Shown) → Type 0) (Made : List ℕ → ℕ → Type 0)
    (first now : Now) : Type 0 where
  pub taken : List ℕ
  pub takes : Takes first.source taken now.source
  pub limit : first.waiting.room ≡ limit_number Session
  pub room : first.waiting.room ≡ length taken + now.waiting.room
  pub awaited : IsAwaited first.source taken now.source
  pub text : List ℕ
  pub said : now.out.got ≡ option_map (λ front. front ++ text) first.out.got
  pub showings : List (List Shown)
  pub sees : SeesMore first.editor.seen showings now.editor.seen
  pub stands : IfSome first.editor.told (λ state. Stands state taken text showings)
  pub looks : Looks first taken now.editor.asked
  pub edits : ℕ
  pub made : Made taken edits
  pub steps : now.editor.spent ≤ first.editor.spent + edits * most_steps
  pub untold : first.editor.told ≡ None → now.editor.told ≡ None
  pub quiet_editor : now.editor.faults ≡ first.editor.faults
  pub quiet_source : now.source.faults ≡ first.source.faults
  pub quiet_out : now.out.faults ≡ first.out.faults

abbrev pub GoesOn : Now → Now → Type 0
GoesOn first now =
    Goes (λ state taken text showings. StandsAt (done_of first.editor []) state taken text showings now)
    (λ taken edits. MadeAt taken edits now) first now

abbrev pub IsOrdered : ℕ → Order → Now → Now → Type 0
IsOrdered number order first now =
    Goes (λ state taken text showings. OrderedAt (done_of first.editor []) number order state taken text showings now)
    (λ taken edits. MadeBefore order taken edits now) first now

-- ---- ends

pub record RepliesFront (state : SessionState) (taken text : List ℕ) : Type 0 where
  pub later : Standing
  pub talks : Talks (begun state (take (limit_number Session) taken)) text later

pub record RepliesAll (state : SessionState) (taken text : List ℕ) : Type 0 where
  pub later : Standing
  pub talks : Talks (begun state (take (limit_number Session) taken)) text later
  pub waits : turn_of later ≡ stops

pub record DoesFor (first : Now) (input replied : List ℕ) (editor : EditorState) : Type 0 where
  pub most : SpendsFor input first.editor.spent editor.spent
  pub showings : List (List Shown)
  pub sees : SeesMore first.editor.seen showings editor.seen
  pub does :
      IfSome first.editor.told (λ state.
      EditsDo state input (done_of first.editor []) replied editor.spent showings)

pub record IsQuiet (first : Now) (editor : EditorState) (source : SourceState) : Type 0 where
  pub editor_is : editor.faults ≡ first.editor.faults
  pub source_is : source.faults ≡ first.source.faults

pub data IsLastLine : ℕ → List ℕ → Type 0 where
  at_end : IsLastLine done_status end_reply
  at_line : (number : ℕ) → IsLastLine file_status (bad_line number)
  at_limit : IsLastLine limit_status (limit_line Session)

-- own: status and text belong together, whatever is told
pub record IsShaped (replied : List ℕ) (status : ℕ) (text : List ℕ) : Type 0 where
  pub last : List ℕ
  pub whole : text ≡ replied ++ last
  pub is_last : IsLastLine status last

pub data Says (first : Now) (editor : EditorState) (source : SourceState) (taken replied : List ℕ) (status : ℕ)
    (text : List ℕ) : Type 0 where
  outcome :
      IsShaped replied status text → IsQuiet first editor source
      → IfSome first.editor.told (λ state. Answers state taken text status)
      → IfSome first.editor.told (λ state. IfSome first.source.left (λ input. Answers state input text status))
      → Says first editor source taken replied status text
  memory :
      IsQuiet first editor source → IfSome first.editor.told (λ state. RepliesFront state taken replied)
      → status ≡ memory_status → text ≡ replied ++ memory_line → Says first editor source taken replied status text
  look_fault :
      Rose first.editor.faults editor.faults → source.faults ≡ first.source.faults
      → IfSome first.editor.told (λ state. RepliesFront state taken replied)
      → status ≡ read_fault_status → text ≡ replied ++ read_fault_line
      → Says first editor source taken replied status text
  take_fault :
      LeavesOpen taken → editor.faults ≡ first.editor.faults → Rose first.source.faults source.faults
      → IfSome first.editor.told (λ state. RepliesAll state taken replied) → status ≡ read_fault_status
      → text ≡ replied ++ read_fault_line → Says first editor source taken replied status text

pub data Stops (first : Now) (editor : EditorState) (source : SourceState) (out : SinkState) (taken replied : List ℕ)
    (result : ℕ) : Type 0 where
  said :
      (status : ℕ) (text : List ℕ) → Says first editor source taken replied status text
      → Ends status text first.out out result → Stops first editor source out taken replied result
  cut_off :
      IsQuiet first editor source → IfSome first.editor.told (λ state. RepliesFront state taken replied)
      → result ≡ write_fault_status → Gives first.out.got out.got replied → Rose first.out.faults out.faults
      → Stops first editor source out taken replied result

pub record Converses (first : Now) (editor : EditorState) (source : SourceState) (out : SinkState)
    (result : ℕ) : Type 0 where
  pub taken : List ℕ
  pub takes : Takes first.source taken source
  pub few : length taken ≤ limit_number Session + 1
  pub awaited : IsAwaited first.source taken source
  pub looks : Looks first (take (limit_number Session) taken) editor.asked
  pub replied : List ℕ
  pub done : DoesFor first (take (limit_number Session) taken) replied editor
  pub stops : Stops first editor source out taken replied result

-- ---- what a turn gives out

pub record Gave (reply : List ℕ) (out after : SinkState) : Type 0 where
  pub got : after.got ≡ option_map (λ front. front ++ reply) out.got
  pub quiet : after.faults ≡ out.faults

pub record CutOff (reply : List ℕ) (out after : SinkState) (status : ℕ) : Type 0 where
  pub is_status : status ≡ write_fault_status
  pub gives : Gives out.got after.got reply
  pub rose : Rose out.faults after.faults

abbrev pub GivesReply : List ℕ → SinkState → SinkState → Option ℕ → Type 0
GivesReply reply out after None = Gave reply out after
GivesReply reply out after (Some status) = CutOff reply out after status

abbrev pub TellsEnd : ℕ → List ℕ → SinkState → SinkState → ℕ → Type 0
TellsEnd status line out after result =
    Ends status line out after result ⊎ Ends memory_status memory_line out after result

pub data Makes (before : EditorState) (edit : List Change) (out : SinkState) (after : EditorState)
    (out_after : SinkState) (result : Option ℕ) : Type 0 where
  replied :
      (line : List ℕ) (showings : List (List Shown)) → SeesMore before.seen showings after.seen
      → EditsTold before edit line showings after → EditsLook before edit after → EditSpends before edit after
      → GivesReply line out out_after result → Makes before edit out after out_after result
  fails :
      (status : ℕ) (showings : List (List Shown)) → SeesMore before.seen showings after.seen
      → IfSome before.told (λ state. MayShow state edit before.display showings)
      → result ≡ Some status → Rose before.faults after.faults → EditsLook before edit after
      → EditSpends before edit after → Ends read_fault_status read_fault_line out out_after status
      → Makes before edit out after out_after result
  wants :
      (status : ℕ) (showings : List (List Shown)) → SeesMore before.seen showings after.seen
      → IfSome before.told (λ state. MayShow state edit before.display showings)
      → result ≡ Some status → after.faults ≡ before.faults → EditsLook before edit after
      → EditSpends before edit after → Ends memory_status memory_line out out_after status
      → Makes before edit out after out_after result

pub data ShowsMap (editor : EditorState) (out after : SinkState) (result : Option ℕ) : Type 0 where
  shown :
      (map : List ℕ) → Shows editor map → GivesReply (map_reply map) out after result
      → ShowsMap editor out after result
  lost :
      (status : ℕ) → result ≡ Some status → Ends memory_status memory_line out after status
      → ShowsMap editor out after result

abbrev pub Turns : Now → EditorState → Waiting → Option (List Change) → SourceState → SinkState → Option ℕ → Type 0
Turns first editor waiting held source out None = GoesOn first (now_at editor waiting held source out)
Turns first editor waiting held source out (Some status) = Converses first editor source out status
