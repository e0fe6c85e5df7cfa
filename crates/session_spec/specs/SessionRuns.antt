-- A whole session, as it is opened, and what is promised of it. own.
--     SessionComesTo tree input status text     what a session on this tree says to this input, and its exit status
--     RepliesTo tree taken text       the line of the opening and replies to lines of these bytes, as far as the limit
--                                     allows, or nothing yet
--     RepliesToAll tree taken text    so, to each line that stands whole in them
--     IsStanding tree taken text at   where a session stands that took these bytes and said this
--     StatesServe tree input          each map that such a session can show serves the tree and config of its state
--     IsAnswerShaped replied status text      status and text belong together, whatever the folder tells, of a session
--                                     that is opened; replied: all that is said before the last line
--     IsRefusalShaped status text     and of one that isn't
--     IsSessionShaped source taken later front status text        either is so, and no take is made for a session that
--                                     isn't opened
--     IsFrontShaped source taken later text   the line of an opening and then any replies; or nothing is said, and no
--                                     take is made
--     SessionSays before after source later taken replied status text      why a session that replied this ends with
--                                     this status and this text
--     SessionStops before after source later taken replied out out_after result      all of the text went out, or the
--                                     sink failed and that ended the session
--     SessionEnds before after source later out out_after seen seen_after result spent spent_after    all that is
--                                     promised of a session, whatever folder, source and sink do; seen: what its watch
--                                     was shown, where it is told
use Rattle.std.specs.Prelude.{◌≡◌, ◌≤◌, ◌⊎◌, ◌+◌, ◌++◌, [], ℕ, List, length, take, Option, IfSome}
use Rattle.tree_spec.specs.Counts.{Rose}
use Rattle.tree_spec.specs.Limits.{limit_number}
use Rattle.tree_spec.specs.States.{FolderState, SourceState, SinkState}
use Rattle.tree_spec.specs.Trees.{Tree}
use Rattle.tree_spec.specs.declared.LimitName.TheVariants.{Session}
use Rattle.generator_spec.specs.Ending.{CanRefuse, Ends, Gives}
use Rattle.generator_spec.specs.Lines.{status_of, line_of, limit_line, memory_line, read_fault_line}
use Rattle.generator_spec.specs.Outcome.{RefusesRun}
use Rattle.generator_spec.specs.Serves.{Serves, KnowsModules, IsSmallest}
use Rattle.generator_spec.specs.Statuses.{done_status, file_status, limit_status, memory_status, read_fault_status}
use Rattle.generator_spec.specs.Statuses.{write_fault_status}
use Rattle.generator_spec.specs.declared.Refusal.{Refusal}
use Rattle.session_spec.specs.Conversations.{Answers, stops, end_reply, bad_line}
use Rattle.session_spec.specs.Openings.{refresh_words, OpensAt, CanOpen, opening_line}
use Rattle.session_spec.specs.Replies.{accepted_line}
use Rattle.session_spec.specs.SessionDoings.{SeesMore, SessionDoes}
use Rattle.session_spec.specs.SessionLooks.{AsksWithin}
use Rattle.session_spec.specs.SessionSteps.{SessionSpends}
use Rattle.session_spec.specs.SessionStates.{Counts, SessionState, IsGenerated}
use Rattle.session_spec.specs.Showings.{Shown}
use Rattle.session_spec.specs.Talks.{Standing, begun, turn_of, Talks}
use Rattle.session_spec.specs.TakenInput.{Takes, NoTake, LeavesOpen, IsAwaited}

-- ---- what is said

-- own: what would be refused anew isn't opened, and no input is read then; else each line is answered behind the line
-- of the opening
pub data SessionComesTo (tree : Tree) (input : List ℕ) : ℕ → List ℕ → Type 0 where
  refused :
      (why : Refusal) → RefusesRun refresh_words tree why → SessionComesTo tree input (status_of why) (line_of why)
  replied :
      (state : SessionState) (status : ℕ) (out : List ℕ) → OpensAt tree state → Answers state input out status
      → SessionComesTo tree input status (opening_line state ++ out)

-- own: at most 268,435,456 bytes of the input are read
pub data RepliesTo (tree : Tree) (taken : List ℕ) : List ℕ → Type 0 where
  unopened : RepliesTo tree taken []
  opened :
      (state : SessionState) (out : List ℕ) (later : Standing) → OpensAt tree state
      → Talks (begun state (take (limit_number Session) taken)) out later
      → RepliesTo tree taken (opening_line state ++ out)

pub data RepliesToAll (tree : Tree) (taken : List ℕ) : List ℕ → Type 0 where
  opened :
      (state : SessionState) (out : List ℕ) (later : Standing) → OpensAt tree state
      → Talks (begun state (take (limit_number Session) taken)) out later → turn_of later ≡ stops
      → RepliesToAll tree taken (opening_line state ++ out)

-- own: of these bytes all but its input are read, and this text is replied
pub record IsStanding (tree : Tree) (taken text : List ℕ) (at : Standing) : Type 0 where
  pub state : SessionState
  pub opens : OpensAt tree state
  pub out : List ℕ
  pub talks : Talks (begun state taken) out at
  pub said : text ≡ opening_line state ++ out

-- ---- what is shown

pub record StateServes (state : SessionState) : Type 0 where
  pub serves : Serves state.tree state.config state.map
  pub knows : KnowsModules state.tree state.config state.map
  pub smallest : IsSmallest state.tree state.config state.map

-- own: wherever the session stands, its map is generated for its tree and config and leads each request to its file,
-- with the digest of each module's file; no map that does so without keys that end in `/` has fewer mappings
abbrev pub StatesServe : Tree → List ℕ → Type 0
StatesServe tree input =
    (state : SessionState) (out : List ℕ) (later : Standing) → OpensAt tree state → Talks (begun state input) out later
    → IsGenerated later.state.tree later.state.config later.state.map later.state.counts × StateServes later.state

-- ---- how it ends

abbrev pub NoFault : FolderState → FolderState → SourceState → SourceState → Type 0
NoFault before after source later =
    (after.look_faults ≡ before.look_faults) × (later.faults ≡ source.faults)

-- own: an opening's line, and then any replies
pub record IsOpenedText (text : List ℕ) : Type 0 where
  pub counts : Counts
  pub replies : List ℕ
  pub says : text ≡ accepted_line counts ++ replies

-- own: behind the line of the opening and replies stands the reply to `end`, the line of a line that has no meaning or
-- stands in the wrong place, or that of the limit
pub data IsAnswerShaped (replied : List ℕ) (status : ℕ) (text : List ℕ) : Type 0 where
  ended :
      IsOpenedText replied → status ≡ done_status → text ≡ replied ++ end_reply → IsAnswerShaped replied status text
  refused_line :
      (number : ℕ) → IsOpenedText replied → status ≡ file_status → text ≡ replied ++ bad_line number
      → IsAnswerShaped replied status text
  too_long :
      IsOpenedText replied → status ≡ limit_status → text ≡ replied ++ limit_line Session
      → IsAnswerShaped replied status text

-- own: nothing was opened, and all is a refusal that `refresh` can have
pub record IsRefusalShaped (status : ℕ) (text : List ℕ) : Type 0 where
  pub why : Refusal
  pub can : CanRefuse refresh_words why
  pub ends : status ≡ status_of why
  pub says : text ≡ line_of why

-- own: nothing was replied
pub record IsClosed (source : SourceState) (taken : List ℕ) (later : SourceState) (replied : List ℕ) : Type 0 where
  pub untaken : NoTake source taken later
  pub nothing : replied ≡ []

abbrev pub IsSessionShaped : SourceState → List ℕ → SourceState → List ℕ → ℕ → List ℕ → Type 0
IsSessionShaped source taken later front status text =
    IsAnswerShaped front status text ⊎ (IsClosed source taken later front × IsRefusalShaped status text)

abbrev pub IsFrontShaped : SourceState → List ℕ → SourceState → List ℕ → Type 0
IsFrontShaped source taken later front = IsOpenedText front ⊎ IsClosed source taken later front

-- own: the session says what is defined, and no fault was counted; or there is want of memory, or a fault that was
-- counted, behind the line of the opening and whole replies, or behind nothing. Where a take fails, no line in the
-- bytes that were taken ends the session, and each that stands whole there was answered
pub data SessionSays (before after : FolderState) (source later : SourceState) (taken replied : List ℕ) (status : ℕ)
    (text : List ℕ) : Type 0 where
  outcome :
      IsSessionShaped source taken later replied status text → NoFault before after source later
      → IfSome before.holds (λ tree. SessionComesTo tree taken status text)
      → IfSome before.holds (λ tree. IfSome source.left (λ input. SessionComesTo tree input status text))
      → SessionSays before after source later taken replied status text
  memory :
      IsFrontShaped source taken later replied → NoFault before after source later
      → IfSome before.holds (λ tree. RepliesTo tree taken replied) → status ≡ memory_status
      → text ≡ replied ++ memory_line → SessionSays before after source later taken replied status text
  look_fault :
      IsFrontShaped source taken later replied → Rose before.look_faults after.look_faults
      → later.faults ≡ source.faults → IfSome before.holds (λ tree. RepliesTo tree taken replied)
      → status ≡ read_fault_status
      → text ≡ replied ++ read_fault_line → SessionSays before after source later taken replied status text
  take_fault :
      IsOpenedText replied → LeavesOpen taken → after.look_faults ≡ before.look_faults
      → Rose source.faults later.faults → IfSome before.holds (λ tree. RepliesToAll tree taken replied)
      → status ≡ read_fault_status
      → text ≡ replied ++ read_fault_line → SessionSays before after source later taken replied status text

-- own: where the sink fails, a front of the text went out, or of what was replied until then, with the reply that was
-- cut off
pub data SessionStops (before after : FolderState) (source later : SourceState) (taken replied : List ℕ)
    (out out_after : SinkState) (result : ℕ) : Type 0 where
  said :
      (status : ℕ) (text : List ℕ) → SessionSays before after source later taken replied status text
      → Ends status text out out_after result
      → SessionStops before after source later taken replied out out_after result
  cut_off :
      IsOpenedText replied → NoFault before after source later
      → IfSome before.holds (λ tree. RepliesTo tree taken replied) → result ≡ write_fault_status
      → Gives out.got out_after.got replied → Rose out.faults out_after.faults
      → SessionStops before after source later taken replied out out_after result

-- own: nothing is written. What the watch saw, where it is told, grows by what the session showed
pub record SessionEnds (before after : FolderState) (source later : SourceState) (out out_after : SinkState)
    (seen seen_after : Option (List (List Shown))) (result spent spent_after : ℕ) : Type 0 where
  pub tree : after.holds ≡ before.holds
  pub writes : after.write_faults ≡ before.write_faults
  pub looks_later : before.look_faults ≤ after.look_faults
  pub output_later : out.faults ≤ out_after.faults
  pub taken : List ℕ
  pub takes : Takes source taken later
  pub few : length taken ≤ limit_number Session + 1
  pub awaited : IsAwaited source taken later
  pub opened : IfSome before.holds (λ tree. NoTake source taken later ⊎ CanOpen tree)
  pub asked : IfSome before.asked (λ old. AsksWithin before.holds taken old after)
  pub steps : SessionSpends taken spent spent_after
  pub replied : List ℕ
  pub showings : List (List Shown)
  pub sees : SeesMore seen showings seen_after
  pub does : IfSome before.holds (λ tree. SessionDoes tree taken spent replied spent_after showings)
  pub stops : SessionStops before after source later taken replied out out_after result
  pub serves : IfSome before.holds (λ tree. StatesServe tree taken)
