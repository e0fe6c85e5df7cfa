-- The laws of sessions. Each is the contract of a function of this crate.
use Rattle.std.specs.FinMap.{get}
use Rattle.std.specs.Prelude.{◌≡◌, ◌≤◌, ◌<◌, ◌⊎◌, ◌++◌, ◌∷◌, [], ⊤, ℕ, true, List, length, flat_map}
use Rattle.std.specs.Prelude.{Bool, Option, Some, Ok, Err, All}
use Rattle.tree_spec.specs.Limits.{limit_number}
use Rattle.tree_spec.specs.Paths.{IsPath}
use Rattle.tree_spec.specs.States.{FolderState, SourceState, SinkState}
use Rattle.tree_spec.specs.Trees.{Tree, IsTree, Places}
use Rattle.tree_spec.specs.declared.Entry.TheVariants.{Stored}
use Rattle.tree_spec.specs.declared.LimitName.TheVariants.{Session}
use Rattle.generator_spec.specs.Lines.{limit_line}
use Rattle.generator_spec.specs.Statuses.{done_status, file_status, limit_status}
use Rattle.session_spec.specs.declared.Change.{Change}
use Rattle.session_spec.specs.declared.Change.TheVariants.{Link, Unlink, Put, Drop}
use Rattle.session_spec.specs.declared.EditFault.{EditFault}
use Rattle.session_spec.specs.Conversations.{Answers, ends, refuses, stops, end_reply, bad_line}
use Rattle.session_spec.specs.EditFaults.{CanRefuseEdit}
use Rattle.session_spec.specs.Edits.{Draft, can_put, put_file, edited, then_edited}
use Rattle.session_spec.specs.Replies.{IsRefused, Replies, IsAccepted, Leads, AllAccepted}
use Rattle.session_spec.specs.SessionDoings.{Done, Does, EditsDo, anew_to_end, IsOpening}
use Rattle.session_spec.specs.SessionLooks.{IsTried, IsSessionLook}
use Rattle.session_spec.specs.Openings.{OpensAt, CanOpen}
use Rattle.session_spec.specs.SessionPromises.{SessionPromises}
use Rattle.session_spec.specs.SessionRuns.{SessionComesTo, RepliesTo, RepliesToAll, IsStanding, SessionEnds}
use Rattle.session_spec.specs.SessionRuns.{IsAnswerShaped, IsRefusalShaped}
use Rattle.session_spec.specs.SessionStates.{SessionState, draft_of, config_with, IsCurrent}
use Rattle.session_spec.specs.Showings.{Shown}
use Rattle.session_spec.specs.Talks.{Standing, begun, turn_of, Talks, edits_of}
use Rattle.session_spec.specs.TakenInput.{LeavesOpen, IsAwaited}

-- the two states are one, and so are the lines
pub record SameReply (next other : SessionState) (line said : List ℕ) : Type 0 where
  pub one_state : next ≡ other
  pub one_line : line ≡ said

-- an edit of a state has one reply and one next state at most
abbrev pub OneReply : Type 0
OneReply =
    (state next other : SessionState) (edit : List Change) (line said : List ℕ) → Replies state edit next line
    → Replies state edit other said → SameReply next other line said

-- own: some reply and next state
pub record HasReply (state : SessionState) (edit : List Change) : Type 0 where
  pub next : SessionState
  pub line : List ℕ
  pub replies : Replies state edit next line

-- each edit of a state has a reply
abbrev pub SomeReply : Type 0
SomeReply = (state : SessionState) (edit : List Change) → HasReply state edit

-- where an edit is refused, its line says why and the state stays
abbrev pub RefusedLeaves : Type 0
RefusedLeaves =
    (state next : SessionState) (edit : List Change) (line said : List ℕ)
    → IsRefused state (edited (draft_of state) edit) line → Replies state edit next said
    → SameReply next state said line

-- own: the state stays, and the line says why
pub record IsLeft (state : SessionState) (edit : List Change) (next : SessionState) (line : List ℕ) : Type 0 where
  pub stays : next ≡ state
  pub why : IsRefused state (edited (draft_of state) edit) line

-- an edit is accepted, and then the next state has the tree and entries behind it and the map that is generated for
-- them; or it is refused
abbrev pub AcceptedOrLeft : Type 0
AcceptedOrLeft =
    (state next : SessionState) (edit : List Change) (line : List ℕ) → Replies state edit next line
    → IsAccepted state edit next line ⊎ IsLeft state edit next line

-- whatever edits led to a state, its map is the one that is generated for its tree and config
abbrev pub AlwaysCurrent : Type 0
AlwaysCurrent =
    (state later : SessionState) (edits : List (List Change)) → IsCurrent state → Leads state edits later
    → IsCurrent later

-- what a put leaves is what it leaves to place a file at the path: each folder above it is there, and all else stays
abbrev pub PutPlaces : Type 0
PutPlaces =
    (tree : Tree) (path bytes : List ℕ) → IsPath path → can_put (get tree) path ≡ true
    → Places tree path (Stored bytes) (put_file tree path bytes)

-- own: where a change puts or drops a file, it names a path
abbrev pub NamesPath : Change → Type 0
NamesPath (Link entry) = ⊤
NamesPath (Unlink entry) = ⊤
NamesPath (Put path bytes) = IsPath path
NamesPath (Drop path) = IsPath path

-- an edit of a tree leaves a tree
abbrev pub EditsKeepTree : Type 0
EditsKeepTree =
    (draft after : Draft) (edit : List Change) → All NamesPath edit → IsTree draft.tree → edited draft edit ≡ Ok after
    → IsTree after.tree

-- whatever the draft, an edit is refused for what one of its changes does
abbrev pub FaultsAreOfEdits : Type 0
FaultsAreOfEdits =
    (draft : Draft) (edit : List Change) (fault : EditFault) → edited draft edit ≡ Err fault → CanRefuseEdit edit fault

-- changes one after another come to the same as the first of them and then the others
abbrev pub EditsJoin : Type 0
EditsJoin =
    (draft : Draft) (front back : List Change)
    → edited draft (front ++ back) ≡ then_edited (edited draft front) (λ after. edited after back)

abbrev pub all_changes : List (List Change) → List Change
all_changes edits = flat_map (λ edit. edit) edits

-- own: the tree and the entries are those behind these changes, and nothing else of the config is changed
pub record IsBehind (state : SessionState) (edit : List Change) (later : SessionState) : Type 0 where
  pub made : edited (draft_of state) edit ≡ Ok (draft_of later)
  pub same_project : later.config ≡ config_with state.config later.config.entries

-- behind edits of which each was accepted stand the tree and the entries behind all their changes
abbrev pub AcceptedJoin : Type 0
AcceptedJoin =
    (state later : SessionState) (edits : List (List Change)) → AllAccepted state edits later
    → IsBehind state (all_changes edits) later

-- the two texts are one, and so are the statuses
pub record SameAnswer (out other : List ℕ) (status second : ℕ) : Type 0 where
  pub one_text : out ≡ other
  pub one_status : status ≡ second

-- to the lines of an input one text is replied at most
abbrev pub OneAnswer : Type 0
OneAnswer =
    (state : SessionState) (input out other : List ℕ) (status second : ℕ) → Answers state input out status
    → Answers state input other second → SameAnswer out other status second

-- own: some text and status
pub record HasAnswer (state : SessionState) (input : List ℕ) : Type 0 where
  pub out : List ℕ
  pub status : ℕ
  pub answers : Answers state input out status

-- each input has an answer
abbrev pub SomeAnswer : Type 0
SomeAnswer = (state : SessionState) (input : List ℕ) → HasAnswer state input

-- where an input is answered to its `end`, what comes behind it changes nothing
abbrev pub NothingBehindEnd : Type 0
NothingBehindEnd =
    (state : SessionState) (input more out : List ℕ) → Answers state input out done_status
    → Answers state (input ++ more) out done_status

-- ---- whole sessions

-- own: the text is this front and then some more
pub record BeginsWith (front text : List ℕ) : Type 0 where
  pub rest : List ℕ
  pub whole : text ≡ front ++ rest

-- what is replied to the first bytes of an input is the front of what is replied to it all
abbrev pub FrontReplies : Type 0
FrontReplies =
    (state : SessionState) (taken more front out : List ℕ) (status : ℕ) (later : Standing)
    → length taken ≤ limit_number Session → Talks (begun state taken) front later
    → Answers state (taken ++ more) out status → BeginsWith front out

-- wherever a session stands, its map is the one that is generated for its tree and config
abbrev pub TalksStayCurrent : Type 0
TalksStayCurrent =
    (at later : Standing) (out : List ℕ) → IsCurrent at.state → Talks at out later → IsCurrent later.state

-- own law: an edit to which an input comes is one of a state whose map is generated for its tree and config
abbrev pub TriedAreCurrent : Type 0
TriedAreCurrent =
    (tree : Tree) (first state : SessionState) (input : List ℕ) (edit : List Change) → OpensAt tree first
    → IsTried (begun first input) state edit → IsCurrent state

-- own law: where a session looks for the first bytes of an input, it looks for it all
abbrev pub LooksStay : Type 0
LooksStay =
    (tree : Tree) (taken more path : List ℕ) → IsSessionLook tree taken path → IsSessionLook tree (taken ++ more) path

-- own: of edits that are made one after another, these are accepted; each other is refused and leaves the state
pub data AreAccepted : SessionState → List (List Change) → List (List Change) → SessionState → Type 0 where
  none : (state : SessionState) → AreAccepted state [] [] state
  accepts :
      (state next later : SessionState) (edit : List Change) (made accepted : List (List Change)) (line : List ℕ)
      → IsAccepted state edit next line → AreAccepted next made accepted later
      → AreAccepted state (edit ∷ made) (edit ∷ accepted) later
  leaves :
      (state next later : SessionState) (edit : List Change) (made accepted : List (List Change)) (line : List ℕ)
      → IsLeft state edit next line → AreAccepted next made accepted later
      → AreAccepted state (edit ∷ made) accepted later

-- own: these of the edits were accepted, one after another; the tree and the entries are those behind all their
-- changes, and the map is the one that is generated for them
pub record IsFreshAfter (first : SessionState) (made : List (List Change)) (later : SessionState) : Type 0 where
  pub edits : List (List Change)
  pub are_accepted : AreAccepted first made edits later
  pub accepted : AllAccepted first edits later
  pub behind : IsBehind first (all_changes edits) later
  pub fresh : IsCurrent later

-- wherever a session stands that is opened on a tree, some of the edits that the lines of its input made were accepted,
-- and its map is that of a fresh generation for what they leave; what was refused is without effect
abbrev pub MapsAreFreshAfterEdits : Type 0
MapsAreFreshAfterEdits =
    (tree : Tree) (first : SessionState) (input out : List ℕ) (later : Standing) → OpensAt tree first
    → (talks : Talks (begun first input) out later)
    → IsFreshAfter first (edits_of (begun first input) later out talks) later.state

-- what a session says while it takes an input is the front of what it says to it all, whatever comes behind
abbrev pub RepliesAreFront : Type 0
RepliesAreFront =
    (tree : Tree) (taken more front out : List ℕ) (status : ℕ) → RepliesTo tree taken front
    → SessionComesTo tree (taken ++ more) status out → BeginsWith front out

-- a session on a tree says one text to an input at most, with one status
abbrev pub OneSession : Type 0
OneSession =
    (tree : Tree) (input out other : List ℕ) (status second : ℕ) → SessionComesTo tree input status out
    → SessionComesTo tree input second other → SameAnswer out other status second

-- what a session does at the lines of an input goes with what it replies to them
abbrev pub DoingsTalk : Type 0
DoingsTalk =
    (first : SessionState) (input : List ℕ) (opened : Done) (at : Standing) (text : List ℕ) (done : Done)
    → Does first input opened at text done → Talks (begun first input) text at

-- own: so many edits lie between two graphs at least, since a graph has 2^32 - 64 places, an edit takes 20,063 at most,
-- and another one is begun where an edit lacks places, of which it needs 20,000 at most
abbrev pub edits_between : ℕ
edits_between = 200000

-- own: between two edits at which another graph is begun lie so many others, and so many come before the first
pub record AreRare (some : ℕ) (anew : List Bool) : Type 0 where
  pub first : (front back : List Bool) → anew ≡ front ++ true ∷ back → some ≤ length front
  pub between :
      (front middle back : List Bool) → anew ≡ front ++ true ∷ (middle ++ true ∷ back) → some ≤ length middle

-- among any 200,000 edits in a row another graph is begun at one at most, and at none of the first 200,000
abbrev pub RenewalsAreRare : Type 0
RenewalsAreRare =
    (first : SessionState) (input : List ℕ) (opened : Done) (text : List ℕ) (spent : ℕ) (showings : List (List Shown))
    → IsOpening first opened → (does : EditsDo first input opened text spent showings)
    → AreRare edits_between (anew_to_end first input opened text spent showings does)

-- own: some text and status
pub record HasSession (tree : Tree) (input : List ℕ) : Type 0 where
  pub out : List ℕ
  pub status : ℕ
  pub comes : SessionComesTo tree input status out

-- it says something to each input
abbrev pub SomeSession : Type 0
SomeSession = (tree : Tree) (input : List ℕ) → HasSession tree input

-- whatever the tree and the input, what it says is the line of the opening, replies and one of its ends, with the
-- status of this end; or a refusal of `refresh`
abbrev pub SessionsAreShaped : Type 0
SessionsAreShaped =
    (tree : Tree) (input text : List ℕ) (status : ℕ) → SessionComesTo tree input status text
    → ((replied : List ℕ) × IsAnswerShaped replied status text) ⊎ IsRefusalShaped status text

-- own: a session on the tree replies some text to each line that stands whole in these bytes, and waits for more
pub record HasReplies (tree : Tree) (input : List ℕ) : Type 0 where
  pub text : List ℕ
  pub replied : RepliesToAll tree input text

-- where a session is opened, it replies to each line that stands whole in bytes that leave it open, and waits for more
abbrev pub OpenInputsWait : Type 0
OpenInputsWait = (tree : Tree) (input : List ℕ) → CanOpen tree → LeavesOpen input → HasReplies tree input

-- bytes that the limit allows, behind which a session waits for more, leave it open
abbrev pub WaitingIsOpen : Type 0
WaitingIsOpen =
    (tree : Tree) (input text : List ℕ) → length input ≤ limit_number Session → RepliesToAll tree input text
    → LeavesOpen input

-- once the bytes taken hold what ends a session, no take follows: what lies behind such bytes came with some of them,
-- where the source tells how many bytes the last take brought
abbrev pub NoTakeBehindEnd : Type 0
NoTakeBehindEnd =
    (source later : SourceState) (taken more : List ℕ) (count : ℕ) → IsAwaited source (taken ++ more) later
    → (LeavesOpen taken → ⊥) → later.latest ≡ Some count → length more < count

-- own: what a session says in the end that stands there: behind `end`, behind a line that has no meaning or stands in
-- the wrong place, where the input ends within a line, and where the limit does
pub record EndsThere (tree : Tree) (taken text : List ℕ) (at : Standing) : Type 0 where
  pub ended :
      (more : List ℕ) → turn_of at ≡ ends → SessionComesTo tree (taken ++ more) done_status (text ++ end_reply)
  pub refused :
      (more : List ℕ) → turn_of at ≡ refuses
      → SessionComesTo tree (taken ++ more) file_status (text ++ bad_line at.number)
  pub short : turn_of at ≡ stops → SessionComesTo tree taken file_status (text ++ bad_line at.number)
  pub long :
      (byte : ℕ) (more : List ℕ) → length taken ≡ limit_number Session → turn_of at ≡ stops
      → SessionComesTo tree (taken ++ byte ∷ more) limit_status (text ++ limit_line Session)

-- a session that stands there, with bytes that the limit allows, ends so
abbrev pub SessionsEnd : Type 0
SessionsEnd =
    (tree : Tree) (taken text : List ℕ) (at : Standing) → length taken ≤ limit_number Session
    → IsStanding tree taken text at → EndsThere tree taken text at

-- a session that ends as is promised keeps these promises
abbrev pub SessionsKeepPromises : Type 0
SessionsKeepPromises =
    (before after : FolderState) (source later : SourceState) (out out_after : SinkState)
    (seen seen_after : Option (List (List Shown))) (result spent spent_after : ℕ)
    → SessionEnds before after source later out out_after seen seen_after result spent spent_after
    → SessionPromises before after source later out out_after result
