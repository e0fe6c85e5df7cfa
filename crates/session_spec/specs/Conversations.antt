-- What is replied to the lines of a session. own.
--     map_reply map, end_reply, bad_line number       the replies that aren't of an edit
--     Turn                            what the session does at a line
--     ordered held order rest         what it does at an order; held: the changes since a `begin`, where one is open
--     turn held reading               what it does at what was read
--     turn_at held input              what it does at the first line of an input
--     stop_line, stop_status is_more number   how it ends within a line; is_more: there is more input than is read
--     Conversation is_more state number at out status     from this turn on, at the line with this number, this is
--                                     replied, and the session ends with this status
--     Answers state input out status  so to the lines of a whole input, of which no more is read than the limit allows
use Rattle.std.specs.Prelude.{◌+◌, ◌++◌, ◌∷◌, [], nat_lt, ℕ, Bool, true, false, List, length, take, codes}
use Rattle.std.specs.Prelude.{Option, Some, None}
use Rattle.std.specs.Fmt.{decimal}
use Rattle.tree_spec.specs.Limits.{limit_number}
use Rattle.tree_spec.specs.declared.LimitName.TheVariants.{Session}
use Rattle.generator_spec.specs.Lines.{end_of_line, limit_line}
use Rattle.generator_spec.specs.Statuses.{done_status, file_status, limit_status}
use Rattle.session_spec.specs.declared.Change.{Change}
use Rattle.session_spec.specs.Replies.{Replies}
use Rattle.session_spec.specs.SessionLines.{Order, changes, begins, commits, shows_map, ends_session, Rest, Reading}
use Rattle.session_spec.specs.SessionLines.{reads, malformed, unfinished, read_line}
use Rattle.session_spec.specs.SessionStates.{SessionState}

-- own: how many bytes the map has, and then these
abbrev pub map_reply : List ℕ → List ℕ
map_reply map = codes "map " ++ (decimal (length map) ++ (end_of_line ++ map))

abbrev pub end_reply : List ℕ
end_reply = codes "end" ++ end_of_line

abbrev pub bad_line : ℕ → List ℕ
bad_line number = codes "bad file: session line " ++ (decimal number ++ end_of_line)

-- ---- one line

pub data Turn : Type 0 where
  makes : List Change → Rest → Turn
  holds : List Change → Rest → Turn
  shows : Rest → Turn
  ends : Turn
  refuses : Turn
  stops : Turn

-- own: a change is an edit, and so are all changes between `begin` and `commit`, where nothing else stands
abbrev pub ordered : Option (List Change) → Order → Rest → Turn
ordered None (changes change) rest = makes (change ∷ []) rest
ordered None begins rest = holds [] rest
ordered None commits rest = refuses
ordered None shows_map rest = shows rest
ordered None ends_session rest = ends
ordered (Some held) (changes change) rest = holds (held ++ change ∷ []) rest
ordered (Some held) begins rest = refuses
ordered (Some held) commits rest = makes held rest
ordered (Some held) shows_map rest = refuses
ordered (Some held) ends_session rest = refuses

abbrev pub turn : Option (List Change) → Reading → Turn
turn held (reads order rest) = ordered held order rest
turn held malformed = refuses
turn held unfinished = stops

abbrev pub turn_at : Option (List Change) → List ℕ → Turn
turn_at held input = turn held (read_line input)

-- ---- all lines

-- own: the limit is passed where the bytes that it allows end within a line, and more come
abbrev pub stop_line : Bool → ℕ → List ℕ
stop_line true number = limit_line Session
stop_line false number = bad_line number

abbrev pub stop_status : Bool → ℕ
stop_status true = limit_status
stop_status false = file_status

-- own: each edit has one line, `map` shows the map, `end` ends, and so does a line that has no meaning or stands in the
-- wrong place
pub data Conversation (is_more : Bool) : SessionState → ℕ → Turn → List ℕ → ℕ → Type 0 where
  edits :
      (state next : SessionState) (number status : ℕ) (edit : List Change) (rest : Rest) (line out : List ℕ)
      → Replies state edit next line
      → Conversation is_more next (number + rest.lines) (turn_at None rest.behind) out status
      → Conversation is_more state number (makes edit rest) (line ++ out) status
  collects :
      (state : SessionState) (number status : ℕ) (held : List Change) (rest : Rest) (out : List ℕ)
      → Conversation is_more state (number + rest.lines) (turn_at (Some held) rest.behind) out status
      → Conversation is_more state number (holds held rest) out status
  shows_it :
      (state : SessionState) (number status : ℕ) (rest : Rest) (out : List ℕ)
      → Conversation is_more state (number + rest.lines) (turn_at None rest.behind) out status
      → Conversation is_more state number (shows rest) (map_reply state.map ++ out) status
  ended : (state : SessionState) (number : ℕ) → Conversation is_more state number ends end_reply done_status
  bad :
      (state : SessionState) (number : ℕ) → Conversation is_more state number refuses (bad_line number) file_status
  stopped :
      (state : SessionState) (number : ℕ)
      → Conversation is_more state number stops (stop_line is_more number) (stop_status is_more)

-- own: at most 268,435,456 bytes of the input are read
abbrev pub Answers : SessionState → List ℕ → List ℕ → ℕ → Type 0
Answers state input out status =
    Conversation (nat_lt (limit_number Session) (length input)) state 1
    (turn_at None (take (limit_number Session) input)) out status
