-- What is replied while a session goes on. own.
--     Standing                        where a session stands: its state, the number of the line that comes, the changes
--                                     since a `begin`, where one is open, and the input from that line on
--     begun state input               where it stands when it is opened
--     behind at state held rest       where it stands behind a line
--     turn_of at                      what it does at the line that comes
--     Talks before out after          from there on to there, this is replied
--     edits_of before after out talks the edits that the lines make from there on to there, in their order
use Rattle.std.specs.Prelude.{◌≡◌, ◌+◌, ◌++◌, ◌∷◌, [], ℕ, List, Option, Some, None}
use Rattle.session_spec.specs.declared.Change.{Change}
use Rattle.session_spec.specs.Conversations.{Turn, makes, holds, shows, turn_at, map_reply}
use Rattle.session_spec.specs.Replies.{Replies}
use Rattle.session_spec.specs.SessionLines.{Rest}
use Rattle.session_spec.specs.SessionStates.{SessionState}

pub record Standing : Type 0 where
  pub state : SessionState
  pub number : ℕ
  pub held : Option (List Change)
  pub input : List ℕ

abbrev pub begun : SessionState → List ℕ → Standing
begun state input = record { state = state; number = 1; held = None; input = input }

abbrev pub behind : Standing → SessionState → Option (List Change) → Rest → Standing
behind at state held rest =
    record { state = state; number = at.number + rest.lines; held = held; input = rest.behind }

abbrev pub turn_of : Standing → Turn
turn_of at = turn_at at.held at.input

-- own: as in a conversation, which ends; this may go on
pub data Talks : Standing → List ℕ → Standing → Type 0 where
  still : (at : Standing) → Talks at [] at
  edits :
      (at later : Standing) (edit : List Change) (rest : Rest) (next : SessionState) (line out : List ℕ)
      → turn_of at ≡ makes edit rest → Replies at.state edit next line → Talks (behind at next None rest) out later
      → Talks at (line ++ out) later
  collects :
      (at later : Standing) (held : List Change) (rest : Rest) (out : List ℕ) → turn_of at ≡ holds held rest
      → Talks (behind at at.state (Some held) rest) out later → Talks at out later
  shows_it :
      (at later : Standing) (rest : Rest) (out : List ℕ) → turn_of at ≡ shows rest
      → Talks (behind at at.state None rest) out later → Talks at (map_reply at.state.map ++ out) later

-- own: whatever comes of them
abbrev pub edits_of : (at later : Standing) (out : List ℕ) → Talks at out later → List (List Change)
edits_of _ _ _ (still at) = []
edits_of _ _ _ (edits at later edit rest next line out is replies goes) =
    edit ∷ edits_of (behind at next None rest) later out goes
edits_of _ _ _ (collects at later held rest out is goes) =
    edits_of (behind at at.state (Some held) rest) later out goes
edits_of _ _ _ (shows_it at later rest out is goes) = edits_of (behind at at.state None rest) later out goes
