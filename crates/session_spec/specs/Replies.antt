-- What an edit makes of a state, and what is replied. own.
--     fault_line fault, accepted_line counts      the line of a change that can't be made; of an edit that is accepted
--     IsRefused state made line       of what an edit made of the state's tree and entries, this line says why there is
--                                     no map of it
--     Follows state made next line    of what it made, this state and this line come
--     Replies state edit next line    of the edit they come
--     IsAccepted state edit next line the edit is accepted, with this state and this line
--     Leads state edits later         after the edits, one after another, the state is this
--     AllAccepted state edits later   so, and each of them was accepted
use Rattle.std.specs.Prelude.{◌≡◌, ℕ, List, [], ◌∷◌, codes, Result, Ok, Err}
use Rattle.tree_spec.specs.declared.LimitName.TheVariants.{Entries}
use Rattle.config_spec.specs.declared.Command.TheVariants.{Refresh}
use Rattle.generator_spec.specs.Commands.{Refuses}
use Rattle.generator_spec.specs.Lines.{text_line, limit_line, line_of, counts_line}
use Rattle.generator_spec.specs.declared.Refusal.{Refusal}
use Rattle.session_spec.specs.declared.Change.{Change}
use Rattle.session_spec.specs.declared.EditFault.{EditFault}
use Rattle.session_spec.specs.declared.EditFault.TheVariants.{NotLinked, TooManyEntries, BadEdit}
use Rattle.session_spec.specs.Edits.{Draft, edited}
use Rattle.session_spec.specs.SessionStates.{Counts, SessionState, draft_of, config_with, next_state}
use Rattle.session_spec.specs.SessionStates.{IsGenerated, IsCurrent}

abbrev pub fault_line : EditFault → List ℕ
fault_line (NotLinked entry) = text_line (codes "refused: NotLinked ") entry
fault_line TooManyEntries = limit_line Entries
fault_line (BadEdit path) = text_line (codes "refused: BadEdit ") path

abbrev pub accepted_line : Counts → List ℕ
accepted_line counts = counts_line counts.modules counts.requests counts.mappings

-- own: a change can't be made, or else no map is generated; what is refused then is what `refresh` would be refused for
pub data IsRefused (state : SessionState) : Result Draft EditFault → List ℕ → Type 0 where
  by_change : (fault : EditFault) → IsRefused state (Err fault) (fault_line fault)
  by_generation :
      (draft : Draft) (why : Refusal) → Refuses draft.tree (config_with state.config draft.entries) Refresh why
      → IsRefused state (Ok draft) (line_of why)

-- own: what is refused leaves the state as it was
pub data Follows (state : SessionState) : Result Draft EditFault → SessionState → List ℕ → Type 0 where
  refused :
      (made : Result Draft EditFault) (line : List ℕ) → IsRefused state made line → Follows state made state line
  accepted :
      (draft : Draft) (map : List ℕ) (counts : Counts)
      → IsGenerated draft.tree (config_with state.config draft.entries) map counts
      → Follows state (Ok draft) (next_state state draft map counts) (accepted_line counts)

abbrev pub Replies : SessionState → List Change → SessionState → List ℕ → Type 0
Replies state edit next line = Follows state (edited (draft_of state) edit) next line

pub record IsAccepted (state : SessionState) (edit : List Change) (next : SessionState) (line : List ℕ) : Type 0 where
  pub made : edited (draft_of state) edit ≡ Ok (draft_of next)
  pub same_project : next.config ≡ config_with state.config next.config.entries
  pub current : IsCurrent next
  pub said : line ≡ accepted_line next.counts

pub data Leads : SessionState → List (List Change) → SessionState → Type 0 where
  nowhere : (state : SessionState) → Leads state [] state
  on :
      (state next later : SessionState) (edit : List Change) (edits : List (List Change)) (line : List ℕ)
      → Replies state edit next line → Leads next edits later → Leads state (edit ∷ edits) later

pub data AllAccepted : SessionState → List (List Change) → SessionState → Type 0 where
  none : (state : SessionState) → AllAccepted state [] state
  then :
      (state next later : SessionState) (edit : List Change) (edits : List (List Change)) (line : List ℕ)
      → IsAccepted state edit next line → AllAccepted next edits later → AllAccepted state (edit ∷ edits) later
