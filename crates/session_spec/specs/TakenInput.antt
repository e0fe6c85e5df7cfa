-- Bytes that were taken from a source. own: no public standard speaks of it.
--     IsFront bytes input left        the input is these bytes and then what is left
--     Takes before bytes after        these bytes were taken from the source, one after another
--     IsSpent state                   nothing is left
--     taken_at_once                   how many bytes are taken at once, at most
--     LastBrought before count after  the last take brought so many bytes, where the source tells it
--     NoTake before taken after       no take was made
--     TakesWhile Held before taken after      each take was made while this was said of the bytes that were taken
--     LeavesOpen input                these bytes don't hold what ends a session
--     IsAwaited before taken after    each take was made while the bytes that were taken left the session open
use Rattle.std.specs.Prelude.{◌≡◌, ◌≤◌, ◌⊎◌, ◌++◌, [], ℕ, List, length, Option, Some, None, IfSome, option_map}
use Rattle.tree_spec.specs.Limits.{limit_number}
use Rattle.tree_spec.specs.States.{SourceState}
use Rattle.tree_spec.specs.declared.LimitName.TheVariants.{Session}
use Rattle.session_spec.specs.declared.Change.{Change}
use Rattle.session_spec.specs.Conversations.{stops, turn_at}
use Rattle.session_spec.specs.SessionSteps.{MakesEdits}

pub record IsFront (bytes input : List ℕ) (left : Option (List ℕ)) : Type 0 where
  pub rest : List ℕ
  pub whole : input ≡ bytes ++ rest
  pub told : left ≡ Some rest

-- own: what the source tells is the bytes and what it tells afterwards
pub record Takes (before : SourceState) (bytes : List ℕ) (after : SourceState) : Type 0 where
  pub came : IfSome before.left (λ input. IsFront bytes input after.left)
  pub untold : before.left ≡ None → after.left ≡ None
  pub later : before.faults ≤ after.faults

abbrev pub IsSpent : SourceState → Type 0
IsSpent state = IfSome state.left (λ left. left ≡ [])

-- own: a take asks for at most so many bytes
abbrev pub taken_at_once : ℕ
taken_at_once = 65536

-- own: what is told stays told
abbrev pub LastBrought : SourceState → ℕ → SourceState → Type 0
LastBrought before count after = after.latest ≡ option_map (λ earlier. count) before.latest

pub record NoTake (before : SourceState) (taken : List ℕ) (after : SourceState) : Type 0 where
  pub nothing : taken ≡ []
  pub same : after ≡ before

-- own: before the last take, which brought the last of these bytes or nothing
pub record LastTake (Held : List ℕ → Type 0) (before : SourceState) (taken : List ℕ)
    (after : SourceState) : Type 0 where
  pub front : List ℕ
  pub last : List ℕ
  pub whole : taken ≡ front ++ last
  pub short : length last ≤ taken_at_once
  pub latest : LastBrought before (length last) after
  pub held : Held front

abbrev pub TakesWhile : (List ℕ → Type 0) → SourceState → List ℕ → SourceState → Type 0
TakesWhile Held before taken after = NoTake before taken after ⊎ LastTake Held before taken after

-- ---- a whole session

-- own: the limit allows them, each line that is whole in them is obeyed, and none of these ends a session, whatever
-- comes of the edits
pub record LeavesOpen (input : List ℕ) : Type 0 where
  pub few : length input ≤ limit_number Session
  pub edits : ℕ
  pub held : Option (List Change)
  pub behind : List ℕ
  pub made : MakesEdits input edits held behind
  pub waits : turn_at held behind ≡ stops

-- own: no take is made once the bytes that were taken hold what ends the session
abbrev pub IsAwaited : SourceState → List ℕ → SourceState → Type 0
IsAwaited before taken after = TakesWhile LeavesOpen before taken after
