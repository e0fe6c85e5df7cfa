-- How many steps a session takes. own.
--     generations edit                how many generations an edit needs
--     MakesEdits input edits held behind      the lines of an input up to there make so many edits that need one; held:
--                                     the changes since a `begin`, where one is open; behind: the input from there
--                                     on
--     most_steps                      how many steps a generation takes, at most
--     SpendsFor input before after    as many at most as one generation takes for each such edit to which the input
--                                     comes
--     SessionSpends taken before after        as many at most as one generation takes for the opening and for each such
--                                     edit, as far as the limit allows
use Rattle.std.specs.Prelude.{◌≡◌, ◌≤◌, ◌+◌, ◌*◌, ◌∷◌, [], ℕ, List, take, Option, Some, None}
use Rattle.tree_spec.specs.Limits.{limit_number}
use Rattle.tree_spec.specs.declared.LimitName.TheVariants.{Modules, Requests, Session}
use Rattle.session_spec.specs.declared.Change.{Change}
use Rattle.session_spec.specs.Conversations.{makes, holds, shows, turn_at}
use Rattle.session_spec.specs.SessionLines.{Rest}

-- own: what has no changes generates nothing
abbrev pub generations : List Change → ℕ
generations [] = 0
generations (change ∷ more) = 1

-- own: whatever comes of an edit, its lines make it
pub data MakesEdits (input : List ℕ) : ℕ → Option (List Change) → List ℕ → Type 0 where
  begun : MakesEdits input 0 None input
  edits :
      (count : ℕ) (held : Option (List Change)) (from : List ℕ) (edit : List Change) (rest : Rest)
      → MakesEdits input count held from → turn_at held from ≡ makes edit rest
      → MakesEdits input (count + generations edit) None rest.behind
  collects :
      (count : ℕ) (held : Option (List Change)) (from : List ℕ) (changes : List Change) (rest : Rest)
      → MakesEdits input count held from → turn_at held from ≡ holds changes rest
      → MakesEdits input count (Some changes) rest.behind
  shows_it :
      (count : ℕ) (held : Option (List Change)) (from : List ℕ) (rest : Rest) → MakesEdits input count held from
      → turn_at held from ≡ shows rest → MakesEdits input count None rest.behind

-- own: one for each module and for each request
abbrev pub most_steps : ℕ
most_steps = limit_number Modules + limit_number Requests

pub record SpendsFor (input : List ℕ) (before after : ℕ) : Type 0 where
  pub edits : ℕ
  pub held : Option (List Change)
  pub behind : List ℕ
  pub made : MakesEdits input edits held behind
  pub few : after ≤ before + edits * most_steps

-- own: one generation for the opening
abbrev pub SessionSpends : List ℕ → ℕ → ℕ → Type 0
SessionSpends taken before after = SpendsFor (take (limit_number Session) taken) (before + most_steps) after
