-- How a session is opened. own.
--     refresh_words                   the words that ask for the map anew: a session is opened on the same project
--     OpensAt tree state              a session is opened with this state
--     CanOpen tree                    a session is opened with some state
--     opening_line state              what is said of it then
use Rattle.std.specs.Prelude.{◌∷◌, [], ℕ, List, codes}
use Rattle.tree_spec.specs.Trees.{Tree}
use Rattle.trace_spec.specs.Modules.{Config}
use Rattle.config_spec.specs.Projects.{IsConfigOf}
use Rattle.config_spec.specs.declared.Command.TheVariants.{Refresh}
use Rattle.session_spec.specs.Replies.{accepted_line}
use Rattle.session_spec.specs.SessionStates.{Counts, SessionState, IsGenerated}

abbrev pub refresh_words : List (List ℕ)
refresh_words = codes "refresh" ∷ []

-- own: its config is the project's, and the map is generated for it
pub data OpensAt (tree : Tree) : SessionState → Type 0 where
  opens :
      (config : Config) (map : List ℕ) (counts : Counts) → IsConfigOf refresh_words tree Refresh config
      → IsGenerated tree config map counts
      → OpensAt tree (record { tree = tree; config = config; map = map; counts = counts })

pub record CanOpen (tree : Tree) : Type 0 where
  pub state : SessionState
  pub opens_at : OpensAt tree state

abbrev pub opening_line : SessionState → List ℕ
opening_line state = accepted_line state.counts
