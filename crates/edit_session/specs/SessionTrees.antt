-- What a session holds, as a state of `session_spec`.
--     counts_in generated, counts_told told   the counts that go with a generation, and those that a caller gets
--     shown_map, shown_counts session         the bytes of its map, and the counts that go with it
--     shown_in session, showing_in session    the graph that it shows, and what is shown there
--     steps_of generated                      how many steps a generation may take
--     pending_steps session                   how many what is pending may have taken
--     IsStateOf tree over config generated state      the state that these make over a tree
--     IsSessionOf tree session state          the tree stands behind the session, and this is its state
--     IsStateThen tree session prepared next  the state that the session has then
--     ShowsThen session prepared next         what it shows then: the modules of this state's trace
--     kept_then session prepared              the answers of the trace behind it
--     IsPendingOf tree session next           this is the state that is pending
use Rattle.std.specs.Prelude.{◌≡◌, ◌+◌, ℕ, List, Option, Some, None}
use Rattle.tree_spec.specs.Trees.{Tree, IsTree}
use Rattle.trace_spec.specs.Modules.{Config}
use Rattle.trace_graph.specs.Links.{Links}
use Rattle.package_lookup.specs.declared.over.Over.{Over}
use Rattle.package_lookup.specs.LaidTrees.{StandsBehind, IsLaid}
use Rattle.generation.specs.declared.generated.Generated.{Generated}
use Rattle.session_spec.specs.SessionStates.{Counts, SessionState, config_with, IsCurrent}
use Rattle.kept_trace.specs.declared.kept.Kept.{Kept}
use Rattle.session_spec.specs.Showings.{Shown, IsShowingOf}
use Rattle.session_watch.specs.Seen.{showing_of}
use Rattle.edit_session.specs.KeptAnswers.{AreAnswersOf}
use Rattle.edit_session.specs.Shown.{HaveSources, IsShownOf, PlansFor}
use Rattle.edit_session.specs.declared.session.Counts.{Counts as Told}
use Rattle.edit_session.specs.declared.session.Prepared.{Prepared}
use Rattle.edit_session.specs.declared.session.Prepared.TheVariants.{Same, Changed}
use Rattle.edit_session.specs.declared.session.Session.{Session}

abbrev pub counts_in : Generated → Counts
counts_in generated =
    record { modules = generated.modules; requests = generated.requests; mappings = generated.mappings }

abbrev pub counts_told : Told → Counts
counts_told told = record { modules = told.modules; requests = told.requests; mappings = told.mappings }

abbrev pub shown_map : Session → List ℕ
shown_map session = session.generated.map.items

abbrev pub shown_counts : Session → Counts
shown_counts session = counts_in session.generated

abbrev pub shown_in : Session → Links
shown_in session = session.shown.links

abbrev pub showing_in : Session → List Shown
showing_in session = showing_of (shown_in session).graph (shown_in session).slots

-- own: one for each module and for each request
abbrev pub steps_of : Generated → ℕ
steps_of generated = generated.modules + generated.requests

abbrev pub steps_in : Option Prepared → ℕ
steps_in None = 0
steps_in (Some Same) = 0
steps_in (Some (Changed pending)) = steps_of pending.generated

abbrev pub pending_steps : Session → ℕ
pending_steps session = steps_in session.pending

-- own: its tree is the tree behind with the laid looks in their places
pub record IsStateOf (tree : Tree) (over : Over) (config : Config) (generated : Generated)
    (state : SessionState) : Type 0 where
  pub laid : IsLaid tree over state.tree
  pub is_tree : IsTree state.tree
  pub config_is : state.config ≡ config
  pub map_is : state.map ≡ generated.map.items
  pub counts_are : state.counts ≡ counts_in generated

-- own: each kept look is what stands in the tree, the map is the one that is generated for the state's tree and config,
-- the kept answers are those of their trace, and its modules are shown
pub record IsSessionOf (tree : Tree) (session : Session) (state : SessionState) : Type 0 where
  pub stands : StandsBehind tree session.known
  pub is_state : IsStateOf tree session.known.laid session.config session.generated state
  pub current : IsCurrent state
  pub answers : AreAnswersOf session.answers.kept state.tree state.config
  pub shows : IsShowingOf state.tree state.config (showing_in session)
  pub sources : HaveSources state.tree state.config (shown_in session)

-- own: of the config an edit changes nothing but the entries
abbrev pub IsStateThen : Tree → Session → Prepared → SessionState → Type 0
IsStateThen tree session Same next = IsStateOf tree session.known.laid session.config session.generated next
IsStateThen tree session (Changed pending) next =
    IsStateOf tree pending.over (config_with session.config pending.entries) pending.generated next

-- own: for an edit without changes nothing was traced
abbrev pub kept_then : Session → Prepared → Kept
kept_then session Same = session.answers.kept
kept_then session (Changed pending) = session.answers.next

abbrev pub ShowsThen : Session → Prepared → SessionState → Type 0
ShowsThen session Same next = IsShownOf next.tree next.config (shown_in session)
ShowsThen session (Changed pending) next = PlansFor (λ P. P next.tree) next.config session.shown

pub record IsPendingOf (tree : Tree) (session : Session) (next : SessionState) : Type 0 where
  pub prepared : Prepared
  pub is_there : session.pending ≡ Some prepared
  pub is_state : IsStateThen tree session prepared next
  pub current : IsCurrent next
  pub answers : AreAnswersOf (kept_then session prepared) next.tree next.config
  pub shows : ShowsThen session prepared next
