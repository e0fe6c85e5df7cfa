-- What an edit is made from, and what it makes.
--     Parts                           what is known, the config, the map, the answers that are kept, and what is shown
--     parts known config generated answers shown      those of a session
--     parts_of session                the same
--     IsPartsOf tree parts state      the tree stands behind them, and this is their state
--     pending_over over made          what is pending, where these are the looks of the edit
--     result_over over result         the same of what comes of an edit
use Rattle.std.specs.Prelude.{Result, Ok, Err}
use Rattle.tree_spec.specs.Trees.{Tree}
use Rattle.trace_spec.specs.Modules.{Config}
use Rattle.package_lookup.specs.declared.known.Known.{Known}
use Rattle.package_lookup.specs.declared.over.Over.{Over}
use Rattle.package_lookup.specs.LaidTrees.{StandsBehind}
use Rattle.generation.specs.declared.generated.Generated.{Generated}
use Rattle.kept_trace.specs.declared.kept.TraceAnswers.{TraceAnswers}
use Rattle.session_spec.specs.SessionStates.{SessionState}
use Rattle.edit_session.specs.KeptAnswers.{AreAnswersOf}
use Rattle.edit_session.specs.SessionTrees.{IsStateOf}
use Rattle.edit_session.specs.Shown.{Shows}
use Rattle.edit_session.specs.declared.made.Made.{Made}
use Rattle.edit_session.specs.declared.session.Pending.{Pending}
use Rattle.edit_session.specs.declared.session.Session.{Session}
use Rattle.edit_session.specs.declared.stop.EditStop.{EditStop}

pub record Parts : Type 0 where
  pub known : Known
  pub config : Config
  pub generated : Generated
  pub answers : TraceAnswers
  pub shown : Shows

abbrev pub parts : Known → Config → Generated → TraceAnswers → Shows → Parts
parts known config generated answers shown =
    record { known = known; config = config; generated = generated; answers = answers; shown = shown }

abbrev pub parts_of : Session → Parts
parts_of session = parts session.known session.config session.generated session.answers session.shown

pub record IsPartsOf (tree : Tree) (own : Parts) (state : SessionState) : Type 0 where
  pub stands : StandsBehind tree own.known
  pub is_state : IsStateOf tree own.known.laid own.config own.generated state
  pub answers : AreAnswersOf own.answers.kept state.tree state.config

abbrev pub pending_over : Over → Made → Pending
pending_over over made = record { over = over; entries = made.entries; generated = made.generated }

abbrev pub result_over : Over → Result Made EditStop → Result Pending EditStop
result_over over (Ok made) = Ok (pending_over over made)
result_over over (Err stop) = Err stop
