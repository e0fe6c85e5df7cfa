-- The answers that a session keeps.
--     AreAnswersOf kept tree config       they are right, and of each question of the trace of this tree and config one
--                                         is kept whose looks see what stands there
use Rattle.std.specs.Prelude.{◌≡◌}
use Rattle.std.specs.FinMap.{get}
use Rattle.asking_spec.specs.Askings.{questions}
use Rattle.tree_spec.specs.Trees.{Tree}
use Rattle.trace_spec.specs.Modules.{Config}
use Rattle.trace_spec.specs.Questions.{always}
use Rattle.trace_spec.specs.Traces.{trace}
use Rattle.kept_trace.specs.Ready.{AreAllRight}
use Rattle.kept_trace.specs.Tracing.{KeepsAsked}
use Rattle.kept_trace.specs.declared.kept.Kept.{Kept}

pub record AreAnswersOf (kept : Kept) (tree : Tree) (config : Config) : Type 0 where
  pub right : AreAllRight kept
  pub under : kept.requests.names ≡ config.conditions
  pub complete : KeepsAsked (get tree) (questions (always (get tree)) (trace config)) kept
