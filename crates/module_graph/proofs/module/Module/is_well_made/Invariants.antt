use Rattle.std.proofs.Common.{ℕ, ◌<◌}
use Rattle.module_graph.specs.Modules.{HasSpan}
use Rattle.module_graph.proofs.module.Module.is_well_made.Given as goal

-- the spans of the requests before this one lie in the source
abbrev pub invariant-loop-index : goal.invariant-loop-index
invariant-loop-index l = (i : ℕ) → i < l.index → HasSpan l.self i
