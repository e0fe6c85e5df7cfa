use Rattle.std.proofs.Common.{◌≡◌, ◌<◌, ℕ}
use Rattle.module_graph.specs.Modules.{asked_at}
use Rattle.graph_repair.proofs.likeness.ask_alike.Given as goal

-- the requests before this one are alike
abbrev pub invariant-loop-index : goal.invariant-loop-index
invariant-loop-index l = (i : ℕ) → i < l.index → asked_at l.own i ≡ asked_at l.other i
