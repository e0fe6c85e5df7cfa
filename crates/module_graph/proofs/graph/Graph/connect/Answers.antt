use Rattle.std.proofs.Common.{sym, ap, subst}
use Rattle.module_graph.specs.Graphs.{AreModules}
use Rattle.module_graph.proofs.WellMade.{modules-added, module-set, live_is_module}
use Rattle.module_graph.proofs.graph.Graph.connect.Goals as goal
use Rattle.module_graph.proofs.graph.Graph.connect.Goals.{in-Some, in-None}

pub invariant_of-self : goal.invariant_of-self
invariant_of-self c = elim c.match-get_mut.branch [
  | in-Some w ↦
      let old = c.self.inside.arena in let from = c.args.from in let m = w.in-Some.module.now in let new = w.set_target.new.changed in
      let ok = live_is_module old from m c.self.invariant (sym w.in-Some.ensures.value) in
      let kept = module-set m new c.args.request c.args.to w.set_target.result w.set_target.ensures ok in
      subst AreModules (sym (ap (λ inside. inside.arena) w.self-inside-is)) (modules-added old from new c.self.invariant kept)
  | in-None w ↦ subst AreModules (sym (ap (λ inside. inside.arena) w.self-inside-is)) c.self.invariant
]
