use Rattle.std.proofs.Common.{sym, subst}
use Rattle.module_graph.specs.Graphs.{AreModules}
use Rattle.module_graph.proofs.WellMade.{modules-added}
use Rattle.module_graph.proofs.graph.Graph.add.Goals as goal

pub invariant_of-self : goal.invariant_of-self
invariant_of-self c =
    subst AreModules (sym c.insert_reserved.ensures.placed) (modules-added c.self.inside.arena c.insert_reserved.result c.args.added c.self.invariant c.requires.well_made)
