use Rattle.std.proofs.Common.{sym, ◌∙◌}
use Rattle.std.specs.HashMap as map
use Rattle.trace_spec.specs.Modules.{is_module}
use Rattle.std.proofs.Common.{ap}
use Rattle.graph_repair.proofs.FoundModules.{keeps_by}
use Rattle.graph_repair.proofs.matching.keep_module.Goals as goal

pub returns-in-Some : goal.returns-in-Some
returns-in-Some c =
    keeps_by c.args.shown.now (map.get is_module c.args.table.now) c.args.module.now c.in-Some.place c.args.left.now.items c.take_like.new.left.items c.take_like.result
    (ap (map.get is_module c.args.table.now) (sym c.in_ok-key.ensures) ∙ (sym c.place_in.ensures ∙ c.in-Some.is)) c.take_like.ensures
