use Rattle.std.proofs.Common.{◌≡◌, None, Some, IfOk, sym, ◌∙◌, refl, subst}
use Rattle.std.specs.HashMap as map
use Rattle.trace_spec.specs.Modules.{is_module}
use Rattle.graph_repair.specs.Finding.{Keeps}
use Rattle.graph_repair.proofs.matching.keep.Goals as goal

pub returns-in-Some : goal.returns-in-Some
returns-in-Some c =
    subst (λ o. IfOk c.keep_module.result (λ kept. Keeps c.args.shown.now (map.get is_module c.args.table.now) o c.args.left.now.items c.keep_module.new.left.items kept))
    (sym c.in-Some.is ∙ c.module.ensures) c.keep_module.ensures

pub returns-in-None : goal.returns-in-None
returns-in-None c = (refl, λ v place s there. absurd (let bad : None ≡ Some v = sym c.in-None.is ∙ (c.module.ensures ∙ there) in cc))
