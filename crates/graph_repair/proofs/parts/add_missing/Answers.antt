use Rattle.std.proofs.Common.{◌≡◌, None, Some, reverse, sym, ◌∙◌, subst}
use Rattle.graph_repair.specs.Plans.{AddsOne}
use Rattle.graph_repair.proofs.Joining.{adds_kept, adds_untied}
use Rattle.graph_repair.proofs.parts.add_missing.Goals as goal

pub returns-in-Some : goal.returns-in-Some
returns-in-Some c = adds_kept c.args.view.now c.args.keep _ c.args.slot (reverse c.args.added.now.items) c.in-Some.is

pub returns-in-None-module : goal.returns-in-None-module
returns-in-None-module c = absurd (let bad : None ≡ Some c.requires.0 = sym c.in-None-module.is ∙ (c.module.ensures ∙ c.requires.1) in cc)

pub returns-in_ok-push-in-Some-module : goal.returns-in_ok-push-in-Some-module
returns-in_ok-push-in-Some-module c =
    subst (λ o. AddsOne c.args.view.now o c.args.slot (reverse c.args.added.now.items) (reverse c.push.new.self.items)) (sym c.in-None.is)
    (adds_untied c.args.view.now c.args.slot c.in_ok-untied-in-Some-module.field-0 c.in-Some-module.module c.args.added.now.items c.push.new.self.items
    (sym c.module.ensures ∙ c.in-Some-module.is) c.in_ok-untied-in-Some-module.ensures c.in_ok-push-in-Some-module.ensures.items)
