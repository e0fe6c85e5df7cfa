use Rattle.std.proofs.Common.{◌≡◌, ◌∙◌, None, Some, sym, ap}
use Rattle.std.proofs.lemmas.Result.{on_ok_weaker}
use Rattle.slot_arena.specs.Slots.{value_at}
use Rattle.generator_core.proofs.Explainings.{step_pushed}
use Rattle.generator_core.proofs.explaining.push_step.Goals as goal

-- there is a module
pub returns-in-None : goal.returns-in-None
returns-in-None c =
    let none : None ≡ Some c.requires.0 = sym c.in-None.is ∙ (c.module.ensures ∙ (ap (λ g. value_at g c.args.slot) c.view-graph.ensures.graph ∙ c.requires.1)) in
    absurd (cc)

pub returns-in-Some : goal.returns-in-Some
returns-in-Some c =
    on_ok_weaker c.push_asks_line.result
    (step_pushed c.args.trace.now.links.graph c.args.config.now.entries c.args.from c.args.number c.args.slot c.in-Some.module
    c.args.text.now.items c.push_asks_line.new.text.items c.request_at-specifier.result.now c.as_str.result.now c.suffix.result.now
    (sym (c.module.ensures ∙ ap (λ g. value_at g c.args.slot) c.view-graph.ensures.graph) ∙ c.in-Some.is) c.request_at-specifier.ensures
    (c.as_str.ensures.text ∙ c.path.ensures) c.suffix.ensures)
    c.push_asks_line.ensures
