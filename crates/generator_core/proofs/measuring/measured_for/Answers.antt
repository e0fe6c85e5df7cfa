use Rattle.std.proofs.Common.{Some, refl, ap, ◌∙◌}
use Rattle.tree_model.specs.Entries.{tree_of as tree_in}
use Rattle.generator_core.proofs.Measurings.{measures_of}
use Rattle.generator_core.proofs.measuring.measured_for.Goals as goal

pub returns-in-Ok-clause-measures : goal.returns-in-Ok-clause-measures
returns-in-Ok-clause-measures g c =
    measures_of c.args.number c.args.config.now _ _ c.requires.stated
    (ap Some (ap (λ folder. tree_in folder.entries) c.over-folder.ensures ∙ c.in-Ok.ensures.tree)) refl refl c.generate.result c.generate.ensures.generates
