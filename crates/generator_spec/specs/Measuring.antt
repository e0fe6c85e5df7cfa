-- Why a measure is refused.
--     RefusesMeasure number why  the generation over the tree of so many packages is refused
use Rattle.std.specs.Prelude.{ℕ}
use Rattle.workload_spec.specs.Packages.{tree_of}
use Rattle.config_spec.specs.Projects.{measure_config}
use Rattle.config_spec.specs.declared.Command.TheVariants.{Refresh}
use Rattle.generator_spec.specs.declared.Refusal.{Refusal}
use Rattle.generator_spec.specs.Commands.{Refuses}

-- own: as the refresh of a project with the config of a measure, over that tree
abbrev pub RefusesMeasure : ℕ → Refusal → Type 0
RefusesMeasure number why = Refuses (tree_of number) measure_config Refresh why
