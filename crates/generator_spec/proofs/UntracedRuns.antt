-- A run that is refused before its trace takes no step.
use Rattle.std.proofs.Common.{◌≡◌, ◌⊎◌, ℕ, List, inl, inr}
use Rattle.tree_spec.specs.Trees.{Tree}
use Rattle.trace_spec.specs.Modules.{Config}
use Rattle.config_spec.specs.declared.Command.{Command}
use Rattle.config_spec.specs.declared.Command.TheVariants.{Inject, Vendor}
use Rattle.config_spec.specs.Projects.{IsConfigOf}
use Rattle.workload_spec.specs.Packages.{tree_of}
use Rattle.generator_spec.specs.declared.Refusal.{Refusal}
use Rattle.generator_spec.specs.Commands.{Opens, Refuses, Refuses as refuses}
use Rattle.generator_spec.specs.Laws.{UntracedTakesNone}
use Rattle.generator_spec.specs.Outcome.{RefusesRun, RefusesRun as runs}
use Rattle.generator_spec.specs.Steps.{IsBeforeTrace, TraceSpends}
use Rattle.generator_spec.specs.Vendoring.{RefusesCopies, RefusesCopies as copies}
use Rattle.generator_spec.proofs.Configs.{refused_or_config, words_refused_or_config}
use Rattle.generator_spec.proofs.Outcomes.{measured_or_no_config, measured_or_refused}
use Rattle.generator_spec.proofs.Refusals.{map_refused_or_opened, refused_or_opened}

-- what isn't opened takes none
unopened : (before after : ℕ) (Opened : Type 0) → (Opened → ⊥) → (after ≡ before) ⊎ Opened → after ≡ before
unopened before after Opened shut (inl none) = none
unopened before after Opened shut (inr opened) = absurd (shut opened)

-- copies and measures are refused behind their trace
late_copies : (tree : Tree) (to : List ℕ) (paths : List (List ℕ)) (why : Refusal) → RefusesCopies tree to paths why → IsBeforeTrace why → ⊥
late_copies tree to paths why (copies.occupied entry stands) early = elim early [ ]
late_copies tree to paths why (copies.long free long) early = elim early [ ]
late_copies tree to paths why (copies.deep free short deep) early = elim early [ ]

module _ (words : List (List ℕ)) (tree : Tree) (before after : ℕ) (spends : TraceSpends words tree before after) where
  of_command : (command : Command) (config : Config) (why : Refusal) → IsConfigOf words tree command config → Refuses tree config command why → IsBeforeTrace why → after ≡ before
  of_command command config why is (refuses.page fault refused) early =
      unopened before after (Opens tree config Inject) (refused_or_opened tree config fault refused) (spends.by_config Inject config is).opened
  of_command command config why is (refuses.map_file same fault checks refused) early =
      unopened before after (Opens tree config command) (map_refused_or_opened tree config command fault checks refused) (spends.by_config command config is).opened
  of_command command config why is (refuses.trace same fault opened e) early = elim early [ ]
  of_command command config why is (refuses.many_choices same generating opened wide) early = elim early [ ]
  of_command command config why is (refuses.large_map same generating opened large) early = elim early [ ]
  of_command command config why is (refuses.nested map all answers holds traces are deep) early = elim early [ ]

  of_run : (why : Refusal) → RefusesRun words tree why → IsBeforeTrace why → after ≡ before
  of_run why (runs.by_words fault refused) early =
      spends.no_config (λ command config is. words_refused_or_config words tree fault command config refused is)
      (λ number asks. measured_or_refused words tree number fault asks refused)
  of_run why (runs.by_project fault refused) early =
      spends.no_config (λ command config is. refused_or_config words tree fault command config refused is)
      (λ number asks. measured_or_no_config words tree number fault asks refused)
  of_run why (runs.by_tree command config reason is refused) early = of_command command config reason is refused early
  of_run why (runs.by_copies to config map reason asks is generates refused) early = absurd (late_copies tree to _ reason refused early)
  of_run why (runs.by_measure number reason asks (refuses.map_file same fault checks refused)) early = elim checks [ ]
  of_run why (runs.by_measure number reason asks (refuses.trace same fault opened e)) early = elim early [ ]
  of_run why (runs.by_measure number reason asks (refuses.many_choices same generating opened wide)) early = elim early [ ]
  of_run why (runs.by_measure number reason asks (refuses.large_map same generating opened large)) early = elim early [ ]

pub untraced_takes_none : UntracedTakesNone
untraced_takes_none words tree before after why spends refused early = of_run words tree before after spends why refused early
