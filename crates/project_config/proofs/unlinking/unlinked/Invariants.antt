use Rattle.std.proofs.Common.{◌≡◌, drop, map}
use Rattle.std.specs.Prelude.{bytes_eq, length, ◌≤◌, string_bytes}
use Rattle.std.specs.List.{IsDistinct}
use Rattle.tree_spec.specs.declared.LimitName.TheVariants.{Entries}
use Rattle.tree_spec.specs.Limits.{limit_number}
use Rattle.config_spec.specs.Projects.{unlinked}
use Rattle.project_config.specs.Outcomes.{config_with}
use Rattle.project_config.proofs.unlinking.unlinked.Given as goal

-- what is left of the words, taken out of what is left of the entries, is the whole
abbrev pub invariant-loop-word : goal.invariant-loop-word
invariant-loop-word l = record {
  rest :
      unlinked (map string_bytes (drop l.word-index l.words)) (config_with l.fn.config.base l.fn.config.page l.fn.config.conditions l.left)
      ≡ unlinked (map string_bytes l.words) l.fn.config;
  distinct : IsDistinct bytes_eq l.left;
  few : length l.left ≤ limit_number Entries;
}
