use Rattle.std.proofs.Common.{rules}
use Rattle.trace_config.proofs.config.Config.into_parts.Goals as goal

pub returns-clause-parts : goal.returns-clause-parts
returns-clause-parts c = record {
  base_is = search rules;
  page_is = search rules;
  conditions_are = search rules;
  entries_are = search rules;
}
