use Rattle.project_config.proofs.MeasureConfig.{one_entry_is_distinct}
use Rattle.project_config.proofs.measured.measure_config.Goals as goal

pub new-requires-clause-distinct : goal.new-requires-clause-distinct
new-requires-clause-distinct c = one_entry_is_distinct c.in_ok-entries.entries c.in_ok-entries.ensures
