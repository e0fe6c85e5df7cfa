use Rattle.std.proofs.Common.{◌∙◌}
use Rattle.indexmap.proofs.CallerLemmas.{insert_entry-new}
use Rattle.trace_walk.proofs.TableLemmas.{none_found}
use Rattle.trace_walk.proofs.tables.insert.Goals as goal

pub returns : goal.returns
returns c = c.in_ok-insert.ensures.entries ∙ insert_entry-new _ c.args.modules.now c.args.target c.args.name (none_found c.args.target c.args.modules.now.entries c.requires)
