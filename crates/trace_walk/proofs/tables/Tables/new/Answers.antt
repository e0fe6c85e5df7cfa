use Rattle.std.proofs.Common.{rules}
use Rattle.trace_walk.proofs.tables.Tables.new.Goals as goal

pub returns : goal.returns
returns c = record {
  modules = search rules;
  sources = search rules;
  needs = search rules;
  spellings = search rules;
  targets = search rules;
}
