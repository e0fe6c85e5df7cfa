use Rattle.std.proofs.Common.{rules}
use Rattle.trace_walk.proofs.visits.referrer_of.Goals as goal

pub returns : goal.returns
returns c = record {
  name_is = search rules;
  text = search rules;
  path = search rules;
  shown_so = search rules;
}
