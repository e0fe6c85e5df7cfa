use Rattle.std.proofs.Common.{sym}
use Rattle.ordered_json.specs.Lists.{values_of}
use Rattle.shared_types.proofs.ListSteps.{drop_at}
use Rattle.condition_match.proofs.choice.item_at.Goals as goal

pub returns : goal.returns
returns c = drop_at (values_of c.args.items.now) c.args.index c.in-Some.item.now (sym (rw c.in-Some.is at c.at.ensures))
