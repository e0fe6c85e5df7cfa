use Rattle.std.proofs.Common.{sym}
use Rattle.ordered_json.specs.Lists.{pairs_of}
use Rattle.shared_types.proofs.ListSteps.{drop_at}
use Rattle.condition_match.proofs.choice.member_at.Goals as goal

pub returns : goal.returns
returns c = drop_at (pairs_of c.args.members.now) c.args.index (c.in-Some.member.0.now, c.in-Some.member.1.now) (sym (rw c.in-Some.is at c.at.ensures))
