use Rattle.std.proofs.Common.{rules}
use Rattle.layout.specs.Laid.{laid_map}
use Rattle.layout.proofs.LaidGroups.{one_laid}
use Rattle.layout.proofs.one.lay_one.Goals as goal

pub returns-clause-laid : goal.returns-clause-laid
returns-clause-laid c =
    one_laid c.args.asked.now c.args.target.now c.args.group.now (laid_map c.args.laid.now) (laid_map c.lay_at_top.new.laid) c.requires.asking c.requires.one
    (c.in_ok-has_few_places.ensures.few_is (search rules)) c.in_ok-lay_at_top.ensures
