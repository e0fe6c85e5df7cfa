use Rattle.std.proofs.Common.{rules}
use Rattle.layout.specs.Laid.{laid_map}
use Rattle.layout.proofs.LaidGroups.{asking_first, group_laid_any, group_many_any}
use Rattle.layout.proofs.fewest.lay_group.Goals as goal

pub lay_one-requires-clause-asking : goal.lay_one-requires-clause-asking
lay_one-requires-clause-asking c = asking_first c.args.group.now c.in-Some.field-0-1.now c.in-Some.first.now c.need-need.result.now (search rules) (search rules) c.requires

pub returns-then-is_only_target-clause-laid : goal.returns-then-is_only_target-clause-laid
returns-then-is_only_target-clause-laid c =
    group_laid_any _ c.args.group.now c.in-Some.field-0-1.now c.in-Some.first.now c.need-need.result.now (laid_map c.args.laid.now) (laid_map c.lay_one.new.laid) c.lay_one.result (search rules) (search rules) c.lay_one.ensures.laid

pub returns-then-is_only_target-clause-many : goal.returns-then-is_only_target-clause-many
returns-then-is_only_target-clause-many c = group_many_any c.args.group.now c.in-Some.field-0-1.now c.in-Some.first.now c.need-need.result.now c.lay_one.result (search rules) (search rules) c.lay_one.ensures.many

pub lay_some-requires : goal.lay_some-requires
lay_some-requires c = asking_first c.args.group.now c.in-Some.field-0-1.now c.in-Some.first.now c.need-need.result.now (search rules) (search rules) c.requires

pub returns-clause-laid : goal.returns-clause-laid
returns-clause-laid c =
    group_laid_any _ c.args.group.now c.in-Some.field-0-1.now c.in-Some.first.now c.need-need.result.now (laid_map c.args.laid.now) (laid_map c.lay_some.new.laid) c.lay_some.result (search rules) (search rules) c.lay_some.ensures.laid

pub returns-clause-many : goal.returns-clause-many
returns-clause-many c = group_many_any c.args.group.now c.in-Some.field-0-1.now c.in-Some.first.now c.need-need.result.now c.lay_some.result (search rules) (search rules) c.lay_some.ensures.many
