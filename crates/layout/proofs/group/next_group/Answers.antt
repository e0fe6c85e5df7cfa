use Rattle.std.proofs.Common.{rules, subst}
use Rattle.layout_spec.specs.declared.Need.{Need}
use Rattle.layout.specs.Groups.{IsFront}
use Rattle.layout.proofs.Grouping.{group_from}
use Rattle.layout.proofs.group.next_group.Goals as goal

pub returns : goal.returns
returns c =
    group_from c.args.rows.now c.split_at.result.0.now c.split_at.result.1.now c.in-Some.field-0-1.now c.in-Some.first.now c.front_size-size.result (search rules)
    (subst (λ (n : Need). IsFront n.asked c.args.rows.now c.front_size-size.result) c.need.ensures c.front_size-size.ensures)
    (search rules) (search rules)
