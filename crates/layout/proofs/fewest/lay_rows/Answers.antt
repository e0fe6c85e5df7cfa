use Rattle.std.proofs.Common.{rules, refl}
use Rattle.std.proofs.lemmas.Result.{err_from_is_err_and}
use Rattle.layout.specs.Laid.{laid_map}
use Rattle.layout.proofs.Ways.{way_starts, group_asking, way_many, way_on, way_done}
use Rattle.layout.proofs.fewest.lay_rows.Goals as goal

pub loop-group-init : goal.loop-group-init
loop-group-init c = way_starts c.args.rows.now c.args.rows.now (laid_map c.new-laid.result) c.requires refl c.new-laid.ensures

pub lay_group-requires : goal.lay_group-requires
lay_group-requires c =
    (c.in-Some.ensures.first.asked, group_asking c.args.rows.now c.loop-group.left.now c.in-Some.group.now c.in-Some.more.now (laid_map c.loop-group.laid) c.requires c.loop-group.invariant c.in-Some.ensures)

pub returns-in_err-lay_group-clause-many : goal.returns-in_err-lay_group-clause-many
returns-in_err-lay_group-clause-many c =
    let p = err_from_is_err_and c.from_residual.result c.from_residual.ensures.1 in
    rw (p.1, p.2) (λ same.
    way_many c.args.rows.now c.loop-group.left.now c.in-Some.group.now c.in-Some.more.now (laid_map c.loop-group.laid) c.requires c.loop-group.invariant c.in-Some.ensures
    (c.in_err-lay_group.ensures.many same c.in-Some.ensures.first.asked
    (group_asking c.args.rows.now c.loop-group.left.now c.in-Some.group.now c.in-Some.more.now (laid_map c.loop-group.laid) c.requires c.loop-group.invariant c.in-Some.ensures)))

pub loop-group-preserved : goal.loop-group-preserved
loop-group-preserved c =
    way_on c.args.rows.now c.loop-group.left.now c.in-Some.group.now c.in-Some.more.now (laid_map c.loop-group.laid) c.requires c.loop-group.invariant c.in-Some.ensures (laid_map c.lay_group.new.laid)
    (c.in_ok-lay_group.ensures.laid c.in-Some.ensures.first.asked
    (group_asking c.args.rows.now c.loop-group.left.now c.in-Some.group.now c.in-Some.more.now (laid_map c.loop-group.laid) c.requires c.loop-group.invariant c.in-Some.ensures))

pub returns-clause-laid : goal.returns-clause-laid
returns-clause-laid c = way_done c.args.rows.now c.loop-group.left.now (laid_map c.loop-group.laid) c.loop-group.invariant (search rules)
