use Rattle.std.proofs.Common.{rules, ◌≡◌, Some, sym, subst, ◌<◌}
use Rattle.std.specs.Prelude.{slice_get, Contains}
use Rattle.layout_spec.specs.Places.{above}
use Rattle.layout_spec.proofs.Contained.{contains_at}
use Rattle.place_nodes.proofs.Walking.{IsWay, way_goes, way_found, way_ends, way_stops, bound}
use Rattle.place_nodes.proofs.nodes.above_of.Goals as goal

pub is_above-requires : goal.is_above-requires
is_above-requires c =
    c.requires.free c.in-Some-node_at.node.now
    (contains_at c.args.nodes.now c.in-Some.number c.in-Some-node_at.node.now (search rules))

pub returns-then-branch : goal.returns-then-branch
returns-then-branch c =
    let way : IsWay c.args.nodes.now c.args.place.now (Some c.in-Some.number) = subst (IsWay c.args.nodes.now c.args.place.now) c.in-Some.is c.loop-next.invariant in
    let at : slice_get c.args.nodes.now c.in-Some.number ≡ Some c.in-Some-node_at.node.now = search rules in
    let is : Contains (above c.args.place.now) c.in-Some-node_at.node.now.place =
    c.in_ok-is_above.ensures.0 c.if-branch.true in
    way_found c.args.nodes.now c.args.place.now c.in-Some.number c.in-Some-node_at.node.now c.requires way at is

pub loop-next-smaller : goal.loop-next-smaller
loop-next-smaller c =
    let way : IsWay c.args.nodes.now c.args.place.now (Some c.in-Some.number) = subst (IsWay c.args.nodes.now c.args.place.now) c.in-Some.is c.loop-next.invariant in
    let at : slice_get c.args.nodes.now c.in-Some.number ≡ Some c.in-Some-node_at.node.now = search rules in
    let less : bound c.in-Some-node_at.node.now.above < bound (Some c.in-Some.number) = (way_goes c.args.nodes.now c.args.place.now c.in-Some.number c.in-Some-node_at.node.now c.requires way at (search rules)).1 in
    subst (λ o. bound c.in-Some-node_at.node.now.above < bound o) (sym c.in-Some.is) less

pub loop-next-preserved : goal.loop-next-preserved
loop-next-preserved c =
    let way : IsWay c.args.nodes.now c.args.place.now (Some c.in-Some.number) = subst (IsWay c.args.nodes.now c.args.place.now) c.in-Some.is c.loop-next.invariant in
    let at : slice_get c.args.nodes.now c.in-Some.number ≡ Some c.in-Some-node_at.node.now = search rules in
    (way_goes c.args.nodes.now c.args.place.now c.in-Some.number c.in-Some-node_at.node.now c.requires way at (search rules)).0

pub returns-in_default-node_at : goal.returns-in_default-node_at
returns-in_default-node_at c = absurd (way_stops c.args.nodes.now c.args.place.now c.in-Some.number (subst (IsWay c.args.nodes.now c.args.place.now) c.in-Some.is c.loop-next.invariant) (search rules))

pub returns-in_default : goal.returns-in_default
returns-in_default c = way_ends c.args.nodes.now c.args.place.now c.loop-next.next c.requires c.loop-next.invariant (search rules)
