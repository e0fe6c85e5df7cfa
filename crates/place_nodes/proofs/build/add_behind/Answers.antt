use Rattle.std.proofs.Common.{rules, ◌≡◌, sym, subst, ◌+◌, ◌≤◌, length}
use Rattle.place_nodes.specs.Growing.{IsReady}
use Rattle.place_nodes.proofs.Finding.{row_again, row_behind, behind_ready, behind_within}
use Rattle.place_nodes.proofs.build.add_behind.Goals as goal

pub returns-then-eq : goal.returns-then-eq
returns-then-eq c = row_again c.args.targets.now c.args.nodes.now.items c.args.nodes.now.items c.args.last.now c.args.need.now (search rules) (search rules)

pub add_places-requires-clause-ready : goal.add_places-requires-clause-ready
add_places-requires-clause-ready c =
    let same : c.as_str-3.result.now ≡ c.args.need.now.referrer = search rules in
    subst (λ r. IsReady c.args.nodes.now.items r (c.common-from.result + 1)) (sym same) (behind_ready c.args.targets.now c.args.nodes.now.items c.args.last.now c.args.need.now (c.common-from.result + 1) c.requires.can (search rules) (search rules))

pub add_places-requires-clause-within : goal.add_places-requires-clause-within
add_places-requires-clause-within c =
    let same : c.as_str-3.result.now ≡ c.args.need.now.referrer = search rules in
    subst (λ r. c.common-from.result + 1 ≤ length r) (sym same) (behind_within c.args.targets.now c.args.nodes.now.items c.args.last.now c.args.need.now (c.common-from.result + 1) c.requires.can (search rules) (search rules))

pub returns : goal.returns
returns c = row_behind _ c.args.targets.now c.args.nodes.now.items c.add_places.new.nodes.items c.args.last.now c.args.need.now c.args.own c.add_places.result c.requires.can (search rules) c.requires.own (search rules)
