use Rattle.std.proofs.Common.{rules, ◌≡◌, true, false}
use Rattle.json_spec.specs.PropertyOrder.{is_array_index, number_of}
use Rattle.ordered_json.proofs.PropertyOrderLemmas.{other_passed, index_put}
use Rattle.ordered_json.proofs.property_order.put_index.Goals as goal

pub returns-in-None : goal.returns-in-None
returns-in-None c =
    let other : is_array_index c.args.pair.now.0 ≡ false = search (rules) in
    other_passed c.args.count c.args.pair.now c.args.numbered.now other

pub returns-in_ok-insert-in-Some : goal.returns-in_ok-insert-in-Some
returns-in_ok-insert-in-Some c =
    let index : is_array_index c.args.pair.now.0 ≡ true = search (rules) in
    let named : c.in-Some.number ≡ number_of c.args.pair.now.0 = search (rules) in
    index_put c.args.count c.in-Some.number c.args.pair c.args.numbered.now c.insert.new.self index named c.in_ok-insert-in-Some.ensures.entries
