use Rattle.std.proofs.Common.{rules, ◌≡◌, false}
use Rattle.json_spec.specs.PropertyOrder.{is_array_index}
use Rattle.ordered_json.proofs.PropertyOrderLemmas.{other_put}
use Rattle.ordered_json.proofs.property_order.put_other.Goals as goal

pub returns-in_ok-push-in-None : goal.returns-in_ok-push-in-None
returns-in_ok-push-in-None c =
    let other : is_array_index c.args.pair.now.0 ≡ false = search (rules) in
    other_put c.args.pair c.args.ordered.now.items c.push.new.self.items other c.in_ok-push-in-None.ensures.items
