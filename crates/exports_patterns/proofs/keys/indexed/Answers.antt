use Rattle.exports_patterns.specs.Found.{keys_of}
use Rattle.exports_patterns.proofs.GatherLemmas.{index_from}
use Rattle.exports_patterns.proofs.keys.indexed.Goals as goal

pub returns : goal.returns
returns c =
    index_from (keys_of c.args.members.now) c.in_ok-exact.field-0.exact c.in_ok-of.field-0 c.in_ok-exact.field-0.groups c.in_ok-in_order.field-0
    c.in_ok-of-2.field-0 c.in_ok-in_order.ensures.ordered c.in_ok-exact.ensures c.in_ok-in_order.ensures.grouped c.in_ok-of.ensures c.in_ok-of-2.ensures
