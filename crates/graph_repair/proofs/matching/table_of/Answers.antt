use Rattle.std.proofs.Common.{arith}
use Rattle.std.specs.HashMap as map
use Rattle.trace_spec.specs.Modules.{is_module}
use Rattle.graph_repair.proofs.KeyedPlaces.{key_more, keys_all}
use Rattle.graph_repair.proofs.matching.table_of.Goals as goal

pub loop-place-init : goal.loop-place-init
loop-place-init c = λ once i s v below. absurd (omega (arith, below))

pub loop-place-preserved : goal.loop-place-preserved
loop-place-preserved c =
    key_more c.args.shown.now c.args.own.now (map.get is_module c.loop-place.table) (map.get is_module c.put_key.new.table) c.loop-place.place c.slot_at.result c.slot_at.ensures c.requires
    c.in_ok-put_key.ensures c.loop-place.invariant

pub returns : goal.returns
returns c = keys_all c.args.shown.now c.args.own.now (map.get is_module c.loop-place.table) c.loop-place.place c.loop-place-test.false c.loop-place.invariant
