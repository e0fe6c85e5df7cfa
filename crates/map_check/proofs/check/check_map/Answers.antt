use Rattle.std.proofs.Common.{rules, ◌≡◌, Some}
use Rattle.std.specs.Prelude.{slice_get}
use Rattle.map_check.proofs.CheckLemmas.{next_need}
use Rattle.map_check.proofs.check.check_map.Goals as goal

pub loop-number-preserved : goal.loop-number-preserved
loop-number-preserved c =
    let here : slice_get c.args.needs.now c.loop-number.number ≡ Some c.in-Some.need.now = search (rules) in
    next_need c.args.parsed.now c.loop-number.number c.args.needs.now c.in-Some.need.now c.loop-number.found c.put_difference.new.found c.loop-number.invariant here c.in_ok-put_difference.ensures
