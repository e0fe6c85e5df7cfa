use Rattle.std.proofs.Common.{rules, sym, ◌≤◌, length}
use Rattle.generation.proofs.KeptNeeds.{one_copied, all_copied, none_left}
use Rattle.generation.proofs.kept_layout.copied.Goals as goal
use Rattle.generation.proofs.kept_layout.copied.Goals.{else-loop-place-test, then-loop-place-test+in_default}

pub loop-place-preserved : goal.loop-place-preserved
loop-place-preserved c =
    one_copied c.args.needs.now c.loop-place.copies.items c.push.new.self.items c.loop-place.place c.in-Some.need.now (search (rules, sym)) c.loop-place.invariant (search rules)

pub returns : goal.returns
returns c =
    let past : length c.args.needs.now ≤ c.loop-place.place =
    elim c.loop-place-test.branch [
      | else-loop-place-test w ↦ search rules
      | then-loop-place-test+in_default w ↦ none_left c.args.needs.now c.loop-place.place (search (rules, sym))
    ] in
    all_copied c.args.needs.now c.loop-place.copies.items c.loop-place.place past c.loop-place.invariant
