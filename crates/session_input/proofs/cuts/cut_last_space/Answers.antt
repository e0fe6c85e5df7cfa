use Rattle.std.proofs.Common.{◌+◌, ◌-◌, refl, arith}
use Rattle.std.proofs.lemmas.List.{take_all, length-drop}
use Rattle.session_input.proofs.CutLemmas.{last_found}
use Rattle.session_input.proofs.cuts.cut_last_space.Goals as goal

pub returns-then-text-at-eq32 : goal.returns-then-text-at-eq32
returns-then-text-at-eq32 c =
    let some = c.loop-at-test.true in
    let within = c.loop-at.invariant.0 in
    last_found c.args.text.now _ _ (c.loop-at.at - 1) c.loop-at.at (omega (arith, some, within)) refl
    (take_all _ _ (omega (arith, length-drop (c.loop-at.at - 1 + 1) c.args.text.now))) c.if-text-at-eq32.true (omega (arith, some)) c.loop-at.invariant.1
