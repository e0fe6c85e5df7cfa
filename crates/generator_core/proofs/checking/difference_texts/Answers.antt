use Rattle.std.proofs.Common.{rules, ◌≡◌, Some}
use Rattle.std.specs.Prelude.{slice_get}
use Rattle.generator_core.proofs.ReportLemmas.{next_line}
use Rattle.generator_core.proofs.checking.difference_texts.Goals as goal

pub loop-number-preserved : goal.loop-number-preserved
loop-number-preserved c =
    let here : slice_get c.args.differences.now c.loop-number.number ≡ Some c.in-Some.difference.now = search (rules) in
    next_line c.args.trace.now.gathered c.args.differences.now c.loop-number.number c.in-Some.difference.now _ c.loop-number.lines c.push_difference.new.lines c.loop-number.invariant here c.in_ok-push_difference.ensures
