use Rattle.std.proofs.Common.{rules, ◌≡◌, Some}
use Rattle.std.specs.Prelude.{slice_get}
use Rattle.generator_core.proofs.ReportLemmas.{next_joined}
use Rattle.generator_core.proofs.checking.joined.Goals as goal

pub loop-number-preserved : goal.loop-number-preserved
loop-number-preserved c =
    let here : slice_get c.args.lines.now c.loop-number.number ≡ Some c.in-Some.line.now = search (rules) in
    next_joined c.args.lines.now c.loop-number.number c.in-Some.line.now _ c.loop-number.text.items c.extend_from_slice.new.self.items c.loop-number.invariant here (search rules)
