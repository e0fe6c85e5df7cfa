use Rattle.std.proofs.Common.{arith}
use Rattle.ordered_json.proofs.EscapesLemmas.{no_first, no_second, no_third, no_fourth, all_four}
use Rattle.ordered_json.proofs.escapes.code_unit.Goals as goal

pub returns-in_err-first : goal.returns-in_err-first
returns-in_err-first c = rw c.from_residual.ensures (no_first _ c.in_err-first.ensures)

pub returns-in_err-second : goal.returns-in_err-second
returns-in_err-second c = rw c.from_residual-in_err-second.ensures (no_second _ _ _ c.in_ok-first.ensures.0 c.in_err-second.ensures)

pub returns-in_err-third : goal.returns-in_err-third
returns-in_err-third c = rw c.from_residual-in_err-third.ensures (no_third _ _ _ c.in_ok-first.ensures.0 _ _ c.in_ok-second.ensures.0 c.in_err-third.ensures)

pub returns-in_err-fourth : goal.returns-in_err-fourth
returns-in_err-fourth c = rw c.from_residual-in_err-fourth.ensures (no_fourth _ _ _ c.in_ok-first.ensures.0 _ _ c.in_ok-second.ensures.0 _ _ c.in_ok-third.ensures.0 c.in_err-fourth.ensures)

pub returns : goal.returns
returns c = (
  all_four _ _ _ c.in_ok-first.ensures.0 _ _ c.in_ok-second.ensures.0 _ _ c.in_ok-third.ensures.0 _ _ c.in_ok-fourth.ensures.0,
  omega (arith, c.in_ok-first.ensures.1, c.in_ok-second.ensures.1, c.in_ok-third.ensures.1, c.in_ok-fourth.ensures.1),
)
