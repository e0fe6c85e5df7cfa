use Rattle.std.proofs.Common.{rules, ◌∙◌, ap, arith, drop}
use Rattle.module_spec.specs.StringValues.{hex_number}
use Rattle.es_module_parser.proofs.LiteralLemmas.{room_for_digit, digit_read, drop_read, below_next}
use Rattle.es_module_parser.proofs.literals.hex_number.Goals as goal

pub overflow_mul-value : goal.overflow_mul-value
overflow_mul-value c = let room = room_for_digit c.loop-left.value 0 c.args.count c.loop-left.left c.loop-left.invariant.below c.loop-left-test.true c.requires (omega arith) in omega (arith, room)

pub overflow_add-value : goal.overflow_add-value
overflow_add-value c = let room = room_for_digit c.loop-left.value c.in_ok-value.field-0 c.args.count c.loop-left.left c.loop-left.invariant.below c.loop-left-test.true c.requires c.in_ok-value.ensures.2 in omega (arith, room)

pub loop-left-preserved : goal.loop-left-preserved
loop-left-preserved c =
    record {
      utf8 = search rules;
      number = c.loop-left.invariant.number ∙ (ap (hex_number c.loop-left.value c.loop-left.left) c.in_ok-first.ensures ∙ digit_read c.loop-left.value c.loop-left.left c.in_ok-first.first c.in_ok-value.field-0 _ c.loop-left-test.true c.in_ok-value.ensures.0 c.in_ok-value.ensures.1);
      behind = c.loop-left.invariant.behind ∙ (ap (drop c.loop-left.left) c.in_ok-first.ensures ∙ drop_read c.loop-left.left c.in_ok-first.first _ c.loop-left-test.true);
      few = omega (arith, c.loop-left.invariant.few);
      below = below_next c.args.count c.loop-left.left c.loop-left.value c.in_ok-value.field-0 c.loop-left-test.true c.loop-left.invariant.few c.loop-left.invariant.below c.in_ok-value.ensures.2;
    }
