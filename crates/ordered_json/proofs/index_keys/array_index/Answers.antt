use Rattle.std.proofs.Common.{sym, ◌∙◌, arith}
use Rattle.std.proofs.lemmas.List.{drop_more, drop_all}
use Rattle.ordered_json.proofs.IndexKeys.{no_index, not_a_digit, too_great, next_digit, an_index}
use Rattle.ordered_json.proofs.index_keys.array_index.Goals as goal

pub returns-then-not-has_no_leading_zero : goal.returns-then-not-has_no_leading_zero
returns-then-not-has_no_leading_zero c = no_index c.args.text.now (sym c.has_no_leading_zero.ensures ∙ c.if-not-has_no_leading_zero.true)

pub returns-then-not-is_ascii_digit : goal.returns-then-not-is_ascii_digit
returns-then-not-is_ascii_digit c =
    not_a_digit c.args.text.now _ _ _ c.loop-byte.number c.loop-byte.invariant (drop_more c.args.text.now c.loop-byte.byte-index 0 c.loop-byte-test.true) (sym c.is_ascii_digit.ensures.value ∙ c.if-not-is_ascii_digit.true)

pub returns-then-number-gt-GREATEST_INDEX : goal.returns-then-number-gt-GREATEST_INDEX
returns-then-number-gt-GREATEST_INDEX c =
    too_great c.args.text.now _ _ _ c.loop-byte.number c.loop-byte.invariant (drop_more c.args.text.now c.loop-byte.byte-index 0 c.loop-byte-test.true) c.if-number-gt-GREATEST_INDEX.true

pub loop-byte-preserved : goal.loop-byte-preserved
loop-byte-preserved c =
    next_digit c.args.text.now _ _ _ c.loop-byte.number c.loop-byte.invariant (drop_more c.args.text.now c.loop-byte.byte-index 0 c.loop-byte-test.true) (sym c.is_ascii_digit.ensures.value ∙ c.if-not-is_ascii_digit.false) c.if-number-gt-GREATEST_INDEX.false

pub returns : goal.returns
returns c =
    an_index c.args.text.now _ c.loop-byte.number c.loop-byte.invariant (drop_all c.loop-byte.byte-index c.args.text.now (omega arith)) (sym c.has_no_leading_zero.ensures ∙ c.if-not-has_no_leading_zero.false)
