use Rattle.std.proofs.Common.{rules, refl, sym, ap, ◌∙◌, arith}
use Rattle.std.proofs.lemmas.Bool.{true≢false, eqb-true, eqb-false}
use Rattle.std.proofs.lemmas.List.{drop_all}
use Rattle.ordered_json.specs.Lists.{values_of, pairs_of}
use Rattle.ordered_json.specs.Shown.{members_of, json_of}
use Rattle.ordered_json.proofs.ShownLemmas.{json_of_object}
use Rattle.condition_match.proofs.Sizes.{size, item_size, member_size, list_size}
use Rattle.condition_match.proofs.ReduceLemmas.{value_null, value_bool, value_number, value_text, value_empty, value_list, value_config, value_object, none_gone, item_gone, all_gone, untried_left, tried_value, member_whole, members_end, member_passed}
use Rattle.condition_match.proofs.reducing.+reduce.Goals as goal

pub reduced_value-reduced_items-requires : goal.reduced_value-reduced_items-requires
reduced_value-reduced_items-requires t c =
    (omega (arith, list_size c.args.target.now c.in-List.items c.in-List.is, c.decreases), eqb-false _ 0 (sym c.is_empty.ensures ∙ c.if-is_empty.false))

pub reduced_value-reduced_members-requires : goal.reduced_value-reduced_members-requires
reduced_value-reduced_members-requires t c =
    (omega (arith, ap size (ap json_of c.in-Object.is ∙ json_of_object c.in-Object.members), c.decreases), sym c.has_index_key.ensures ∙ c.if-has_index_key.false)

pub reduced_items-reduced_value-requires : goal.reduced_items-reduced_value-requires
reduced_items-reduced_value-requires t c =
    omega (arith, item_size (values_of c.args.items.now) _ c.item_at-item.result.now _ c.item_at-item.ensures, c.decreases)

pub reduced_members-reduced_member-requires : goal.reduced_members-reduced_member-requires
reduced_members-reduced_member-requires t c =
    omega (arith, member_size (pairs_of c.args.members.now) c.loop-index.index c.member_at.result.0.now c.member_at.result.1.now _ c.member_at.ensures, c.decreases)

pub reduced_value-returns-in-Null : goal.reduced_value-returns-in-Null
reduced_value-returns-in-Null t c = value_null c.args.conditions.now c.args.imports c.args.target.now c.in-Null.is

pub reduced_value-returns-in-Bool : goal.reduced_value-returns-in-Bool
reduced_value-returns-in-Bool t c = value_bool c.args.conditions.now c.args.imports c.args.target.now c.in-Bool.field-0 c.in-Bool.is

pub reduced_value-returns-in-Number : goal.reduced_value-returns-in-Number
reduced_value-returns-in-Number t c = value_number c.args.conditions.now c.args.imports c.args.target.now c.in-Number.field-0 c.in-Number.is

pub reduced_value-returns-in-Text : goal.reduced_value-returns-in-Text
reduced_value-returns-in-Text t c =
    value_text c.args.conditions.now c.args.imports c.args.target.now c.in-Text.text c.reduced_text.result c.in-Text.is
    (rw c.as_str.ensures at c.reduced_text.ensures)

pub reduced_value-returns-then-is_empty : goal.reduced_value-returns-then-is_empty
reduced_value-returns-then-is_empty t c =
    value_empty c.args.conditions.now c.args.imports c.args.target.now c.in-List.items c.in-List.is
    (eqb-true _ 0 (sym c.is_empty.ensures ∙ c.if-is_empty.true))

pub reduced_value-returns-else-is_empty : goal.reduced_value-returns-else-is_empty
reduced_value-returns-else-is_empty t c =
    value_list c.args.conditions.now c.args.imports c.args.target.now c.in-List.items c.reduced_items.result c.in-List.is c.reduced_items.ensures

pub reduced_value-returns-then-has_index_key : goal.reduced_value-returns-then-has_index_key
reduced_value-returns-then-has_index_key t c =
    value_config c.args.conditions.now c.args.imports c.args.target.now c.in-Object.members c.no_object.result c.in-Object.is
    (sym c.has_index_key.ensures ∙ c.if-has_index_key.true) c.no_object.ensures

pub reduced_value-returns-else-has_index_key : goal.reduced_value-returns-else-has_index_key
reduced_value-returns-else-has_index_key t c =
    value_object c.args.conditions.now c.args.imports c.args.target.now c.in-Object.members c.reduced_members.result c.in-Object.is c.reduced_members.ensures

pub reduced_items-returns : goal.reduced_items-returns
reduced_items-returns t c =
    all_gone c.args.conditions.now c.args.imports (values_of c.args.items.now) c.loop-index.index c.loop-index.left c.whole.result
    c.requires (omega (arith, c.loop-index-test.false)) c.loop-index.invariant.leaves c.whole.ensures

pub reduced_items-loop-index-init : goal.reduced_items-loop-index-init
reduced_items-loop-index-init t c = record {
  within = omega (arith, c.len-index.ensures);
  leaves =
      none_gone c.args.conditions.now c.args.imports (values_of c.args.items.now) c.len-index.result _ c.len-index.ensures refl
      c.new.ensures.items;
}

pub reduced_items-loop-index-preserved : goal.reduced_items-loop-index-preserved
reduced_items-loop-index-preserved t c = record {
  within = omega (arith, c.loop-index.invariant.within);
  leaves =
      item_gone c.args.conditions.now c.args.imports (values_of c.args.items.now) c.loop-index.index _ c.item_at-item.result.now
      c.loop-index.left c.in_ok-left.left c.in_ok-made.made (omega (arith, c.loop-index-test.true)) c.item_at-item.ensures c.in_ok-left.ensures c.in_ok-made.ensures
      c.loop-index.invariant.leaves;
}

pub reduced_members-returns-then-not-is_undefined : goal.reduced_members-returns-then-not-is_undefined
reduced_members-returns-then-not-is_undefined t c =
    member_whole c.args.conditions.now c.args.imports (members_of (pairs_of c.args.members.now)) _ _ c.member_at.result.0.now
    (json_of c.member_at.result.1.now) c.in_ok-made.made c.requires c.loop-index.invariant (ap members_of c.member_at.ensures)
    (λ e. true≢false (sym (c.is_undefined.ensures.1 e) ∙ c.if-not-is_undefined.true)) c.in_ok-made.ensures

pub reduced_members-loop-index-preserved : goal.reduced_members-loop-index-preserved
reduced_members-loop-index-preserved t c =
    member_passed c.args.conditions.now c.args.imports (members_of (pairs_of c.args.members.now)) _ _ c.member_at.result.0.now
    (json_of c.member_at.result.1.now) c.in_ok-made.made c.loop-index.invariant (ap members_of c.member_at.ensures)
    (c.is_undefined.ensures.0 c.if-not-is_undefined.false) c.in_ok-made.ensures

pub reduced_members-returns : goal.reduced_members-returns
reduced_members-returns t c =
    members_end c.args.conditions.now c.args.imports (members_of (pairs_of c.args.members.now)) _ c.requires c.loop-index.invariant
    (ap members_of (drop_all c.loop-index.index (pairs_of c.args.members.now) (omega (arith, c.len-index-end.ensures))))

pub reduced_member-returns-then-is_tried : goal.reduced_member-returns-then-is_tried
reduced_member-returns-then-is_tried t c =
    tried_value c.args.conditions.now c.args.imports c.args.key.now (json_of c.args.value.now) c.reduced_value.result
    (rw c.as_str.ensures at (sym c.is_tried.ensures ∙ c.if-is_tried.true)) c.reduced_value.ensures

pub reduced_member-returns-else-is_tried : goal.reduced_member-returns-else-is_tried
reduced_member-returns-else-is_tried t c = untried_left c.args.conditions.now c.args.imports c.args.key.now (json_of c.args.value.now)
    (rw c.as_str.ensures at (sym c.is_tried.ensures ∙ c.if-is_tried.false))
