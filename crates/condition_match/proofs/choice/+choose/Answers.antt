use Rattle.std.proofs.Common.{rules, refl, sym, subst, ◌∙◌, arith}
use Rattle.std.proofs.lemmas.Bool.{eqb-true, eqb-false}
use Rattle.std.proofs.lemmas.List.{drop_all}
use Rattle.node_spec.specs.PackageTargets.{ResolvesText}
use Rattle.ordered_json.specs.Lists.{values_of, pairs_of}
use Rattle.condition_match.specs.Choosing.{rules_of}
use Rattle.condition_match.proofs.Sizes.{item_size, member_size, list_size}
use Rattle.condition_match.proofs.AskLemmas.{comes_err, comes_as, text_value, list_value, object_value, item_passed, item_decided, items_end, item_begun, member_undefined, member_defined, members_end, member_begun, null_chosen, bool_chosen, number_chosen, empty_chosen, index_chosen}
use Rattle.condition_match.proofs.choice.+choose.Goals as goal

pub choose_value-choose_item-requires : goal.choose_value-choose_item-requires
choose_value-choose_item-requires g t c κs within = (omega (arith, list_size c.args.target.now c.in-List.items c.in-List.is, c.decreases), search rules)

pub choose_item-choose_value-requires : goal.choose_item-choose_value-requires
choose_item-choose_value-requires g t c κs within =
    (omega (arith, item_size (values_of c.args.items.now) c.loop-index.index c.item_at-item.result.now _ c.item_at-item.ensures, c.decreases), search rules)

pub choose_item-returns-then-not-is_passed : goal.choose_item-returns-then-not-is_passed
choose_item-returns-then-not-is_passed g t c =
    item_decided g.B.BareTarget.gives (rules_of c.args.rules.now) (values_of c.args.items.now) _ _ c.item_at-item.result.now c.loop-index.last c.in_ok-outcome.outcome c.args.bare.now c.loop-index.bare c.choose_value.new.bare c.loop-index.invariant c.item_at-item.ensures c.in_ok-outcome.ensures (sym c.is_passed.ensures ∙ c.if-not-is_passed.true)

pub choose_item-loop-index-preserved : goal.choose_item-loop-index-preserved
choose_item-loop-index-preserved g t c =
    item_passed g.B.BareTarget.gives (rules_of c.args.rules.now) (values_of c.args.items.now) _ _ c.item_at-item.result.now c.loop-index.last c.in_ok-outcome.outcome c.later-last.result c.args.bare.now c.loop-index.bare c.choose_value.new.bare c.loop-index.invariant c.item_at-item.ensures c.in_ok-outcome.ensures (sym c.is_passed.ensures ∙ c.if-not-is_passed.false) c.later-last.ensures

pub choose_item-returns : goal.choose_item-returns
choose_item-returns g t c =
    items_end g.B.BareTarget.gives (rules_of c.args.rules.now) (values_of c.args.items.now) _ c.loop-index.last c.args.bare.now c.loop-index.bare c.loop-index.invariant (drop_all c.loop-index.index (values_of c.args.items.now) (omega (arith, c.len-index-end.ensures)))

pub choose_member-try_member-requires : goal.choose_member-try_member-requires
choose_member-try_member-requires g t c κs within =
    (omega (arith, member_size (pairs_of c.args.members.now) c.loop-index.index c.member_at.result.0.now c.member_at.result.1.now _ c.member_at.ensures, c.decreases), search rules)

pub choose_member-returns-then-not-is_undefined : goal.choose_member-returns-then-not-is_undefined
choose_member-returns-then-not-is_undefined g t c =
    member_defined g.B.BareTarget.gives (rules_of c.args.rules.now) (pairs_of c.args.members.now) _ _ c.member_at.result.0.now c.member_at.result.1.now c.in_ok-outcome.outcome c.args.bare.now c.loop-index.bare c.try_member.new.bare c.loop-index.invariant c.member_at.ensures c.in_ok-outcome.ensures (sym c.is_undefined.ensures ∙ c.if-not-is_undefined.true)

pub choose_member-loop-index-preserved : goal.choose_member-loop-index-preserved
choose_member-loop-index-preserved g t c =
    member_undefined g.B.BareTarget.gives (rules_of c.args.rules.now) (pairs_of c.args.members.now) _ _ c.member_at.result.0.now c.member_at.result.1.now c.in_ok-outcome.outcome c.args.bare.now c.loop-index.bare c.try_member.new.bare c.loop-index.invariant c.member_at.ensures c.in_ok-outcome.ensures (sym c.is_undefined.ensures ∙ c.if-not-is_undefined.false)

pub choose_member-returns : goal.choose_member-returns
choose_member-returns g t c =
    members_end g.B.BareTarget.gives (rules_of c.args.rules.now) (pairs_of c.args.members.now) _ c.args.bare.now c.loop-index.bare c.loop-index.invariant (drop_all c.loop-index.index (pairs_of c.args.members.now) (omega (arith, c.len-index-end.ensures)))

pub choose_value-returns-in-Null : goal.choose_value-returns-in-Null
choose_value-returns-in-Null g t c = null_chosen g.B.BareTarget.gives (rules_of c.args.rules.now) c.args.target.now c.args.bare.now c.args.bare.now c.in-Null.is refl

pub choose_value-returns-in-Bool : goal.choose_value-returns-in-Bool
choose_value-returns-in-Bool g t c = bool_chosen g.B.BareTarget.gives (rules_of c.args.rules.now) c.args.target.now c.in-Bool.field-0 c.args.bare.now c.args.bare.now c.in-Bool.is refl

pub choose_value-returns-in-Number : goal.choose_value-returns-in-Number
choose_value-returns-in-Number g t c = number_chosen g.B.BareTarget.gives (rules_of c.args.rules.now) c.args.target.now c.in-Number.field-0 c.args.bare.now c.args.bare.now c.in-Number.is refl

pub choose_value-returns-in-Text : goal.choose_value-returns-in-Text
choose_value-returns-in-Text g t c =
    comes_as g.B.BareTarget.gives g.B.BareTarget.fails _ _ c.args.bare.now c.choose_text.new.bare c.choose_text.result
    (λ asked out r. text_value (rules_of c.args.rules.now) c.args.target.now c.in-Text.text c.in-Text.is asked out (subst (λ text. ResolvesText (rules_of c.args.rules.now) text asked out) c.as_str.ensures r))
    c.choose_text.ensures

pub choose_value-returns-then-is_empty : goal.choose_value-returns-then-is_empty
choose_value-returns-then-is_empty g t c =
    empty_chosen g.B.BareTarget.gives (rules_of c.args.rules.now) c.args.target.now c.in-List.items c.args.bare.now c.args.bare.now c.in-List.is (eqb-true _ 0 (sym c.is_empty.ensures ∙ c.if-is_empty.true)) refl

pub choose_value-returns-else-is_empty : goal.choose_value-returns-else-is_empty
choose_value-returns-else-is_empty g t c =
    comes_as g.B.BareTarget.gives g.B.BareTarget.fails _ _ c.args.bare.now c.choose_item.new.bare c.choose_item.result
    (λ asked out r. list_value (rules_of c.args.rules.now) c.args.target.now c.in-List.items c.in-List.is (eqb-false _ 0 (sym c.is_empty.ensures ∙ c.if-is_empty.false)) asked out r)
    c.choose_item.ensures

pub choose_value-returns-then-has_index_key : goal.choose_value-returns-then-has_index_key
choose_value-returns-then-has_index_key g t c =
    index_chosen g.B.BareTarget.gives (rules_of c.args.rules.now) c.args.target.now c.in-Object.members c.args.bare.now c.args.bare.now c.in-Object.is (sym c.has_index_key.ensures ∙ c.if-has_index_key.true) refl

pub choose_value-returns-else-has_index_key : goal.choose_value-returns-else-has_index_key
choose_value-returns-else-has_index_key g t c =
    comes_as g.B.BareTarget.gives g.B.BareTarget.fails _ _ c.args.bare.now c.choose_member.new.bare c.choose_member.result
    (λ asked out r. object_value (rules_of c.args.rules.now) c.args.target.now c.in-Object.members c.in-Object.is (sym c.has_index_key.ensures ∙ c.if-has_index_key.false) asked out r)
    c.choose_member.ensures

pub choose_item-returns-in_err-outcome : goal.choose_item-returns-in_err-outcome
choose_item-returns-in_err-outcome g t c =
    comes_err g.B.BareTarget.gives g.B.BareTarget.fails _ _ c.args.bare.now c.choose_value.new.bare c.from_residual.result c.from_residual.ensures.1
    (item_begun g.B.BareTarget.gives g.B.BareTarget.fails (rules_of c.args.rules.now) (values_of c.args.items.now) _ _ c.item_at-item.result.now c.loop-index.last c.args.bare.now c.loop-index.bare c.choose_value.new.bare c.loop-index.invariant c.item_at-item.ensures c.in_err-outcome.ensures)

pub choose_member-returns-in_err-outcome : goal.choose_member-returns-in_err-outcome
choose_member-returns-in_err-outcome g t c =
    comes_err g.B.BareTarget.gives g.B.BareTarget.fails _ _ c.args.bare.now c.try_member.new.bare c.from_residual.result c.from_residual.ensures.1
    (member_begun g.B.BareTarget.gives g.B.BareTarget.fails (rules_of c.args.rules.now) (pairs_of c.args.members.now) _ _ c.member_at.result.0.now c.member_at.result.1.now c.args.bare.now c.loop-index.bare c.try_member.new.bare c.loop-index.invariant c.member_at.ensures c.in_err-outcome.ensures)
