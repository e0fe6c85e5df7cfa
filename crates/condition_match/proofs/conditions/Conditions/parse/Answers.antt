use Rattle.std.proofs.Common.{rules, sym, subst, true≢false, ◌∙◌}
use Rattle.node_spec.specs.Conditions.{AreConditions}
use Rattle.condition_match.proofs.ConditionLemmas.{name_taken, name_put, no_condition, no_conditions, none_read}
use Rattle.condition_match.proofs.ConditionLemmas.{still_conditions, one_more, stands_twice}
use Rattle.condition_match.proofs.conditions.Conditions.parse.Goals as goal

pub invariant_of-result : goal.invariant_of-result
invariant_of-result c = subst AreConditions (sym c.new-names.ensures) no_conditions

pub returns-then-is_empty-clause-allowed : goal.returns-then-is_empty-clause-allowed
returns-then-is_empty-clause-allowed c = subst AreConditions (sym c.new-names.ensures) no_conditions

pub loop-rest-init : goal.loop-rest-init
loop-rest-init c = (
  none_read c.args.text.now c.new-names.result c.new-names.ensures (search rules),
  subst AreConditions (sym c.new-names.ensures) no_conditions,
)

pub returns-then-not-is_condition-clause-names : goal.returns-then-not-is_condition-clause-names
returns-then-not-is_condition-clause-names c =
    λ bad are. no_condition _ c.loop-rest.names _ _ (name_taken _ c.loop-rest.names c.loop-rest.rest c.in-Some.left _ _ c.loop-rest.invariant.0 c.in-Some.is c.cut_name.ensures)
    (λ is. true≢false (sym (c.is_condition.ensures.1 is) ∙ c.if-not-is_condition.true)) are

pub returns-then-holds-clause-names : goal.returns-then-holds-clause-names
returns-then-holds-clause-names c =
    λ bad are. stands_twice _ c.loop-rest.names _ _ (name_taken _ c.loop-rest.names c.loop-rest.rest c.in-Some.left _ _ c.loop-rest.invariant.0 c.in-Some.is c.cut_name.ensures) (sym c.holds.ensures ∙ c.if-holds.true) are

pub loop-rest-preserved : goal.loop-rest-preserved
loop-rest-preserved c =
    let split = name_taken _ c.loop-rest.names c.loop-rest.rest c.in-Some.left _ _ c.loop-rest.invariant.0 c.in-Some.is c.cut_name.ensures in (
      name_put _ c.loop-rest.names _ _ _ _ split c.in_ok-push.ensures c.in_ok-of.ensures,
      still_conditions c.loop-rest.names _ _ _ c.in_ok-push.ensures c.in_ok-of.ensures (one_more c.loop-rest.names _ c.loop-rest.invariant.1 (λ e. c.if-len-eq32.false (c.len.ensures ∙ e)) (c.is_condition.ensures.0 c.if-not-is_condition.false) (sym c.holds.ensures ∙ c.if-holds.false)),
    )
