use Rattle.std.proofs.Common.{rules, ◌∙◌, length, arith, Ok, None}
use Rattle.import_map_spec.specs.LookUps.{scope_addresses}
use Rattle.html_resolve.proofs.OutcomeLemmas.{step_fails, step_some, step_none, fails_moved, answers_moved}
use Rattle.html_resolve.proofs.WalkLemmas.{scopes_none, scopes_next, scopes_reach, scope_is, no_scope, none_scoped, whole_front, within_front}
use Rattle.html_resolve.proofs.scopes.match_folders.Goals as goal

pub loop-front-init : goal.loop-front-init
loop-front-init c =
    (c.scope_reach-limit.ensures.within, λ url t. scopes_reach url c.args.text.now (scope_addresses c.args.map.now.scopes) c.args.referrer.now c.args.referrer.now c.scope_reach-limit.result (whole_front c.args.referrer.now) c.scope_reach-limit.ensures.within (λ n p q. none_scoped c.args.map.now.scopes _ (c.scope_reach-limit.ensures.none n p q)))

pub returns-in-Err : goal.returns-in-Err
returns-in-Err c = λ url t. step_fails c.in-Err.fault _ _ _ _ (c.loop-front.invariant.1 url t) (scopes_next url c.args.text.now (scope_addresses c.args.map.now.scopes) c.args.referrer.now c.loop-front.limit c.in-Some.front.text.now c.in-Some.front.rest.now c.in-Some.front.before.now c.in-Some.ensures)
    (fails_moved c.in-Err.fault _ _ (scope_is url c.args.text.now c.args.map.now.scopes c.in-Some.front.text.now c.in-Some-scope.addresses.now (search (rules))) (c.in-Err.ensures url t))

pub returns-in-Ok-Some : goal.returns-in-Ok-Some
returns-in-Ok-Some c = λ url t. step_some c.in-Ok-Some.field-0 c.in-Ok-Some.found _ _ _ _ (c.loop-front.invariant.1 url t) (scopes_next url c.args.text.now (scope_addresses c.args.map.now.scopes) c.args.referrer.now c.loop-front.limit c.in-Some.front.text.now c.in-Some.front.rest.now c.in-Some.front.before.now c.in-Some.ensures) (search (rules))
    (answers_moved (Ok c.in-Ok-Some.field-0) _ _ (scope_is url c.args.text.now c.args.map.now.scopes c.in-Some.front.text.now c.in-Some-scope.addresses.now (search (rules))) (c.in-Ok-Some.ensures url t))

pub loop-front-preserved : goal.loop-front-preserved
loop-front-preserved c = (
  within_front c.args.referrer.now c.loop-front.limit _ _ _ (length c.in-Some.front.before.now) c.loop-front.invariant.0 c.in-Some.ensures (omega arith),
  λ url t. step_none c.in-Ok-None.field-0 _ _ _ _ (c.loop-front.invariant.1 url t) (scopes_next url c.args.text.now (scope_addresses c.args.map.now.scopes) c.args.referrer.now c.loop-front.limit c.in-Some.front.text.now c.in-Some.front.rest.now c.in-Some.front.before.now c.in-Some.ensures) (search (rules))
      (answers_moved (Ok c.in-Ok-None.field-0) _ _ (scope_is url c.args.text.now c.args.map.now.scopes c.in-Some.front.text.now c.in-Some-scope.addresses.now (search (rules))) (c.in-Ok-None.ensures url t)),
)

pub loop-front-preserved-in-None : goal.loop-front-preserved-in-None
loop-front-preserved-in-None c = (
  within_front c.args.referrer.now c.loop-front.limit _ _ _ c.scope_reach-limit-in-None.result c.loop-front.invariant.0 c.in-Some.ensures c.scope_reach-limit-in-None.ensures.within,
  λ url t. step_none None _ _ _ _ (c.loop-front.invariant.1 url t) (scopes_next url c.args.text.now (scope_addresses c.args.map.now.scopes) c.args.referrer.now c.loop-front.limit c.in-Some.front.text.now c.in-Some.front.rest.now c.in-Some.front.before.now c.in-Some.ensures) (search (rules)) (no_scope url c.args.text.now c.args.map.now.scopes c.in-Some.front.text.now (search (rules)))
      ∙ scopes_reach url c.args.text.now (scope_addresses c.args.map.now.scopes) c.args.referrer.now c.in-Some.front.before.now c.scope_reach-limit-in-None.result c.in-Some.ensures.left c.scope_reach-limit-in-None.ensures.within (λ n p q. none_scoped c.args.map.now.scopes _ (c.scope_reach-limit-in-None.ensures.none n p q)),
)

pub returns : goal.returns
returns c = λ url t. c.loop-front.invariant.1 url t ∙ scopes_none url c.args.text.now (scope_addresses c.args.map.now.scopes) c.args.referrer.now c.loop-front.limit c.in_default.ensures
