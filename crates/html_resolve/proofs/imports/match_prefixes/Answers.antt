use Rattle.std.proofs.Common.{rules, ◌∙◌}
use Rattle.std.specs.FinMap.{get}
use Rattle.html_resolve.proofs.OutcomeLemmas.{step_fails, step_some, step_none}
use Rattle.html_resolve.proofs.WalkLemmas.{keys_none, keys_next, keys_reach, whole_front, within_front}
use Rattle.html_resolve.proofs.imports.match_prefixes.Goals as goal

pub loop-front-init : goal.loop-front-init
loop-front-init c = (c.reach-limit.ensures.within, keys_reach (get c.args.addresses.now) c.args.text.now c.args.text.now c.reach-limit.result (whole_front c.args.text.now) c.reach-limit.ensures.within c.reach-limit.ensures.none)

pub returns-in-Err : goal.returns-in-Err
returns-in-Err c = step_fails c.in-Err.fault _ _ _ _ c.loop-front.invariant.1 (keys_next (get c.args.addresses.now) c.args.text.now c.loop-front.limit c.in-Some.front.text.now c.in-Some.front.rest.now c.in-Some.front.before.now c.in-Some.ensures) c.in-Err.ensures

pub returns-in-Ok-Some : goal.returns-in-Ok-Some
returns-in-Ok-Some c = step_some c.in-Ok-Some.field-0 c.in-Ok-Some.found _ _ _ _ c.loop-front.invariant.1 (keys_next (get c.args.addresses.now) c.args.text.now c.loop-front.limit c.in-Some.front.text.now c.in-Some.front.rest.now c.in-Some.front.before.now c.in-Some.ensures) (search (rules)) c.in-Ok-Some.ensures

pub loop-front-preserved : goal.loop-front-preserved
loop-front-preserved c =
    let walked = step_none c.in-Ok-None.field-0 _ _ _ _ c.loop-front.invariant.1 (keys_next (get c.args.addresses.now) c.args.text.now c.loop-front.limit c.in-Some.front.text.now c.in-Some.front.rest.now c.in-Some.front.before.now c.in-Some.ensures) (search (rules)) c.in-Ok-None.ensures in
    let passed = keys_reach (get c.args.addresses.now) c.args.text.now c.in-Some.front.before.now c.reach-limit-in-Some.result c.in-Some.ensures.left c.reach-limit-in-Some.ensures.within c.reach-limit-in-Some.ensures.none in
    (within_front c.args.text.now c.loop-front.limit _ _ _ _ c.loop-front.invariant.0 c.in-Some.ensures c.reach-limit-in-Some.ensures.within, walked ∙ passed)

pub returns : goal.returns
returns c = c.loop-front.invariant.1 ∙ keys_none (get c.args.addresses.now) c.args.text.now c.loop-front.limit c.in_default.ensures
