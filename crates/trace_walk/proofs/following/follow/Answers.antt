use Rattle.std.proofs.Common.{◌≡◌, ◌∙◌, Ok, Err, refl, sym, subst, arith}
use Rattle.tree_spec.specs.declared.LimitName.TheVariants.{Depth}
use Rattle.trace_spec.specs.declared.TraceFault.TheVariants.{Limit, Memory}
use Rattle.trace_walk.specs.Kinds.{IsOfWalk}
use Rattle.trace_walk.specs.Shown.{before_of, done, answer_of}
use Rattle.trace_walk.specs.declared.answerer.NodeAnswer.TheVariants.{Refused, TooDeep}
use Rattle.trace_walk.proofs.FaultKinds.{answers_kind}
use Rattle.trace_walk.proofs.Visiting.{targets_counted}
use Rattle.trace_walk.proofs.Advancing.{bounded_none, bounded_request, one_refused, one_put}
use Rattle.trace_walk.proofs.FollowedRequests.{follow_refused, follow_failed, follow_lost, follow_led, given_refused, given_too_deep}
use Rattle.trace_walk.proofs.following.follow.Goals as goal

pub returns-in_err-asked-clause-met : goal.returns-in_err-asked-clause-met
returns-in_err-asked-clause-met g c = λ r is all.
    follow_refused _ c.args.config.now (before_of c.args.tables.now) r c.args.specifier.now c.in_err-asked.field-0.0 c.from_residual.result c.args.tables.now c.from_residual.ensures.1 (c.in_err-asked.ensures.checked c.args.config.now (before_of c.args.tables.now) r (targets_counted c.args.tables.now c.len.result (let e = c.len.ensures in let kept = c.args.tables.now.targets.ok.0 in omega (arith, e, kept))) is)

pub returns-in_err-module-clause-met : goal.returns-in_err-module-clause-met
returns-in_err-module-clause-met g c = λ r is all.
    follow_failed _ _ c.args.config.now (before_of c.args.tables.now) r c.conditions-conditions.result.now c.args.referrer.now.path c.args.specifier.now (record { referrer = c.args.referrer.now.name; asked = c.in_ok-asked.asked }) c.in_err-module.field-0.0 c.from_residual-in_err-module.result c.args.tables.now
    c.conditions-conditions.ensures is.path c.from_residual-in_err-module.ensures.1 ((c.in_ok-asked.ensures.checked c.args.config.now (before_of c.args.tables.now) r (targets_counted c.args.tables.now c.len.result (let e = c.len.ensures in let kept = c.args.tables.now.targets.ok.0 in omega (arith, e, kept))) is).given (λ e. cc)) (rw c.as_str.ensures at c.in_err-module.ensures.met)

pub returns-in-Resolved-clause-met : goal.returns-in-Resolved-clause-met
returns-in-Resolved-clause-met g c = λ r is all.
    let target : c.new-target.result ≡ c.in-Resolved.module = (λ i. record { path = (c.new-target.ensures.path ∙ c.into_parts-path.ensures.path) i; suffix = (c.new-target.ensures.suffix ∙ c.into_parts-path.ensures.suffix) i }) in
    follow_led _ _ c.args.config.now (before_of c.args.tables.now) r c.conditions-conditions.result.now c.args.referrer.now.path c.args.specifier.now (record { referrer = c.args.referrer.now.name; asked = c.in_ok-asked.asked }) (Ok c.in-Resolved.module) (done c.put.result c.put.new.self)
    c.conditions-conditions.ensures is.path ((c.in_ok-asked.ensures.checked c.args.config.now (before_of c.args.tables.now) r (targets_counted c.args.tables.now c.len.result (let e = c.len.ensures in let kept = c.args.tables.now.targets.ok.0 in omega (arith, e, kept))) is).given (λ e. cc)) (rw (c.as_str.ensures, c.in-Resolved.is) at c.in_ok-module.ensures.met) (rw target at (c.put.ensures.put r is all))

pub returns-in_ok-refusal-in-Refused-clause-met : goal.returns-in_ok-refusal-in-Refused-clause-met
returns-in_ok-refusal-in-Refused-clause-met g c = λ r is all.
    follow_led _ _ c.args.config.now (before_of c.args.tables.now) r c.conditions-conditions.result.now c.args.referrer.now.path c.args.specifier.now (record { referrer = c.args.referrer.now.name; asked = c.in_ok-asked.asked }) (answer_of (Refused c.in-Refused.cause)) (Err c.in_ok-refusal-in-Refused.field-0)
    c.conditions-conditions.ensures is.path ((c.in_ok-asked.ensures.checked c.args.config.now (before_of c.args.tables.now) r (targets_counted c.args.tables.now c.len.result (let e = c.len.ensures in let kept = c.args.tables.now.targets.ok.0 in omega (arith, e, kept))) is).given (λ e. cc)) (rw (c.as_str.ensures, c.in-Refused.is) at c.in_ok-module.ensures.met)
    (given_refused c.args.config.now r c.args.referrer.now (before_of c.args.tables.now) c.args.specifier.now (record { referrer = c.args.referrer.now.name; asked = c.in_ok-asked.asked }) c.in-Refused.cause c.from.result c.in_ok-refusal-in-Refused.field-0 is c.from.ensures c.in_ok-refusal-in-Refused.ensures)

pub returns-in-TooDeep-clause-met : goal.returns-in-TooDeep-clause-met
returns-in-TooDeep-clause-met g c = λ r is all.
    follow_led _ _ c.args.config.now (before_of c.args.tables.now) r c.conditions-conditions.result.now c.args.referrer.now.path c.args.specifier.now (record { referrer = c.args.referrer.now.name; asked = c.in_ok-asked.asked }) (answer_of TooDeep) _
    c.conditions-conditions.ensures is.path ((c.in_ok-asked.ensures.checked c.args.config.now (before_of c.args.tables.now) r (targets_counted c.args.tables.now c.len.result (let e = c.len.ensures in let kept = c.args.tables.now.targets.ok.0 in omega (arith, e, kept))) is).given (λ e. cc)) (rw (c.as_str.ensures, c.in-TooDeep.is) at c.in_ok-module.ensures.met)
    (given_too_deep c.args.config.now r (before_of c.args.tables.now) c.args.specifier.now (record { referrer = c.args.referrer.now.name; asked = c.in_ok-asked.asked }))

pub returns-in_err-refusal-in-Refused-clause-met : goal.returns-in_err-refusal-in-Refused-clause-met
returns-in_err-refusal-in-Refused-clause-met g c = λ r is all.
    follow_lost _ _ c.args.config.now (before_of c.args.tables.now) r c.conditions-conditions.result.now c.args.referrer.now.path c.args.specifier.now (record { referrer = c.args.referrer.now.name; asked = c.in_ok-asked.asked }) (answer_of (Refused c.in-Refused.cause)) c.from_residual-in_err-refusal-in-Refused.result c.args.tables.now
    c.conditions-conditions.ensures is.path c.from_residual-in_err-refusal-in-Refused.ensures.1 ((c.in_ok-asked.ensures.checked c.args.config.now (before_of c.args.tables.now) r (targets_counted c.args.tables.now c.len.result (let e = c.len.ensures in let kept = c.args.tables.now.targets.ok.0 in omega (arith, e, kept))) is).given (λ e. cc)) (rw (c.as_str.ensures, c.in-Refused.is) at c.in_ok-module.ensures.met)

pub returns-in_err-asked-clause-one : goal.returns-in_err-asked-clause-one
returns-in_err-asked-clause-one g c =
    one_refused c.args.config.now _ c.args.tables.now _ _ _ _ c.in_err-asked.field-0.0 c.from_residual.result c.from_residual.ensures.1 (omega arith) (bounded_none 0 c.args.tables.now _) (c.in_err-asked.ensures.within c.args.config.now)

pub returns-in_err-module-clause-one : goal.returns-in_err-module-clause-one
returns-in_err-module-clause-one g c =
    one_refused c.args.config.now _ c.args.tables.now _ _ _ _ c.in_err-module.field-0.0 c.from_residual-in_err-module.result c.from_residual-in_err-module.ensures.1 c.in_err-module.ensures.answered.steps (bounded_request c.args.tables.now _ _ c.in_err-module.ensures.answered.steps (let e = c.len.ensures in let kept = c.args.tables.now.targets.ok.0 in omega (arith, e, kept, c.in_ok-asked.ensures.within.0)))
    (answers_kind c.args.config.now c.in_err-module.field-0.0 c.in_err-module.ensures.answered.kind)

pub returns-in-Resolved-clause-one : goal.returns-in-Resolved-clause-one
returns-in-Resolved-clause-one g c = one_put _ _ _ _ _ _ _ c.put.result c.in_ok-module.ensures.answered.steps (let e = c.len.ensures in let kept = c.args.tables.now.targets.ok.0 in omega (arith, e, kept, c.in_ok-asked.ensures.within.0)) c.in_ok-module.ensures.answered.ready c.put.ensures.puts

pub returns-in_ok-refusal-in-Refused-clause-one : goal.returns-in_ok-refusal-in-Refused-clause-one
returns-in_ok-refusal-in-Refused-clause-one g c =
    one_refused c.args.config.now _ c.args.tables.now _ _ _ _ c.in_ok-refusal-in-Refused.field-0 (Err c.in_ok-refusal-in-Refused.field-0) refl c.in_ok-module.ensures.answered.steps (bounded_request c.args.tables.now _ _ c.in_ok-module.ensures.answered.steps (let e = c.len.ensures in let kept = c.args.tables.now.targets.ok.0 in omega (arith, e, kept, c.in_ok-asked.ensures.within.0)))
    (subst (IsOfWalk c.args.config.now) (sym c.in_ok-refusal-in-Refused.ensures) c.in_ok-asked.ensures.within.1)

pub returns-in-TooDeep-clause-one : goal.returns-in-TooDeep-clause-one
returns-in-TooDeep-clause-one g c =
    one_refused c.args.config.now _ c.args.tables.now _ _ _ _ (Limit Depth) (Err (Limit Depth)) refl c.in_ok-module.ensures.answered.steps (bounded_request c.args.tables.now _ _ c.in_ok-module.ensures.answered.steps (let e = c.len.ensures in let kept = c.args.tables.now.targets.ok.0 in omega (arith, e, kept, c.in_ok-asked.ensures.within.0))) tt

pub returns-in_err-refusal-in-Refused-clause-one : goal.returns-in_err-refusal-in-Refused-clause-one
returns-in_err-refusal-in-Refused-clause-one g c =
    one_refused c.args.config.now _ c.args.tables.now _ _ _ _ Memory c.from_residual-in_err-refusal-in-Refused.result c.from_residual-in_err-refusal-in-Refused.ensures.1 c.in_ok-module.ensures.answered.steps (bounded_request c.args.tables.now _ _ c.in_ok-module.ensures.answered.steps (let e = c.len.ensures in let kept = c.args.tables.now.targets.ok.0 in omega (arith, e, kept, c.in_ok-asked.ensures.within.0))) tt
