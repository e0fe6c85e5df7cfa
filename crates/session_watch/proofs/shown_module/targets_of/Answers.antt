use Rattle.std.proofs.Common.{◌≡◌, ◌<◌, ◌++◌, ◌∷◌, [], length, take, sym, ap, ◌∙◌, arith}
use Rattle.session_watch.proofs.Copying.{next_target}
use Rattle.session_watch.proofs.shown_module.targets_of.Goals as goal

pub loop-request-preserved : goal.loop-request-preserved
loop-request-preserved c =
    let targets = c.args.module.now.targets in
    let each = c.requests-request-end.ensures.well_made.one_each in
    let below : c.loop-request.request < length targets = omega (arith, each, c.requests-request-end.ensures.count, c.loop-request-test.true) in
    c.in_ok-push.ensures
    ∙ (ap (λ front. front ++ c.target.result ∷ []) c.loop-request.invariant
    ∙ (ap (λ target. take c.loop-request.request targets ++ target ∷ []) c.target.ensures ∙ sym (next_target targets c.loop-request.request below)))
