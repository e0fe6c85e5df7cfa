use Rattle.std.proofs.Common.{rules, refl, sym, ◌∙◌}
use Rattle.std.specs.Prelude.{None}
use Rattle.asking_spec.specs.Askings.{ask, answered}
use Rattle.tree_spec.proofs.ToldStates.{if_some, if_all}
use Rattle.node_resolve.specs.Places.{module_of}
use Rattle.node_resolve.specs.Responses.{responded}
use Rattle.package_lookup.specs.Lookups.{state_of}
use Rattle.trace_spec.specs.Questions.{of_request}
use Rattle.trace_walk.specs.Meeting.{fine}
use Rattle.trace_walk.specs.Shown.{resolutions}
use Rattle.request_trace.proofs.AnswerLemmas.{afresh, met_by}
use Rattle.kept_answers.specs.Freshness.{request_looks, IsSeenNow}
use Rattle.kept_answers.specs.RightAnswers.{untold_state}
use Rattle.kept_answers.specs.Tables.{AreRequests}
use Rattle.kept_answers.proofs.FreshSteps.{anew_taken}
use Rattle.kept_answers.proofs.RightAnswers.{same_by, untold_answered}
use Rattle.kept_trace.specs.Keeping.{keeps, stays_of}
use Rattle.kept_trace.specs.Ready.{AreBothRight, is_anew}
use Rattle.kept_trace.specs.declared.kept.Kept.{Kept}
use Rattle.kept_trace.proofs.KeepingAnswers.{same_stays, keeps_none, keeps_request, keeps_told, seen_module, seen_under, never_under}
use Rattle.kept_trace.proofs.KeptSteps.{takes_by, none_kept, kept_under, told_met}
use Rattle.kept_trace.proofs.Readying.{on_ok, right_by_request}
use Rattle.kept_trace.proofs.RightMeetings.{met_if}
use Rattle.kept_trace.proofs.answering.KeptAnswersAnswerer.request.Goals as goal

pub answer-found-requires-clause-names : goal.answer-found-requires-clause-names
answer-found-requires-clause-names g c = c.is_under.ensures.is.0 c.if-not-is_under.false

pub answer-found-requires-clause-next : goal.answer-found-requires-clause-next
answer-found-requires-clause-next g c = sym c.requires.ready ∙ c.is_under.ensures.is.0 c.if-not-is_under.false

pub returns-then-not-is_under-clause-met : goal.returns-then-not-is_under-clause-met
returns-then-not-is_under-clause-met g c =
    let own = c.args.self.now in
    let before = state_of g.F.Folder.state c.args.self.now.lookup in
    let after = state_of g.F.Folder.state c.resolve-found.new.lookup in
    let asked = of_request c.args.conditions.now c.args.parent.now c.args.specifier.now in
    let here = stays_of own.lookup own.steps.ghost_name own.next.ghost_name own.next.now in
    let there = stays_of c.resolve-found.new.lookup own.steps.ghost_name own.next.ghost_name own.next.now in
    let same = same_stays own.lookup c.resolve-found.new.lookup own.steps.ghost_name own.next.ghost_name own.next.now
    own.next.now refl c.resolve-found.ensures.same in
    let always = untold_answered (afresh before) after _ _ c.resolve-found.ensures.answered in
    met_if (AreBothRight own.kept.now own.next.now) (AreBothRight own.kept.now own.next.now) (is_anew own.kept.now)
    (is_anew own.kept.now) (keeps own.next.now) (keeps own.next.now) here there own.steps.now c.resolve-found.new.steps
    before after (fine (ask asked answered)) (resolutions c.node_answer.result)
    (λ right.
    met_by (is_anew own.kept.now) (keeps own.next.now) here own.steps.now c.resolve-found.new.steps before after asked
    (responded module_of c.resolve-found.result) (resolutions c.node_answer.result) there (keeps own.next.now) same
    (takes_by own.kept.now before.folder before.known before.trail asked None own.steps.now c.resolve-found.new.steps
    (none_kept own.kept.now c.args.conditions.now c.args.parent.now c.args.specifier.now c.is_under.result
    c.is_under.ensures.same c.if-not-is_under.true)
    (anew_taken before.folder before.known None own.steps.now c.resolve-found.new.steps refl (search rules)))
    (keeps_none before own.next.now)
    (never_under before own.next.now c.args.conditions.now c.args.parent.now c.args.specifier.now
    (resolutions c.node_answer.result)
    (λ e. let yes = c.is_under.ensures.is.1 (c.requires.ready ∙ e) in let no = c.if-not-is_under.true in cc))
    c.node_answer.ensures.is c.resolve-found.ensures.answered)
    (met_by (is_anew own.kept.now) (keeps own.next.now) here own.steps.now c.resolve-found.new.steps
    (untold_state before) (untold_state after) asked (responded module_of c.resolve-found.result)
    (resolutions c.node_answer.result) there (keeps own.next.now) same tt tt tt c.node_answer.ensures.is always)
    c.resolve-found.ensures.answered.folder.tree (same_by (afresh before) after _ _ c.resolve-found.ensures.answered)
    (if_all before.folder.holds (λ tree right. right))

pub returns-then-not-is_under-clause-answered : goal.returns-then-not-is_under-clause-answered
returns-then-not-is_under-clause-answered g c = record {
  steps = search rules;
  ready = on_ok c.node_answer.result c.requires.ready;
  kind = c.node_answer.ensures.kind;
}

pub returns-clause-met : goal.returns-clause-met
returns-clause-met g c =
    let own = c.args.self.now in
    let before = state_of g.F.Folder.state c.args.self.now.lookup in
    let after = state_of g.F.Folder.state c.answer-found.new.lookup in
    let asked = of_request c.args.conditions.now c.args.parent.now c.args.specifier.now in
    let under = c.is_under.ensures.is.0 c.if-not-is_under.false in
    let later : Kept = record { modules = own.next.now.modules; requests = c.answer-found.new.next } in
    let here = stays_of own.lookup own.steps.ghost_name own.next.ghost_name own.next.now in
    let there = stays_of c.answer-found.new.lookup own.steps.ghost_name own.next.ghost_name later in
    let same = same_stays own.lookup c.answer-found.new.lookup own.steps.ghost_name own.next.ghost_name own.next.now later
    c.answer-found.ensures.names c.answer-found.ensures.same in
    let response = responded (λ found. module_of found.value) c.answer-found.result in
    met_if (AreBothRight own.kept.now own.next.now) (AreBothRight own.kept.now later) (is_anew own.kept.now)
    (is_anew own.kept.now) (keeps own.next.now) (keeps later) here there own.steps.now c.answer-found.new.steps before
    after (fine (ask asked answered)) (resolutions c.shared_answer.result)
    (λ right.
    told_met (is_anew own.kept.now) (keeps own.next.now) (keeps later) here there own.steps.now
    c.answer-found.new.steps before after asked response (resolutions c.shared_answer.result) same
    (takes_by own.kept.now before.folder before.known before.trail asked
    (request_looks own.kept.now.requests (record { parent = c.args.parent.now; specifier = c.args.specifier.now }))
    own.steps.now c.answer-found.new.steps
    (kept_under own.kept.now c.args.conditions.now c.args.parent.now c.args.specifier.now c.is_under.result
    c.is_under.ensures.same c.if-not-is_under.false)
    c.answer-found.ensures.fresh)
    (keeps_request before own.next.now c.answer-found.new.next c.answer-found.ensures.names
    c.answer-found.ensures.still)
    (keeps_told before after later asked response (resolutions c.shared_answer.result) c.shared_answer.ensures.is
    (c.answer-found.ensures.answered.is right.before.requests)
    (λ value e given.
    seen_under before later c.args.conditions.now c.args.parent.now c.args.specifier.now
    (c.answer-found.ensures.names ∙ (sym c.requires.ready ∙ under))
    (seen_module
    (IsSeenNow before (request_looks c.answer-found.new.next
    (record { parent = c.args.parent.now; specifier = c.args.specifier.now })))
    c.args.conditions.now c.args.parent.now c.args.specifier.now c.answer-found.result c.answer-found.ensures.kept value
    e given)))
    c.shared_answer.ensures.is (c.answer-found.ensures.answered.is right.before.requests))
    (told_met (is_anew own.kept.now) (keeps own.next.now) (keeps later) here there own.steps.now
    c.answer-found.new.steps (untold_state before) (untold_state after) asked response
    (resolutions c.shared_answer.result) same tt tt tt c.shared_answer.ensures.is
    c.answer-found.ensures.answered.always)
    c.answer-found.ensures.answered.tree c.answer-found.ensures.answered.same
    (if_some
    {P = λ tree. AreRequests own.kept.now.requests → AreRequests own.next.now.requests
    → AreRequests c.answer-found.new.next}
    {Q = λ tree. AreBothRight own.kept.now own.next.now → AreBothRight own.kept.now later} before.folder.holds
    (λ tree stays right. right_by_request own.kept.now own.next.now right c.answer-found.new.next stays)
    c.answer-found.ensures.right)

pub returns-clause-answered : goal.returns-clause-answered
returns-clause-answered g c = record {
  steps = c.answer-found.ensures.cost;
  ready = on_ok c.shared_answer.result (c.requires.ready ∙ sym c.answer-found.ensures.names);
  kind = c.shared_answer.ensures.kind;
}
