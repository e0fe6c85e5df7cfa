use Rattle.std.proofs.Common.{refl}
use Rattle.tree_spec.proofs.ToldStates.{if_some}
use Rattle.module_sources.specs.Shown.{source_in}
use Rattle.package_lookup.specs.Answered.{State, Answered}
use Rattle.package_lookup.specs.Learning.{IsSameIn}
use Rattle.package_lookup.specs.Lookups.{state_of}
use Rattle.package_lookup.specs.Responses.{looked}
use Rattle.trace_spec.specs.Questions.{of_module, put}
use Rattle.trace_walk.specs.Meeting.{fine}
use Rattle.trace_walk.specs.Shown.{sources}
use Rattle.asking_spec.specs.Askings.{ask, answered}
use Rattle.request_trace.proofs.AnswerLemmas.{afresh, met_by, kind_of, found_of}
use Rattle.kept_answers.specs.Freshness.{module_looks, IsSeenNow}
use Rattle.kept_answers.specs.RightAnswers.{untold_state}
use Rattle.kept_answers.specs.Tables.{AreModules}
use Rattle.kept_trace.specs.Keeping.{keeps, stays_of}
use Rattle.kept_trace.specs.Ready.{AreBothRight, is_anew}
use Rattle.kept_trace.specs.declared.kept.Kept.{Kept}
use Rattle.kept_trace.proofs.KeepingAnswers.{same_stays, keeps_module, keeps_given, seen_source}
use Rattle.kept_trace.proofs.KeptSteps.{takes_by}
use Rattle.kept_trace.proofs.Readying.{on_ok, right_by_module}
use Rattle.kept_trace.proofs.RightMeetings.{met_if}
use Rattle.kept_trace.proofs.answering.KeptAnswersAnswerer.module.Goals as goal

pub returns-clause-met : goal.returns-clause-met
returns-clause-met g c =
    let own = c.args.self.now in
    let before = state_of g.F.Folder.state c.args.self.now.lookup in
    let after = state_of g.F.Folder.state c.answer-found.new.lookup in
    let asked = of_module c.args.path.now in
    let here = stays_of own.lookup own.steps.ghost_name own.next.ghost_name own.next.now in
    let later : Kept = record { modules = c.answer-found.new.next; requests = own.next.now.requests } in
    let there = stays_of c.answer-found.new.lookup own.steps.ghost_name own.next.ghost_name later in
    let same = same_stays own.lookup c.answer-found.new.lookup own.steps.ghost_name own.next.ghost_name own.next.now later
    refl c.answer-found.ensures.same in
    met_if (AreBothRight own.kept.now own.next.now) (AreBothRight own.kept.now later) (is_anew own.kept.now)
    (is_anew own.kept.now) (keeps own.next.now) (keeps later) here there own.steps.now c.answer-found.new.steps before
    after (fine (ask asked answered)) (sources c.source_answer.result)
    (λ right.
    met_by (is_anew own.kept.now) (keeps own.next.now) here own.steps.now c.answer-found.new.steps before after asked
    (looked source_in c.answer-found.result) (sources c.source_answer.result) there (keeps later) same
    (takes_by own.kept.now before.folder before.known before.trail asked
    (module_looks own.kept.now.modules c.args.path.now) own.steps.now c.answer-found.new.steps refl
    c.answer-found.ensures.fresh)
    (keeps_module before own.next.now c.answer-found.new.next c.answer-found.ensures.still)
    (keeps_given before after later asked (looked source_in c.answer-found.result) (sources c.source_answer.result)
    c.source_answer.ensures.is (c.answer-found.ensures.answered.is right.before.modules)
    (seen_source (IsSeenNow before (module_looks c.answer-found.new.next c.args.path.now)) c.args.path.now
    c.answer-found.result c.answer-found.ensures.kept))
    c.source_answer.ensures.is (c.answer-found.ensures.answered.is right.before.modules))
    (met_by (is_anew own.kept.now) (keeps own.next.now) here own.steps.now c.answer-found.new.steps
    (untold_state before) (untold_state after) asked (looked source_in c.answer-found.result)
    (sources c.source_answer.result) there (keeps later) same tt tt tt c.source_answer.ensures.is
    c.answer-found.ensures.answered.always)
    c.answer-found.ensures.answered.tree c.answer-found.ensures.answered.same
    (if_some
    {P = λ tree. AreModules own.kept.now.modules → AreModules own.next.now.modules → AreModules c.answer-found.new.next}
    {Q = λ tree. AreBothRight own.kept.now own.next.now → AreBothRight own.kept.now later} before.folder.holds
    (λ tree stays right. right_by_module own.kept.now own.next.now right c.answer-found.new.next stays)
    c.answer-found.ensures.right)

pub returns-clause-answered : goal.returns-clause-answered
returns-clause-answered g c = record {
  answered = record {
    steps = c.answer-found.ensures.cost;
    ready = on_ok c.source_answer.result c.requires.ready;
    kind = kind_of c.source_answer.result _ c.source_answer.ensures.kind;
  };
  is = found_of c.source_answer.result _ c.source_answer.ensures.kind c.answer-found.ensures.is;
}
