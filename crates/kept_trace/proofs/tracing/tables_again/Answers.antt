use Rattle.std.proofs.Common.{◌≡◌, rules, sym, ap, subst}
use Rattle.std.specs.Prelude.{IfSome}
use Rattle.package_lookup.specs.Answered.{state}
use Rattle.trace_spec.specs.Traces.{trace}
use Rattle.trace_walk.specs.Meeting.{Kept}
use Rattle.trace_walk.specs.Shown.{traced_of}
use Rattle.tree_spec.proofs.ToldStates.{if_some}
use Rattle.request_trace.proofs.AnswerLemmas.{traces_by, takes_moved, traced_kind}
use Rattle.request_trace.proofs.AskedQuestions.{takes_fresh}
use Rattle.request_trace.proofs.TrailPaths.{footprint_left}
use Rattle.request_trace.specs.Footprints.{IsFootprint}
use Rattle.kept_trace.specs.Keeping.{keeps, KeepsTraced}
use Rattle.kept_trace.specs.Ready.{AreAllRight, AreBothRight, is_anew}
use Rattle.kept_trace.proofs.AskedKept.{kept_left}
use Rattle.kept_trace.proofs.Naming.{first_name, second_name, third_name, fourth_name, fifth_name}
use Rattle.kept_trace.proofs.RightMeetings.{met_so, looked_untold, right_after, traces_if, traced_named}
use Rattle.kept_trace.proofs.Walking.{if_ok_so, on_ok_so}
use Rattle.kept_trace.proofs.tracing.tables_again.Goals as goal

pub walk-requires : goal.walk-requires
walk-requires g c = record { ready = c.requires.under }

pub returns-clause-footprint : goal.returns-clause-footprint
returns-clause-footprint g c =
    let names = ap (λ (keeps : Kept). keeps.references) c.walk.ensures.met.keeps in
    let known_named : c.walk.new.answerer.lookup.known.ghost_name ≡ _ = second_name names in
    let trail_named : c.walk.new.answerer.lookup.trail.ghost_name ≡ _ = fourth_name names in
    let old = g.F.Folder.state c.args.folder.now in
    let new = g.F.Folder.state c.walk.new.answerer.lookup.folder.now in
    let before = state old c.args.known.now c.args.trail.now in
    let after = state new c.walk.new.answerer.lookup.known.now c.walk.new.answerer.lookup.trail.now in
    if_ok_so (AreBothRight c.args.kept.now c.args.next.now)
    (λ tables. IsFootprint c.args.config.now old c.args.known.now _ _) c.walk.result
    (λ right. footprint_left (is_anew c.args.kept.now) _ (keeps c.args.next.now) _ _ _ _ _ c.args.config.now before
    after _ _ c.walk.result c.requires.first
    (met_so (AreBothRight c.args.kept.now c.args.next.now) _ (is_anew c.args.kept.now) _ (keeps c.args.next.now) _ _ _ _ _
    before after (trace c.args.config.now) (traced_of c.walk.result) c.walk.ensures.met right) (search rules) (search rules))

pub returns-clause-looked : goal.returns-clause-looked
returns-clause-looked g c =
    let names = ap (λ (keeps : Kept). keeps.references) c.walk.ensures.met.keeps in
    let known_named : c.walk.new.answerer.lookup.known.ghost_name ≡ _ = second_name names in
    let trail_named : c.walk.new.answerer.lookup.trail.ghost_name ≡ _ = fourth_name names in
    let old = g.F.Folder.state c.args.folder.now in
    let new = g.F.Folder.state c.walk.new.answerer.lookup.folder.now in
    let before = state old c.args.known.now c.args.trail.now in
    let after = state new c.walk.new.answerer.lookup.known.now c.walk.new.answerer.lookup.trail.now in
    looked_untold (AreBothRight c.args.kept.now c.args.next.now) _ (is_anew c.args.kept.now) _ (keeps c.args.next.now) _ _ _
    _ _ c.args.config.now before after _ _ c.walk.result c.requires.first c.walk.ensures.met (search rules) (search rules)

pub returns-clause-traces : goal.returns-clause-traces
returns-clause-traces g c =
    let names = ap (λ (keeps : Kept). keeps.references) c.walk.ensures.met.keeps in
    let folder_named : c.walk.new.answerer.lookup.folder.ghost_name ≡ _ = first_name names in
    let known_named : c.walk.new.answerer.lookup.known.ghost_name ≡ _ = second_name names in
    let old = g.F.Folder.state c.args.folder.now in
    let new = g.F.Folder.state c.walk.new.answerer.lookup.folder.now in
    let before = state old c.args.known.now c.args.trail.now in
    let after = state new c.walk.new.answerer.lookup.known.now c.walk.new.answerer.lookup.trail.now in
    let kind = traced_kind c.args.config.now c.walk.result c.walk.ensures.walked.kind in
    traced_named (AreBothRight c.args.kept.now c.args.next.now) c.args.config.now before (traced_of c.walk.result) new _
    c.walk.new.answerer.lookup.known.now _ (ap g.F.Folder.state (search rules)) (search rules)
    (traces_if (AreBothRight c.args.kept.now c.args.next.now) _ (is_anew c.args.kept.now) _ (keeps c.args.next.now) _ _ _
    _ _ c.args.config.now before after (traced_of c.walk.result) c.walk.ensures.met kind
    (λ right. traces_by (is_anew c.args.kept.now) _ (keeps c.args.next.now) _ _ _ _ _ c.args.config.now before after
    (traced_of c.walk.result) c.requires.first
    (met_so (AreBothRight c.args.kept.now c.args.next.now) _ (is_anew c.args.kept.now) _ (keeps c.args.next.now) _ _ _ _ _
    before after (trace c.args.config.now) (traced_of c.walk.result) c.walk.ensures.met right) kind))

pub returns-clause-tables : goal.returns-clause-tables
returns-clause-tables g c = c.walk.ensures.walked.tables

pub returns-clause-steps : goal.returns-clause-steps
returns-clause-steps g c =
    let names = ap (λ (keeps : Kept). keeps.references) c.walk.ensures.met.keeps in
    let steps_named : c.walk.new.answerer.steps.ghost_name ≡ _ = third_name names in
    takes_moved c.walk.result _ _ c.walk.new.answerer.steps.now _ (search rules) c.walk.ensures.walked.steps
    c.walk.ensures.walked.bounded

pub returns-clause-fresh : goal.returns-clause-fresh
returns-clause-fresh g c = λ right.
    let names = ap (λ (keeps : Kept). keeps.references) c.walk.ensures.met.keeps in
    let steps_named : c.walk.new.answerer.steps.ghost_name ≡ _ = third_name names in
    let old = g.F.Folder.state c.args.folder.now in
    let new = g.F.Folder.state c.walk.new.answerer.lookup.folder.now in
    let before = state old c.args.known.now c.args.trail.now in
    let after = state new c.walk.new.answerer.lookup.known.now c.walk.new.answerer.lookup.trail.now in
    takes_fresh (is_anew c.args.kept.now) _ (keeps c.args.next.now) _ _ _ c.args.steps.now c.walk.new.answerer.steps.now _
    c.args.config.now before after (traced_of c.walk.result) (search rules) c.requires.first
    (met_so (AreBothRight c.args.kept.now c.args.next.now) _ (is_anew c.args.kept.now) _ (keeps c.args.next.now) _ _ _ _ _
    before after (trace c.args.config.now) (traced_of c.walk.result) c.walk.ensures.met right)

pub returns-clause-right : goal.returns-clause-right
returns-clause-right g c =
    let names = ap (λ (keeps : Kept). keeps.references) c.walk.ensures.met.keeps in
    let next_named : c.walk.new.answerer.next.ghost_name ≡ _ = fifth_name names in
    let old = g.F.Folder.state c.args.folder.now in
    let new = g.F.Folder.state c.walk.new.answerer.lookup.folder.now in
    let before = state old c.args.known.now c.args.trail.now in
    let after = state new c.walk.new.answerer.lookup.known.now c.walk.new.answerer.lookup.trail.now in
    if_some {P = λ tree. AreBothRight c.args.kept.now c.args.next.now
    → AreBothRight c.walk.new.answerer.kept.now c.walk.new.answerer.next.now}
    {Q = λ tree. AreBothRight c.args.kept.now c.args.next.now → AreAllRight _} old.holds
    (λ tree so right. subst AreAllRight (search rules) (so right).here)
    (right_after (AreBothRight c.args.kept.now c.args.next.now) _ (is_anew c.args.kept.now) _ (keeps c.args.next.now) _ _ _
    _ _ before after (trace c.args.config.now) (traced_of c.walk.result) c.walk.ensures.met c.some_sights.ensures)

pub returns-clause-under : goal.returns-clause-under
returns-clause-under g c =
    let names = ap (λ (keeps : Kept). keeps.references) c.walk.ensures.met.keeps in
    let next_named : c.walk.new.answerer.next.ghost_name ≡ _ = fifth_name names in
    let named = ap (λ (keeps : Kept). keeps.names) c.walk.ensures.met.keeps in search rules

pub returns-clause-keeps : goal.returns-clause-keeps
returns-clause-keeps g c =
    let names = ap (λ (keeps : Kept). keeps.references) c.walk.ensures.met.keeps in
    let next_named : c.walk.new.answerer.next.ghost_name ≡ _ = fifth_name names in
    let old = g.F.Folder.state c.args.folder.now in
    let new = g.F.Folder.state c.walk.new.answerer.lookup.folder.now in
    let before = state old c.args.known.now c.args.trail.now in
    let after = state new c.walk.new.answerer.lookup.known.now c.walk.new.answerer.lookup.trail.now in
    on_ok_so (AreBothRight c.args.kept.now c.args.next.now)
    (KeepsTraced c.args.config.now old c.args.known.now _) c.walk.result
    (λ right. kept_left c.walk.result (is_anew c.args.kept.now) _ (keeps c.args.next.now) _ _ _ _ c.args.config.now before
    after c.walk.new.answerer.next.now _ (search rules) c.requires.first
    (met_so (AreBothRight c.args.kept.now c.args.next.now) _ (is_anew c.args.kept.now) _ (keeps c.args.next.now) _ _ _ _ _
    before after (trace c.args.config.now) (traced_of c.walk.result) c.walk.ensures.met right))
