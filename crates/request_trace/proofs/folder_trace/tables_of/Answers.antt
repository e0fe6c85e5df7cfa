use Rattle.std.proofs.Common.{◌≡◌, rules, ap}
use Rattle.package_lookup.specs.Answered.{state}
use Rattle.trace_walk.specs.Meeting.{Kept}
use Rattle.trace_walk.specs.Shown.{traced_of}
use Rattle.request_trace.specs.Answering.{all_fresh, all_kept}
use Rattle.request_trace.proofs.AnswerLemmas.{traces_by, traces_moved, first_name, second_name, third_name, fourth_name, takes_moved, traced_kind}
use Rattle.request_trace.proofs.AskedQuestions.{takes_to_end}
use Rattle.request_trace.proofs.TrailPaths.{footprint_left}
use Rattle.request_trace.proofs.folder_trace.tables_of.Goals as goal

pub returns-clause-footprint : goal.returns-clause-footprint
returns-clause-footprint g c =
    let names = ap (λ (keeps : Kept). keeps.references) c.walk.ensures.met.keeps in
    let known_named : c.walk.new.answerer.lookup.known.ghost_name ≡ _ = second_name names in
    let trail_named : c.walk.new.answerer.lookup.trail.ghost_name ≡ _ = fourth_name names in
    let old = g.F.Folder.state c.args.folder.now in
    let new = g.F.Folder.state c.walk.new.answerer.lookup.folder.now in
    footprint_left all_fresh all_fresh all_kept all_kept _ _ _ _ c.args.config.now (state old c.args.known.now c.args.trail.now)
    (state new c.walk.new.answerer.lookup.known.now c.walk.new.answerer.lookup.trail.now) _ _ c.walk.result c.requires
    c.walk.ensures.met (search rules) (search rules)

pub returns-clause-traces : goal.returns-clause-traces
returns-clause-traces g c =
    let names = ap (λ (keeps : Kept). keeps.references) c.walk.ensures.met.keeps in
    let folder_named : c.walk.new.answerer.lookup.folder.ghost_name ≡ _ = first_name names in
    let known_named : c.walk.new.answerer.lookup.known.ghost_name ≡ _ = second_name names in
    let steps_named : c.walk.new.answerer.steps.ghost_name ≡ _ = third_name names in
    let old = g.F.Folder.state c.args.folder.now in
    let new = g.F.Folder.state c.walk.new.answerer.lookup.folder.now in
    record {
      traces =
          traces_moved c.args.config.now old c.args.known.now (traced_of c.walk.result) new _ c.walk.new.answerer.lookup.known.now _
          (ap g.F.Folder.state (search rules)) (search rules)
          (traces_by all_fresh all_fresh all_kept all_kept _ _ _ _ c.args.config.now (state old c.args.known.now c.args.trail.now)
          (state new c.walk.new.answerer.lookup.known.now c.walk.new.answerer.lookup.trail.now) (traced_of c.walk.result) c.requires
          c.walk.ensures.met (traced_kind c.args.config.now c.walk.result c.walk.ensures.walked.kind));
      tables = c.walk.ensures.walked.tables;
      steps = takes_moved c.walk.result _ _ c.walk.new.answerer.steps.now _ (search rules) c.walk.ensures.walked.steps c.walk.ensures.walked.bounded;
      asked = takes_to_end _ _ c.args.steps.now c.walk.new.answerer.steps.now _ c.args.config.now
          (state old c.args.known.now c.args.trail.now)
          (state new c.walk.new.answerer.lookup.known.now c.walk.new.answerer.lookup.trail.now) (traced_of c.walk.result)
          (search rules) c.requires c.walk.ensures.met;
    }
