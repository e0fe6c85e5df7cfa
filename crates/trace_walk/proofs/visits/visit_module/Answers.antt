use Rattle.std.proofs.Common.{◌≡◌, List, length, Err, refl, sym, ap, subst}
use Rattle.std.specs.Prelude.{map}
use Rattle.module_spec.specs.declared.request.Request.{Request}
use Rattle.trace_spec.specs.Walking.{a_module}
use Rattle.trace_spec.specs.declared.TraceFault.TheVariants.{Memory}
use Rattle.trace_walk.specs.Kinds.{IsOfWalk}
use Rattle.trace_walk.specs.declared.tables.Tables.{Tables}
use Rattle.module_sources.specs.Shown.{source_of}
use Rattle.trace_walk.specs.Shown.{before_of, done}
use Rattle.trace_walk.specs.Walking.{Counts}
use Rattle.trace_walk.proofs.Visiting.{beside_pushed, visit_failed, visit_lost, visit_sourceless, visit_done, pushed_source}
use Rattle.trace_walk.proofs.FaultKinds.{answers_kind, source_kind}
use Rattle.trace_walk.proofs.Advancing.{bounded_module, walks_refused, walks_visit, counts_visit, counts_as}
use Rattle.trace_walk.proofs.visits.visit_module.Goals as goal

pub follow_all-requires-clause-beside : goal.follow_all-requires-clause-beside
follow_all-requires-clause-beside g c =
    let pushed : Tables = record { modules = c.args.tables.now.modules; sources = c.push_source.new.sources; needs = c.args.tables.now.needs; spellings = c.args.tables.now.spellings; targets = c.args.tables.now.targets } in
    beside_pushed c.args.tables.now pushed c.in-Ok.source refl c.in_ok-push_source-in-Ok.ensures refl refl refl (rw c.in-Ok.is at c.in_ok-source.ensures.answered.is) c.requires.beside

pub returns-in_ok-push_source-in-Ok-clause-met : goal.returns-in_ok-push_source-in-Ok-clause-met
returns-in_ok-push_source-in-Ok-clause-met g c = λ m is all.
    let pushed : Tables = record { modules = c.args.tables.now.modules; sources = c.push_source.new.sources; needs = c.args.tables.now.needs; spellings = c.args.tables.now.spellings; targets = c.args.tables.now.targets } in
    let same : c.deref.result.now ≡ c.in-Ok.source.requests.value = (let a = c.deref.ensures in let b = c.in_ok-requests-in-Ok.ensures.cases in cc) in
    visit_done _ _ _ c.args.config.now (before_of c.args.tables.now) _ m c.args.referrer.now.path (source_of c.in-Ok.source) _ (done c.follow_all.result c.follow_all.new.tables) is.path
    (pushed_source c.args.tables.now pushed c.in-Ok.source refl c.in_ok-push_source-in-Ok.ensures refl refl refl) (ap (map (λ (request : Request). request.text)) same) (rw c.in-Ok.is at c.in_ok-source.ensures.met) (c.follow_all.ensures.met (a_module m) is all)

pub returns-in_ok-push_source-in-Ok-clause-walks : goal.returns-in_ok-push_source-in-Ok-clause-walks
returns-in_ok-push_source-in-Ok-clause-walks g c =
    let pushed : Tables = record { modules = c.args.tables.now.modules; sources = c.push_source.new.sources; needs = c.args.tables.now.needs; spellings = c.args.tables.now.spellings; targets = c.args.tables.now.targets } in
    walks_visit c.args.config.now _ c.args.tables.now pushed c.follow_all.new.tables c.in-Ok.source _ _ _ _ c.follow_all.result refl c.in_ok-push_source-in-Ok.ensures refl refl c.in_ok-source.ensures.answered.answered.steps c.follow_all.ensures.walks

pub returns-in_err-source-clause-met : goal.returns-in_err-source-clause-met
returns-in_err-source-clause-met g c = λ m is all.
    visit_failed _ _ c.args.config.now (before_of c.args.tables.now) m c.args.referrer.now.path c.in_err-source.field-0.0 c.from_residual.result _ is.path c.from_residual.ensures.1 c.in_err-source.ensures.met

pub returns-in_ok-no_source-in-Err-clause-met : goal.returns-in_ok-no_source-in-Err-clause-met
returns-in_ok-no_source-in-Err-clause-met g c = λ m is all.
    visit_sourceless _ _ c.args.config.now (before_of c.args.tables.now) m c.args.referrer.now.path c.args.referrer.now.shown c.in-Err.why c.in_ok-no_source-in-Err.field-0 is.path is.shown_so c.in_ok-no_source-in-Err.ensures (rw c.in-Err.is at c.in_ok-source.ensures.met)

pub returns-in_err-requests-in-Ok-clause-met : goal.returns-in_err-requests-in-Ok-clause-met
returns-in_err-requests-in-Ok-clause-met g c = λ m is all.
    visit_lost _ _ c.args.config.now (before_of c.args.tables.now) m c.args.referrer.now.path _ c.from_residual-in_err-requests-in-Ok.result _ is.path c.from_residual-in_err-requests-in-Ok.ensures.1 c.in_ok-source.ensures.met

pub returns-in_err-push_source-in-Ok-clause-met : goal.returns-in_err-push_source-in-Ok-clause-met
returns-in_err-push_source-in-Ok-clause-met g c = λ m is all.
    visit_lost _ _ c.args.config.now (before_of c.args.tables.now) m c.args.referrer.now.path _ c.from_residual-in_err-push_source-in-Ok.result _ is.path c.from_residual-in_err-push_source-in-Ok.ensures.1 c.in_ok-source.ensures.met

pub returns-in_err-no_source-in-Err-clause-met : goal.returns-in_err-no_source-in-Err-clause-met
returns-in_err-no_source-in-Err-clause-met g c = λ m is all.
    visit_lost _ _ c.args.config.now (before_of c.args.tables.now) m c.args.referrer.now.path _ c.from_residual-in_err-no_source-in-Err.result _ is.path c.from_residual-in_err-no_source-in-Err.ensures.1 c.in_ok-source.ensures.met

pub returns-in_err-source-clause-walks : goal.returns-in_err-source-clause-walks
returns-in_err-source-clause-walks g c =
    walks_refused c.args.config.now 1 1 _ _ _ _ _ _ c.in_err-source.field-0.0 c.from_residual.result c.from_residual.ensures.1 (bounded_module c.args.tables.now _ _ c.in_err-source.ensures.answered.answered.steps) (answers_kind c.args.config.now c.in_err-source.field-0.0 c.in_err-source.ensures.answered.answered.kind)

pub returns-in_ok-no_source-in-Err-clause-walks : goal.returns-in_ok-no_source-in-Err-clause-walks
returns-in_ok-no_source-in-Err-clause-walks g c =
    walks_refused c.args.config.now 1 1 _ _ _ _ _ _ c.in_ok-no_source-in-Err.field-0 (Err c.in_ok-no_source-in-Err.field-0) refl (bounded_module c.args.tables.now _ _ c.in_ok-source.ensures.answered.answered.steps)
    (subst (IsOfWalk c.args.config.now) (sym c.in_ok-no_source-in-Err.ensures) (source_kind c.args.config.now c.args.referrer.now.shown c.in-Err.why (rw c.in-Err.is at c.in_ok-source.ensures.answered.is)))

pub returns-in_err-requests-in-Ok-clause-walks : goal.returns-in_err-requests-in-Ok-clause-walks
returns-in_err-requests-in-Ok-clause-walks g c = walks_refused c.args.config.now 1 1 _ _ _ _ _ _ Memory c.from_residual-in_err-requests-in-Ok.result c.from_residual-in_err-requests-in-Ok.ensures.1 (bounded_module c.args.tables.now _ _ c.in_ok-source.ensures.answered.answered.steps) tt

pub returns-in_err-push_source-in-Ok-clause-walks : goal.returns-in_err-push_source-in-Ok-clause-walks
returns-in_err-push_source-in-Ok-clause-walks g c = walks_refused c.args.config.now 1 1 _ _ _ _ _ _ Memory c.from_residual-in_err-push_source-in-Ok.result c.from_residual-in_err-push_source-in-Ok.ensures.1 (bounded_module c.args.tables.now _ _ c.in_ok-source.ensures.answered.answered.steps) tt

pub returns-in_err-no_source-in-Err-clause-walks : goal.returns-in_err-no_source-in-Err-clause-walks
returns-in_err-no_source-in-Err-clause-walks g c = walks_refused c.args.config.now 1 1 _ _ _ _ _ _ Memory c.from_residual-in_err-no_source-in-Err.result c.from_residual-in_err-no_source-in-Err.ensures.1 (bounded_module c.args.tables.now _ _ c.in_ok-source.ensures.answered.answered.steps) tt

pub returns-in_ok-push_source-in-Ok-clause-counts : goal.returns-in_ok-push_source-in-Ok-clause-counts
returns-in_ok-push_source-in-Ok-clause-counts g c =
    let pushed : Tables = record { modules = c.args.tables.now.modules; sources = c.push_source.new.sources; needs = c.args.tables.now.needs; spellings = c.args.tables.now.spellings; targets = c.args.tables.now.targets } in
    let same : c.deref.result.now ≡ c.in-Ok.source.requests.value = (let a = c.deref.ensures in let b = c.in_ok-requests-in-Ok.ensures.cases in cc) in
    counts_as c.follow_all.result _ _
    (λ counts. counts_visit c.args.tables.now pushed c.follow_all.new.tables c.in-Ok.source c.in_ok-push_source-in-Ok.ensures refl (subst (λ (rs : List Request). Counts (length (map (λ (request : Request). request.text) rs)) pushed c.follow_all.new.tables) same counts))
    c.follow_all.ensures.counts
