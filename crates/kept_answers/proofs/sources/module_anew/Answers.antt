use Rattle.std.proofs.Common.{Ok, refl}
use Rattle.std.specs.Prelude.{List, bytes_eq}
use Rattle.tree_spec.proofs.ToldStates.{if_some}
use Rattle.tree_spec.specs.LookAskings.{look_at_each}
use Rattle.package_lookup.specs.Lookups.{begun_of, state_of}
use Rattle.package_lookup.specs.Responses.{looked}
use Rattle.kept_spec.specs.Certificates.{LookSeen}
use Rattle.kept_answers.specs.KnownLooks.{done, AreLooksAt, IsKept}
use Rattle.kept_answers.proofs.Certifying.{kept_by, given_still, failed_behind, failing_of, by_failing, failing_by}
use Rattle.module_sources.specs.Shown.{source_of}
use Rattle.trace_spec.specs.Questions.{module_source}
use Rattle.kept_answers.specs.Tables.{AreModules}
use Rattle.kept_answers.specs.Freshness.{module_looks}
use Rattle.kept_answers.proofs.SeenNow.{anew_now, stays_as, stays_put, now_put, same_path}
use Rattle.kept_answers.proofs.sources.module_anew.Goals as goal

pub returns-in-Err-keep_module-clause-answered : goal.returns-in-Err-keep_module-clause-answered
returns-in-Err-keep_module-clause-answered g c =
    by_failing (begun_of g.F.Folder.state c.args.lookup.now)
    (state_of g.F.Folder.state c.keep_module.new.lookup)
    (module_source c.args.path.now) c.in-Err-keep_module.fault
    (failed_behind (module_source c.args.path.now) (Ok (source_of c.in-Ok-Ok.source))
    (state_of g.F.Folder.state c.args.lookup.now)
    (state_of g.F.Folder.state c.module_source.new.lookup)
    (state_of g.F.Folder.state c.keep_module.new.lookup) (rw c.in-Ok-Ok.field-0-is at c.in-Ok-Ok.ensures.answered)
    (failing_of c.in-Err-keep_module.fault)
    (failing_by (state_of g.F.Folder.state c.module_source.new.lookup)
    (state_of g.F.Folder.state c.keep_module.new.lookup)
    (look_at_each c.module_source.new.lookup.trail.now.question) c.in-Err-keep_module.fault c.in-Err-keep_module.ensures.answered))

pub returns-in-Err-keep_module-clause-right : goal.returns-in-Err-keep_module-clause-right
returns-in-Err-keep_module-clause-right g c =
    if_some {P = λ tree. (looks : List LookSeen) → AreLooksAt c.keep_module.new.lookup.known.now c.module_source.new.lookup.trail.now.question looks
    → IsKept (module_source c.args.path.now) (Ok (source_of c.in-Ok-Ok.source)) looks}
    {Q = λ tree. AreModules c.args.next.now → AreModules c.keep_module.new.next}
    (g.F.Folder.state c.args.lookup.now.folder.now).holds (λ tree each right. c.keep_module.ensures.right each right)
    (kept_by c.some_sights.ensures (state_of g.F.Folder.state c.args.lookup.now)
    (state_of g.F.Folder.state c.module_source.new.lookup)
    (state_of g.F.Folder.state c.keep_module.new.lookup)
    (module_source c.args.path.now) (Ok (source_of c.in-Ok-Ok.source)) (looked done c.keep_module.result)
    (rw c.in-Ok-Ok.field-0-is at c.in-Ok-Ok.ensures.answered) c.keep_module.ensures.answered)

pub returns-in-Ok-clause-answered : goal.returns-in-Ok-clause-answered
returns-in-Ok-clause-answered g c =
    given_still (module_source c.args.path.now) (Ok (source_of c.in-Ok-Ok.source))
    (state_of g.F.Folder.state c.args.lookup.now)
    (state_of g.F.Folder.state c.module_source.new.lookup)
    (state_of g.F.Folder.state c.keep_module.new.lookup) (rw c.in-Ok-Ok.field-0-is at c.in-Ok-Ok.ensures.answered)
    c.in-Ok.ensures.answered

pub returns-in-Ok-clause-right : goal.returns-in-Ok-clause-right
returns-in-Ok-clause-right g c =
    if_some {P = λ tree. (looks : List LookSeen) → AreLooksAt c.keep_module.new.lookup.known.now c.module_source.new.lookup.trail.now.question looks
    → IsKept (module_source c.args.path.now) (Ok (source_of c.in-Ok-Ok.source)) looks}
    {Q = λ tree. AreModules c.args.next.now → AreModules c.keep_module.new.next}
    (g.F.Folder.state c.args.lookup.now.folder.now).holds (λ tree each right. c.keep_module.ensures.right each right)
    (kept_by c.some_sights.ensures (state_of g.F.Folder.state c.args.lookup.now)
    (state_of g.F.Folder.state c.module_source.new.lookup)
    (state_of g.F.Folder.state c.keep_module.new.lookup)
    (module_source c.args.path.now) (Ok (source_of c.in-Ok-Ok.source)) (looked done c.keep_module.result)
    (rw c.in-Ok-Ok.field-0-is at c.in-Ok-Ok.ensures.answered) c.keep_module.ensures.answered)

pub returns-in-Err-clause-still : goal.returns-in-Err-clause-still
returns-in-Err-clause-still g c = λ other. stays_as (state_of g.F.Folder.state c.args.lookup.now) _ _ refl

pub returns-in-Err-keep_module-clause-still : goal.returns-in-Err-keep_module-clause-still
returns-in-Err-keep_module-clause-still g c = λ other.
    stays_as (state_of g.F.Folder.state c.args.lookup.now) _ _ (c.in-Err-keep_module.ensures.unset other)

pub returns-in-Ok-clause-kept : goal.returns-in-Ok-clause-kept
returns-in-Ok-clause-kept g c =
    now_put (state_of g.F.Folder.state c.args.lookup.now) bytes_eq c.args.path.now c.in-Ok.ensures.set.looks (module_looks c.args.next.now)
    (module_looks c.keep_module.new.next) c.in-Ok.ensures.set.set
    (anew_now (state_of g.F.Folder.state c.args.lookup.now) (state_of g.F.Folder.state c.module_source.new.lookup)
    (state_of g.F.Folder.state c.keep_module.new.lookup) (module_source c.args.path.now) (Ok (source_of c.in-Ok-Ok.source)) c.in-Ok.ensures.set.looks
    (rw c.in-Ok-Ok.field-0-is at c.in-Ok-Ok.ensures.answered) c.in-Ok.ensures.answered c.in-Ok.ensures.set.are.each)
    c.args.path.now (same_path c.args.path.now)

pub returns-in-Ok-clause-still : goal.returns-in-Ok-clause-still
returns-in-Ok-clause-still g c =
    stays_put (state_of g.F.Folder.state c.args.lookup.now) bytes_eq c.args.path.now c.in-Ok.ensures.set.looks (module_looks c.args.next.now)
    (module_looks c.keep_module.new.next) c.in-Ok.ensures.set.set
    (anew_now (state_of g.F.Folder.state c.args.lookup.now) (state_of g.F.Folder.state c.module_source.new.lookup)
    (state_of g.F.Folder.state c.keep_module.new.lookup) (module_source c.args.path.now) (Ok (source_of c.in-Ok-Ok.source)) c.in-Ok.ensures.set.looks
    (rw c.in-Ok-Ok.field-0-is at c.in-Ok-Ok.ensures.answered) c.in-Ok.ensures.answered c.in-Ok.ensures.set.are.each)

pub returns-in-Ok-Err-clause-still : goal.returns-in-Ok-Err-clause-still
returns-in-Ok-Err-clause-still g c = λ other. stays_as (state_of g.F.Folder.state c.args.lookup.now) _ _ refl
