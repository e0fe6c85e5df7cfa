use Rattle.std.proofs.Common.{Some, Ok, refl, ap}
use Rattle.package_lookup.specs.Lookups.{state_of}
use Rattle.package_lookup.specs.Responses.{looked, given, fails, never, no_memory, by_fault}
use Rattle.package_lookup.proofs.Questions.{given_as}
use Rattle.kept_answers.proofs.Certifying.{lost, seen_again, seen_other, failing_of, to_failing, by_failing}
use Rattle.kept_answers.proofs.RightAnswers.{given_if, failed_if, behind_if, if_mapped}
use Rattle.kept_answers.specs.KnownLooks.{afresh}
use Rattle.kept_answers.specs.Tables.{IsModuleOf}
use Rattle.module_sources.specs.Shown.{source_in, source_of}
use Rattle.trace_spec.specs.Questions.{module_source}
use Rattle.kept_answers.specs.Entries.{source_seen}
use Rattle.kept_answers.proofs.FreshSteps.{none_taken, other_again, other_taken}
use Rattle.kept_answers.proofs.ModuleLemmas.{kept_so}
use Rattle.std.specs.Prelude.{bytes_eq}
use Rattle.kept_answers.specs.Freshness.{module_looks}
use Rattle.kept_answers.proofs.SeenNow.{source_before, stays_before, again_now, stays_as, stays_put, now_put, same_path}
use Rattle.kept_answers.proofs.sources.module_again.Goals as goal

pub returns-in-Err-clause-answered : goal.returns-in-Err-clause-answered
returns-in-Err-clause-answered g c =
    let before = state_of g.F.Folder.state c.args.lookup.now in
    let after = state_of g.F.Folder.state c.look_again.new.lookup in
    let asking = module_source c.args.path.now in
    if_mapped (IsModuleOf c.args.path.now c.args.found.now) (afresh before) after asking asking
    (fails (failing_of c.in-Err.fault)) (by_fault (fails never) (fails never) c.in-Err.fault)
    (λ from to. by_failing from to asking c.in-Err.fault)
    (failed_if asking (Ok (source_seen c.args.found.now)) c.looks.result.now before (IsModuleOf c.args.path.now c.args.found.now)
    (kept_so c.args.path.now c.args.found.now c.looks.result.now c.looks.ensures) (failing_of c.in-Err.fault) after
    (to_failing before after c.looks.result.now c.in-Err.fault c.in-Err.ensures.again))

pub returns-in-Err-keep_again-clause-answered : goal.returns-in-Err-keep_again-clause-answered
returns-in-Err-keep_again-clause-answered g c =
    let before = state_of g.F.Folder.state c.args.lookup.now in
    let after = state_of g.F.Folder.state c.look_again.new.lookup in
    let asking = module_source c.args.path.now in
    if_mapped (IsModuleOf c.args.path.now c.args.found.now) (afresh before) after asking asking (given (Ok (source_seen c.args.found.now)))
    (fails no_memory) (λ from to. lost from to asking (Ok (source_seen c.args.found.now)))
    (given_if asking (Ok (source_seen c.args.found.now)) c.looks.result.now before (IsModuleOf c.args.path.now c.args.found.now)
    (kept_so c.args.path.now c.args.found.now c.looks.result.now c.looks.ensures) after
    (seen_again before after c.looks.result.now c.in-Ok-true.field-0 c.in-Ok-true.field-0-test c.in-Ok-true.ensures.again))

pub returns-in-Ok-clause-answered : goal.returns-in-Ok-clause-answered
returns-in-Ok-clause-answered g c =
    let before = state_of g.F.Folder.state c.args.lookup.now in
    let after = state_of g.F.Folder.state c.look_again.new.lookup in
    let asking = module_source c.args.path.now in
    if_mapped (IsModuleOf c.args.path.now c.args.found.now) (afresh before) after asking asking (given (Ok (source_seen c.args.found.now)))
    (given (Ok (source_of c.in-Ok.source)))
    (λ from to. given_as from to asking (Ok (source_seen c.args.found.now)) (Ok (source_of c.in-Ok.source)) (ap Ok c.in-Ok.ensures.source))
    (given_if asking (Ok (source_seen c.args.found.now)) c.looks.result.now before (IsModuleOf c.args.path.now c.args.found.now)
    (kept_so c.args.path.now c.args.found.now c.looks.result.now c.looks.ensures) after
    (seen_again before after c.looks.result.now c.in-Ok-true.field-0 c.in-Ok-true.field-0-test c.in-Ok-true.ensures.again))

pub returns-in-Ok-false-clause-answered : goal.returns-in-Ok-false-clause-answered
returns-in-Ok-false-clause-answered g c =
    let before = state_of g.F.Folder.state c.args.lookup.now in
    let middle = state_of g.F.Folder.state c.look_again.new.lookup in
    behind_if (module_source c.args.path.now) (Ok (source_seen c.args.found.now)) c.looks.result.now before
    (IsModuleOf c.args.path.now c.args.found.now)
    (kept_so c.args.path.now c.args.found.now c.looks.result.now c.looks.ensures) middle
    (seen_other before middle c.looks.result.now c.in-Ok-false.field-0 c.in-Ok-false.field-0-test c.in-Ok-false.ensures.again)
    (looked source_in c.module_anew.result)
    (state_of g.F.Folder.state c.module_anew.new.lookup) c.module_anew.ensures.answered

pub returns-in-Err-clause-fresh : goal.returns-in-Err-clause-fresh
returns-in-Err-clause-fresh g c =
    none_taken (g.F.Folder.state c.args.lookup.now.folder.now) c.args.lookup.now.known.now (Some c.args.found.now.looks) c.args.steps.now
    c.args.steps.now refl

pub returns-in-Err-keep_again-clause-fresh : goal.returns-in-Err-keep_again-clause-fresh
returns-in-Err-keep_again-clause-fresh g c =
    none_taken (g.F.Folder.state c.args.lookup.now.folder.now) c.args.lookup.now.known.now (Some c.args.found.now.looks) c.args.steps.now
    c.args.steps.now refl

pub returns-in-Ok-clause-fresh : goal.returns-in-Ok-clause-fresh
returns-in-Ok-clause-fresh g c =
    none_taken (g.F.Folder.state c.args.lookup.now.folder.now) c.args.lookup.now.known.now (Some c.args.found.now.looks) c.args.steps.now
    c.args.steps.now refl

pub returns-in-Ok-false-clause-fresh : goal.returns-in-Ok-false-clause-fresh
returns-in-Ok-false-clause-fresh g c =
    other_taken (state_of g.F.Folder.state c.args.lookup.now)
    (state_of g.F.Folder.state c.look_again.new.lookup) c.args.found.now.looks
    c.looks.result.now c.args.steps.now c.module_anew.new.steps c.looks.ensures
    (other_again (state_of g.F.Folder.state c.args.lookup.now)
    (state_of g.F.Folder.state c.look_again.new.lookup) c.looks.result.now c.in-Ok-false.field-0 c.in-Ok-false.field-0-test c.in-Ok-false.ensures.again)
    c.module_anew.ensures.cost

pub returns-in-Err-clause-still : goal.returns-in-Err-clause-still
returns-in-Err-clause-still g c = λ other. stays_as (state_of g.F.Folder.state c.args.lookup.now) _ _ refl

pub returns-in-Err-keep_again-clause-still : goal.returns-in-Err-keep_again-clause-still
returns-in-Err-keep_again-clause-still g c = λ other.
    stays_as (state_of g.F.Folder.state c.args.lookup.now) _ _ (c.in-Err-keep_again.ensures.unset other)

pub returns-in-Ok-clause-kept : goal.returns-in-Ok-clause-kept
returns-in-Ok-clause-kept g c =
    now_put (state_of g.F.Folder.state c.args.lookup.now) bytes_eq c.args.path.now c.args.found.now.looks (module_looks c.args.next.now)
    (module_looks c.keep_again.new.next) c.in-Ok.ensures.set
    (again_now (state_of g.F.Folder.state c.args.lookup.now) (state_of g.F.Folder.state c.look_again.new.lookup) c.args.found.now.looks c.looks.result.now c.looks.ensures
    (seen_again (state_of g.F.Folder.state c.args.lookup.now)
    (state_of g.F.Folder.state c.look_again.new.lookup) c.looks.result.now c.in-Ok-true.field-0 c.in-Ok-true.field-0-test c.in-Ok-true.ensures.again))
    c.args.path.now (same_path c.args.path.now)

pub returns-in-Ok-clause-still : goal.returns-in-Ok-clause-still
returns-in-Ok-clause-still g c =
    stays_put (state_of g.F.Folder.state c.args.lookup.now) bytes_eq c.args.path.now c.args.found.now.looks (module_looks c.args.next.now)
    (module_looks c.keep_again.new.next) c.in-Ok.ensures.set
    (again_now (state_of g.F.Folder.state c.args.lookup.now) (state_of g.F.Folder.state c.look_again.new.lookup) c.args.found.now.looks c.looks.result.now c.looks.ensures
    (seen_again (state_of g.F.Folder.state c.args.lookup.now)
    (state_of g.F.Folder.state c.look_again.new.lookup) c.looks.result.now c.in-Ok-true.field-0 c.in-Ok-true.field-0-test c.in-Ok-true.ensures.again))

pub returns-in-Ok-false-clause-kept : goal.returns-in-Ok-false-clause-kept
returns-in-Ok-false-clause-kept g c =
    let to = (seen_other (state_of g.F.Folder.state c.args.lookup.now)
    (state_of g.F.Folder.state c.look_again.new.lookup) c.looks.result.now c.in-Ok-false.field-0 c.in-Ok-false.field-0-test c.in-Ok-false.ensures.again) in
    source_before c.module_anew.result (state_of g.F.Folder.state c.args.lookup.now) (state_of g.F.Folder.state c.look_again.new.lookup) _ to.answered _ c.module_anew.ensures.kept

pub returns-in-Ok-false-clause-still : goal.returns-in-Ok-false-clause-still
returns-in-Ok-false-clause-still g c =
    let to = (seen_other (state_of g.F.Folder.state c.args.lookup.now)
    (state_of g.F.Folder.state c.look_again.new.lookup) c.looks.result.now c.in-Ok-false.field-0 c.in-Ok-false.field-0-test c.in-Ok-false.ensures.again) in
    λ other. stays_before (state_of g.F.Folder.state c.args.lookup.now) (state_of g.F.Folder.state c.look_again.new.lookup) _ to.answered _ _ (c.module_anew.ensures.still other)
