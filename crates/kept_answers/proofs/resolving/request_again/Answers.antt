use Rattle.std.proofs.Common.{Some, Ok, refl, sym, ap, ◌∙◌, subst}
use Rattle.package_lookup.specs.Lookups.{state_of}
use Rattle.package_lookup.specs.Responses.{given, fails, no_memory}
use Rattle.tree_spec.proofs.ToldStates.{if_all}
use Rattle.package_lookup.proofs.Questions.{given_as}
use Rattle.kept_answers.proofs.Certifying.{lost, seen_again, seen_other, failing_of, to_failing, node_failing}
use Rattle.kept_answers.proofs.RightAnswers.{given_if, failed_if, behind_if, if_mapped}
use Rattle.kept_answers.specs.KnownLooks.{afresh}
use Rattle.kept_answers.specs.Tables.{IsRequestOf}
use Rattle.node_resolve.specs.declared.fault.NodeFault.TheVariants.{Memory}
use Rattle.node_resolve.specs.Places.{module_of}
use Rattle.node_resolve.specs.Responses.{responded, by_node_fault}
use Rattle.node_spec.specs.EsmResolve.{node}
use Rattle.kept_answers.proofs.FreshSteps.{none_taken, other_again, other_taken}
use Rattle.kept_answers.proofs.SharedFootprints.{no_footprint, footprint_again, footprint_behind}
use Rattle.kept_answers.proofs.RequestLemmas.{kept_so}
use Rattle.kept_answers.specs.Entries.{is_request}
use Rattle.kept_answers.specs.Freshness.{request_looks}
use Rattle.kept_answers.proofs.SeenNow.{found_before, stays_before, again_now, stays_as, stays_put, now_put, same_request}
use Rattle.kept_answers.proofs.resolving.request_again.Goals as goal

pub returns-in-Err-clause-answered : goal.returns-in-Err-clause-answered
returns-in-Err-clause-answered g c =
    let before = state_of g.F.Folder.state c.args.lookup.now in
    let after = state_of g.F.Folder.state c.look_again.new.lookup in
    let asking = node c.args.request.now.conditions.now c.args.request.now.parent.now c.args.request.now.specifier.now in
    if_mapped (IsRequestOf c.args.request.now.conditions.now c.args.key c.args.found.now) (afresh before) after asking asking
    (fails (failing_of c.in-Err.fault)) (by_node_fault c.fault_of.result)
    (λ from to. node_failing from to asking c.in-Err.fault c.fault_of.result c.fault_of.ensures)
    (failed_if asking (Ok (module_of c.args.found.now.found.value)) c.deref.result.now before
    (IsRequestOf c.args.request.now.conditions.now c.args.key c.args.found.now)
    (kept_so c.args.request.now.conditions.now c.args.request.now.parent.now c.args.request.now.specifier.now c.args.key
    c.args.found.now c.deref.result.now c.deref.ensures c.requires.key) (failing_of c.in-Err.fault) after
    (to_failing before after c.deref.result.now c.in-Err.fault c.in-Err.ensures.again))

pub returns-in-Err-keep_again-clause-answered : goal.returns-in-Err-keep_again-clause-answered
returns-in-Err-keep_again-clause-answered g c =
    let before = state_of g.F.Folder.state c.args.lookup.now in
    let after = state_of g.F.Folder.state c.look_again.new.lookup in
    let asking = node c.args.request.now.conditions.now c.args.request.now.parent.now c.args.request.now.specifier.now in
    if_mapped (IsRequestOf c.args.request.now.conditions.now c.args.key c.args.found.now) (afresh before) after asking asking
    (given (Ok (module_of c.args.found.now.found.value))) (fails no_memory)
    (λ from to. lost from to asking (Ok (module_of c.args.found.now.found.value)))
    (given_if asking (Ok (module_of c.args.found.now.found.value)) c.deref.result.now before
    (IsRequestOf c.args.request.now.conditions.now c.args.key c.args.found.now)
    (kept_so c.args.request.now.conditions.now c.args.request.now.parent.now c.args.request.now.specifier.now c.args.key
    c.args.found.now c.deref.result.now c.deref.ensures c.requires.key) after
    (seen_again before after c.deref.result.now c.in-Ok-true.field-0 c.in-Ok-true.field-0-test c.in-Ok-true.ensures.again))

pub returns-in-Ok-clause-answered : goal.returns-in-Ok-clause-answered
returns-in-Ok-clause-answered g c =
    let before = state_of g.F.Folder.state c.args.lookup.now in
    let after = state_of g.F.Folder.state c.look_again.new.lookup in
    let asking = node c.args.request.now.conditions.now c.args.request.now.parent.now c.args.request.now.specifier.now in
    if_mapped (IsRequestOf c.args.request.now.conditions.now c.args.key c.args.found.now) (afresh before) after asking asking
    (given (Ok (module_of c.args.found.now.found.value))) (given (Ok (module_of c.in-Ok.own.value)))
    (λ from to. given_as from to asking (Ok (module_of c.args.found.now.found.value)) (Ok (module_of c.in-Ok.own.value))
    (ap (λ f. Ok (module_of f)) c.in-Ok.ensures.found))
    (given_if asking (Ok (module_of c.args.found.now.found.value)) c.deref.result.now before
    (IsRequestOf c.args.request.now.conditions.now c.args.key c.args.found.now)
    (kept_so c.args.request.now.conditions.now c.args.request.now.parent.now c.args.request.now.specifier.now c.args.key
    c.args.found.now c.deref.result.now c.deref.ensures c.requires.key) after
    (seen_again before after c.deref.result.now c.in-Ok-true.field-0 c.in-Ok-true.field-0-test c.in-Ok-true.ensures.again))

pub returns-in-Ok-false-clause-answered : goal.returns-in-Ok-false-clause-answered
returns-in-Ok-false-clause-answered g c =
    let before = state_of g.F.Folder.state c.args.lookup.now in
    let middle = state_of g.F.Folder.state c.look_again.new.lookup in
    let asking = node c.args.request.now.conditions.now c.args.request.now.parent.now c.args.request.now.specifier.now in
    behind_if asking (Ok (module_of c.args.found.now.found.value)) c.deref.result.now before
    (IsRequestOf c.args.request.now.conditions.now c.args.key c.args.found.now)
    (kept_so c.args.request.now.conditions.now c.args.request.now.parent.now c.args.request.now.specifier.now c.args.key
    c.args.found.now c.deref.result.now c.deref.ensures c.requires.key) middle
    (seen_other before middle c.deref.result.now c.in-Ok-false.field-0 c.in-Ok-false.field-0-test c.in-Ok-false.ensures.again)
    (responded (λ found. module_of found.value) c.request_anew.result)
    (state_of g.F.Folder.state c.request_anew.new.lookup) c.request_anew.ensures.answered

pub returns-in-Err-clause-fresh : goal.returns-in-Err-clause-fresh
returns-in-Err-clause-fresh g c =
    none_taken (g.F.Folder.state c.args.lookup.now.folder.now) c.args.lookup.now.known.now (Some c.args.found.now.looks.value) c.args.steps.now
    c.args.steps.now refl

pub returns-in-Err-keep_again-clause-fresh : goal.returns-in-Err-keep_again-clause-fresh
returns-in-Err-keep_again-clause-fresh g c =
    none_taken (g.F.Folder.state c.args.lookup.now.folder.now) c.args.lookup.now.known.now (Some c.args.found.now.looks.value) c.args.steps.now
    c.args.steps.now refl

pub returns-in-Ok-clause-fresh : goal.returns-in-Ok-clause-fresh
returns-in-Ok-clause-fresh g c =
    none_taken (g.F.Folder.state c.args.lookup.now.folder.now) c.args.lookup.now.known.now (Some c.args.found.now.looks.value) c.args.steps.now
    c.args.steps.now refl

pub returns-in-Ok-false-clause-fresh : goal.returns-in-Ok-false-clause-fresh
returns-in-Ok-false-clause-fresh g c =
    other_taken (state_of g.F.Folder.state c.args.lookup.now)
    (state_of g.F.Folder.state c.look_again.new.lookup) c.args.found.now.looks.value
    c.deref.result.now c.args.steps.now c.request_anew.new.steps c.deref.ensures
    (other_again (state_of g.F.Folder.state c.args.lookup.now)
    (state_of g.F.Folder.state c.look_again.new.lookup) c.deref.result.now c.in-Ok-false.field-0 c.in-Ok-false.field-0-test c.in-Ok-false.ensures.again)
    c.request_anew.ensures.cost

pub returns-in-Ok-clause-footprint : goal.returns-in-Ok-clause-footprint
returns-in-Ok-clause-footprint g c = λ right.
    footprint_again (state_of g.F.Folder.state c.args.lookup.now)
    (state_of g.F.Folder.state c.look_again.new.lookup)
    c.args.request.now.conditions.now c.args.request.now.parent.now c.args.request.now.specifier.now c.args.key c.args.found.now c.deref.result.now
    c.in-Ok.own c.deref.ensures c.requires.key c.in-Ok.ensures.found
    (if_all (g.F.Folder.state c.args.lookup.now.folder.now).holds (λ tree. right))
    (seen_again (state_of g.F.Folder.state c.args.lookup.now)
    (state_of g.F.Folder.state c.look_again.new.lookup) c.deref.result.now c.in-Ok-true.field-0 c.in-Ok-true.field-0-test c.in-Ok-true.ensures.again)

pub returns-in-Err-clause-footprint : goal.returns-in-Err-clause-footprint
returns-in-Err-clause-footprint g c = λ right.
    no_footprint (g.F.Folder.state c.args.lookup.now.folder.now) c.args.lookup.now.known.now
    (node c.args.request.now.conditions.now c.args.request.now.parent.now c.args.request.now.specifier.now) c.fault_of.result

pub returns-in-Err-keep_again-clause-footprint : goal.returns-in-Err-keep_again-clause-footprint
returns-in-Err-keep_again-clause-footprint g c = λ right.
    no_footprint (g.F.Folder.state c.args.lookup.now.folder.now) c.args.lookup.now.known.now
    (node c.args.request.now.conditions.now c.args.request.now.parent.now c.args.request.now.specifier.now) Memory

pub returns-in-Err-clause-still : goal.returns-in-Err-clause-still
returns-in-Err-clause-still g c = λ other. stays_as (state_of g.F.Folder.state c.args.lookup.now) _ _ refl

pub returns-in-Err-keep_again-clause-still : goal.returns-in-Err-keep_again-clause-still
returns-in-Err-keep_again-clause-still g c = λ other.
    stays_as (state_of g.F.Folder.state c.args.lookup.now) _ _ (c.in-Err-keep_again.ensures.unset other)

pub returns-in-Ok-clause-kept : goal.returns-in-Ok-clause-kept
returns-in-Ok-clause-kept g c =
    now_put (state_of g.F.Folder.state c.args.lookup.now) is_request c.args.key c.args.found.now.looks.value (request_looks c.args.next.now)
    (request_looks c.keep_again.new.next) c.in-Ok.ensures.set
    (again_now (state_of g.F.Folder.state c.args.lookup.now) (state_of g.F.Folder.state c.look_again.new.lookup) c.args.found.now.looks.value c.deref.result.now c.deref.ensures
    (seen_again (state_of g.F.Folder.state c.args.lookup.now)
    (state_of g.F.Folder.state c.look_again.new.lookup) c.deref.result.now c.in-Ok-true.field-0 c.in-Ok-true.field-0-test c.in-Ok-true.ensures.again))
    c.args.key (same_request c.args.key)

pub returns-in-Ok-clause-still : goal.returns-in-Ok-clause-still
returns-in-Ok-clause-still g c =
    stays_put (state_of g.F.Folder.state c.args.lookup.now) is_request c.args.key c.args.found.now.looks.value (request_looks c.args.next.now)
    (request_looks c.keep_again.new.next) c.in-Ok.ensures.set
    (again_now (state_of g.F.Folder.state c.args.lookup.now) (state_of g.F.Folder.state c.look_again.new.lookup) c.args.found.now.looks.value c.deref.result.now c.deref.ensures
    (seen_again (state_of g.F.Folder.state c.args.lookup.now)
    (state_of g.F.Folder.state c.look_again.new.lookup) c.deref.result.now c.in-Ok-true.field-0 c.in-Ok-true.field-0-test c.in-Ok-true.ensures.again))

pub returns-in-Ok-false-clause-kept : goal.returns-in-Ok-false-clause-kept
returns-in-Ok-false-clause-kept g c =
    let to = (seen_other (state_of g.F.Folder.state c.args.lookup.now)
    (state_of g.F.Folder.state c.look_again.new.lookup) c.deref.result.now c.in-Ok-false.field-0 c.in-Ok-false.field-0-test c.in-Ok-false.ensures.again) in
    found_before c.request_anew.result (state_of g.F.Folder.state c.args.lookup.now) (state_of g.F.Folder.state c.look_again.new.lookup) _ to.answered _ c.request_anew.ensures.kept

pub returns-in-Ok-false-clause-still : goal.returns-in-Ok-false-clause-still
returns-in-Ok-false-clause-still g c =
    let to = (seen_other (state_of g.F.Folder.state c.args.lookup.now)
    (state_of g.F.Folder.state c.look_again.new.lookup) c.deref.result.now c.in-Ok-false.field-0 c.in-Ok-false.field-0-test c.in-Ok-false.ensures.again) in
    λ other. stays_before (state_of g.F.Folder.state c.args.lookup.now) (state_of g.F.Folder.state c.look_again.new.lookup) _ to.answered _ _ (c.request_anew.ensures.still other)

pub returns-in-Ok-false-clause-footprint : goal.returns-in-Ok-false-clause-footprint
returns-in-Ok-false-clause-footprint g c = λ right.
    let to = (seen_other (state_of g.F.Folder.state c.args.lookup.now)
    (state_of g.F.Folder.state c.look_again.new.lookup) c.deref.result.now c.in-Ok-false.field-0 c.in-Ok-false.field-0-test c.in-Ok-false.ensures.again) in
    footprint_behind (state_of g.F.Folder.state c.args.lookup.now) (state_of g.F.Folder.state c.look_again.new.lookup) _
    (node c.args.request.now.conditions.now c.args.request.now.parent.now c.args.request.now.specifier.now)
    c.request_anew.result to.answered c.request_anew.ensures.footprint

pub returns-in-Err-keep_again-clause-right : goal.returns-in-Err-keep_again-clause-right
returns-in-Err-keep_again-clause-right g c =
    if_all (g.F.Folder.state c.args.lookup.now.folder.now).holds
    (λ tree of. c.keep_again.ensures.right
    (subst (λ cs. IsRequestOf cs c.args.key c.args.found.now) (sym c.requires.next) of))

pub returns-in-Ok-clause-right : goal.returns-in-Ok-clause-right
returns-in-Ok-clause-right g c =
    if_all (g.F.Folder.state c.args.lookup.now.folder.now).holds
    (λ tree of. c.keep_again.ensures.right
    (subst (λ cs. IsRequestOf cs c.args.key c.args.found.now) (sym c.requires.next) of))
