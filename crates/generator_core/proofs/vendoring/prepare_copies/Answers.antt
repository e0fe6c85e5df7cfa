use Rattle.std.proofs.Common.{Result, refl, subst, sym}
use Rattle.std.specs.Prelude.{IfOk}
use Rattle.tree_vendor.specs.Planning.{Plans}
use Rattle.request_trace.specs.Footprints.{IsFootprint}
use Rattle.request_trace.specs.Showing.{Traced}
use Rattle.generation.specs.declared.generated.Generated.{Generated}
use Rattle.generation.specs.declared.stop.Stop.{Stop}
use Rattle.generation.specs.Generating.{GeneratingOver, generated_of}
use Rattle.generation.proofs.Generatings.{steps_fresh}
use Rattle.generator_core.specs.Vendoring.{IsFree}
use Rattle.generator_core.proofs.Vendorings.{no_plan, not_free, not_generated, prepared}
use Rattle.generator_core.proofs.vendoring.prepare_copies.Goals as goal

pub returns-in-Err-clause-prepares : goal.returns-in-Err-clause-prepares
returns-in-Err-clause-prepares g c =
    let before = g.F.Folder.state c.args.folder.now in
    let middle = g.F.Folder.state c.generate_traced.new.folder in
    not_generated c.args.to.now c.args.config.now before middle c.new-known.result c.generate_traced.new.known
    (record { kept = c.new-known.ensures.kept; laid = c.new-known.ensures.laid }) c.in-Err.stop
    (subst (λ (r : Result (Generated × Traced) Stop). GeneratingOver c.args.config.now before c.new-known.result (generated_of r) middle c.generate_traced.new.known)
    c.in-Err.is c.generate_traced.ensures.generates)

pub returns-in-Err-look_free-clause-prepares : goal.returns-in-Err-look_free-clause-prepares
returns-in-Err-look_free-clause-prepares g c =
    let before = g.F.Folder.state c.args.folder.now in
    let middle = g.F.Folder.state c.generate_traced.new.folder in
    let after = g.F.Folder.state c.look_free.new.folder in
    let known = c.new-known.result in
    let later = c.generate_traced.new.known in
    let over =
    subst (λ (r : Result (Generated × Traced) Stop). GeneratingOver c.args.config.now before known (generated_of r) middle later)
    c.in-Ok.is c.generate_traced.ensures.generates in
    not_free c.args.to.now c.args.config.now before middle known later
    (record { kept = c.new-known.ensures.kept; laid = c.new-known.ensures.laid }) c.in-Ok._generated over after
    c.in-Err-look_free.stop
    (subst (λ r. IsFree c.args.to.now middle r after) c.in-Err-look_free.is c.look_free.ensures)

pub returns-in-Err-plan-clause-prepares : goal.returns-in-Err-plan-clause-prepares
returns-in-Err-plan-clause-prepares g c =
    let before = g.F.Folder.state c.args.folder.now in
    let middle = g.F.Folder.state c.generate_traced.new.folder in
    let after = g.F.Folder.state c.look_free.new.folder in
    let known = c.new-known.result in
    let later = c.generate_traced.new.known in
    let over =
    subst (λ (r : Result (Generated × Traced) Stop). GeneratingOver c.args.config.now before known (generated_of r) middle later)
    c.in-Ok.is c.generate_traced.ensures.generates in
    let of =
    subst (λ (r : Result (Generated × Traced) Stop). IfOk r (λ found. IsFootprint c.args.config.now before known later found.1.footprint))
    c.in-Ok.is c.generate_traced.ensures.footprint in
    no_plan c.args.to.now c.args.config.now before middle known later
    (record { kept = c.new-known.ensures.kept; laid = c.new-known.ensures.laid }) c.in-Ok._generated over after c.requires c.footprint.result.now
    (g.met.F.Folder.told c.args.folder.now)
    (subst (IsFootprint c.args.config.now before known later) (sym c.footprint.ensures) of)
    (subst (λ r. IsFree c.args.to.now middle r after) c.in-Ok-look_free.is c.look_free.ensures)
    c.in-Err-plan.fault c.stop_of.result
    (subst (Plans c.footprint.result.now later c.args.to.now) c.in-Err-plan.is c.plan.ensures) c.stop_of.ensures

pub returns-in-Ok-plan-clause-prepares : goal.returns-in-Ok-plan-clause-prepares
returns-in-Ok-plan-clause-prepares g c =
    let before = g.F.Folder.state c.args.folder.now in
    let middle = g.F.Folder.state c.generate_traced.new.folder in
    let after = g.F.Folder.state c.look_free.new.folder in
    let known = c.new-known.result in
    let later = c.generate_traced.new.known in
    let over =
    subst (λ (r : Result (Generated × Traced) Stop). GeneratingOver c.args.config.now before known (generated_of r) middle later)
    c.in-Ok.is c.generate_traced.ensures.generates in
    let of =
    subst (λ (r : Result (Generated × Traced) Stop). IfOk r (λ found. IsFootprint c.args.config.now before known later found.1.footprint))
    c.in-Ok.is c.generate_traced.ensures.footprint in
    prepared c.args.to.now c.args.config.now before middle known later
    (record { kept = c.new-known.ensures.kept; laid = c.new-known.ensures.laid }) c.in-Ok._generated over after c.requires c.footprint.result.now
    (g.met.F.Folder.told c.args.folder.now)
    (subst (IsFootprint c.args.config.now before known later) (sym c.footprint.ensures) of)
    (subst (λ r. IsFree c.args.to.now middle r after) c.in-Ok-look_free.is c.look_free.ensures)
    (record { known = later; plan = c.in-Ok-plan.plan }) refl
    (subst (Plans c.footprint.result.now later c.args.to.now) c.in-Ok-plan.is c.plan.ensures)

pub returns-in-Err-clause-to_end : goal.returns-in-Err-clause-to_end
returns-in-Err-clause-to_end g c =
    steps_fresh c.args.config.now (g.F.Folder.state c.args.folder.now) (g.F.Folder.state c.generate_traced.new.folder) c.new-known.result c.generate_traced.new.known
    (record { kept = c.new-known.ensures.kept; laid = c.new-known.ensures.laid }) _ _ c.generate_traced.ensures.to_end

pub returns-in-Err-look_free-clause-to_end : goal.returns-in-Err-look_free-clause-to_end
returns-in-Err-look_free-clause-to_end g c =
    steps_fresh c.args.config.now (g.F.Folder.state c.args.folder.now) (g.F.Folder.state c.generate_traced.new.folder) c.new-known.result c.generate_traced.new.known
    (record { kept = c.new-known.ensures.kept; laid = c.new-known.ensures.laid }) _ _ c.generate_traced.ensures.to_end

pub returns-in-Err-plan-clause-to_end : goal.returns-in-Err-plan-clause-to_end
returns-in-Err-plan-clause-to_end g c =
    steps_fresh c.args.config.now (g.F.Folder.state c.args.folder.now) (g.F.Folder.state c.generate_traced.new.folder) c.new-known.result c.generate_traced.new.known
    (record { kept = c.new-known.ensures.kept; laid = c.new-known.ensures.laid }) _ _ c.generate_traced.ensures.to_end

pub returns-in-Ok-plan-clause-to_end : goal.returns-in-Ok-plan-clause-to_end
returns-in-Ok-plan-clause-to_end g c =
    steps_fresh c.args.config.now (g.F.Folder.state c.args.folder.now) (g.F.Folder.state c.generate_traced.new.folder) c.new-known.result c.generate_traced.new.known
    (record { kept = c.new-known.ensures.kept; laid = c.new-known.ensures.laid }) _ _ c.generate_traced.ensures.to_end
