use Rattle.std.proofs.Common.{None, Some, sym, ◌∙◌}
use Rattle.std.proofs.lemmas.Bool.{cond-true, cond-false}
use Rattle.node_spec.specs.LookupPackageScope.{package_scope}
use Rattle.node_spec.specs.PackageImportsResolve.{imported_at}
use Rattle.node_spec.specs.declared.Cause.TheVariants.{InvalidSpecifier, ImportNotDefined}
use Rattle.package_lookup.proofs.Questions.{then_given, asking_as}
use Rattle.node_resolve.proofs.Answering.{looked_fails, refused_now}
use Rattle.node_resolve.proofs.package_imports_resolve.imports_resolve.Goals as goal

pub returns-then-is_refused-clause-answered : goal.returns-then-is_refused-clause-answered
returns-then-is_refused-clause-answered g c =
    asking_as _ _ _ _ _ (sym (cond-true _ _ _ (sym c.is_refused.ensures ∙ c.if-is_refused.true)))
    (refused_now _ InvalidSpecifier)

pub returns-in-Err-clause-answered : goal.returns-in-Err-clause-answered
returns-in-Err-clause-answered g c =
    asking_as _ _ _ _ _ (sym (cond-false _ _ _ (sym c.is_refused.ensures ∙ c.if-is_refused.false)))
    (looked_fails _ _ (package_scope c.args.from.now) (imported_at c.args.conditions.now c.args.text.now) c.in-Err.fault
    c.behind.result c.behind.ensures (rw c.in-Err.is at c.scope_of.ensures.answered))

pub returns-in-Ok-None-clause-answered : goal.returns-in-Ok-None-clause-answered
returns-in-Ok-None-clause-answered g c =
    asking_as _ _ _ _ _ (sym (cond-false _ _ _ (sym c.is_refused.ensures ∙ c.if-is_refused.false)))
    (then_given _ _ _ (package_scope c.args.from.now) (imported_at c.args.conditions.now c.args.text.now) None _
    (rw (c.in-Ok-None.is, c.in-Ok-None.field-0-is) at c.scope_of.ensures.answered) (refused_now _ ImportNotDefined))

pub returns-in-Ok-Some-clause-answered : goal.returns-in-Ok-Some-clause-answered
returns-in-Ok-Some-clause-answered g c =
    asking_as _ _ _ _ _ (sym (cond-false _ _ _ (sym c.is_refused.ensures ∙ c.if-is_refused.false)))
    (then_given _ _ _ (package_scope c.args.from.now) (imported_at c.args.conditions.now c.args.text.now)
    (Some c.in-Ok-Some.scope) _ (rw (c.in-Ok-Some.is, c.in-Ok-Some.field-0-is) at c.scope_of.ensures.answered)
    c.imported_at.ensures.answered)
