use Rattle.std.proofs.Common.{None, Some, Ok, sym, ◌∙◌}
use Rattle.node_spec.specs.PackageResolve.{in_modules}
use Rattle.node_spec.specs.declared.Cause.TheVariants.{InvalidSpecifier}
use Rattle.package_lookup.proofs.Questions.{asking_as, now_given}
use Rattle.node_resolve.specs.Asked.{subpath_of}
use Rattle.node_resolve.specs.SelfNamed.{named_itself, found_or}
use Rattle.node_resolve.proofs.Answering.{refused_now, resolved_fails, then_ok}
use Rattle.node_resolve.proofs.RuleLemmas.{name_refused, name_is}
use Rattle.node_resolve.proofs.package_resolve.resolve_name.Goals as goal

pub returns-then-not-is_package_name-clause-answered : goal.returns-then-not-is_package_name-clause-answered
returns-then-not-is_package_name-clause-answered g c =
    asking_as _ _ _ _ _ (sym (name_refused c.args.conditions.now c.args.from.now (subpath_of c.args.asked.now) (sym c.is_package_name.ensures ∙ c.if-not-is_package_name.true))) (refused_now _ InvalidSpecifier)

pub returns-in-Err-clause-answered : goal.returns-in-Err-clause-answered
returns-in-Err-clause-answered g c =
    asking_as _ _ _ _ _ (sym (name_is c.args.conditions.now c.args.from.now (subpath_of c.args.asked.now) (sym c.is_package_name.ensures ∙ c.if-not-is_package_name.false)))
    (resolved_fails _ _ (named_itself c.args.conditions.now c.args.from.now (subpath_of c.args.asked.now)) (found_or (in_modules c.args.conditions.now c.args.from.now (subpath_of c.args.asked.now))) c.in-Err.fault
    (rw c.in-Err.is at c.package_self_resolve.ensures.answered))

pub returns-in-Ok-Some-clause-answered : goal.returns-in-Ok-Some-clause-answered
returns-in-Ok-Some-clause-answered g c =
    asking_as _ _ _ _ _ (sym (name_is c.args.conditions.now c.args.from.now (subpath_of c.args.asked.now) (sym c.is_package_name.ensures ∙ c.if-not-is_package_name.false)))
    (then_ok _ _ _ (named_itself c.args.conditions.now c.args.from.now (subpath_of c.args.asked.now)) (found_or (in_modules c.args.conditions.now c.args.from.now (subpath_of c.args.asked.now))) (Some c.in-Ok-Some.url) _
    (rw (c.in-Ok-Some.is, c.in-Ok-Some.field-0-is) at c.package_self_resolve.ensures.answered) (now_given _ (Ok c.in-Ok-Some.url)))

pub returns-in-Ok-None-clause-answered : goal.returns-in-Ok-None-clause-answered
returns-in-Ok-None-clause-answered g c =
    asking_as _ _ _ _ _ (sym (name_is c.args.conditions.now c.args.from.now (subpath_of c.args.asked.now) (sym c.is_package_name.ensures ∙ c.if-not-is_package_name.false)))
    (then_ok _ _ _ (named_itself c.args.conditions.now c.args.from.now (subpath_of c.args.asked.now)) (found_or (in_modules c.args.conditions.now c.args.from.now (subpath_of c.args.asked.now))) None _
    (rw (c.in-Ok-None.is, c.in-Ok-None.field-0-is) at c.package_self_resolve.ensures.answered) c.resolve_in_modules.ensures.answered)
