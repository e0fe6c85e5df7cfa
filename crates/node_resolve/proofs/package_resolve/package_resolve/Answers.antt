use Rattle.std.proofs.Common.{sym, ◌∙◌}
use Rattle.node_spec.specs.declared.Cause.TheVariants.{Builtin, InvalidSpecifier}
use Rattle.package_lookup.specs.Responses.{itself}
use Rattle.package_lookup.proofs.Questions.{asking_as}
use Rattle.node_resolve.specs.Asked.{subpath_of}
use Rattle.node_resolve.proofs.Answering.{memory_err, refused_now}
use Rattle.node_resolve.proofs.RuleLemmas.{empty_is, builtin_is, slash_is, nameless_is, named_is}
use Rattle.node_resolve.proofs.package_resolve.package_resolve.Goals as goal

pub returns-then-same-clause-answered : goal.returns-then-same-clause-answered
returns-then-same-clause-answered g c = asking_as _ _ _ _ _ (sym (empty_is c.args.conditions.now c.args.from.now c.args.text.now (sym c.same.ensures ∙ c.if-same.true))) (refused_now _ InvalidSpecifier)

pub returns-then-is_builtin-clause-answered : goal.returns-then-is_builtin-clause-answered
returns-then-is_builtin-clause-answered g c = asking_as _ _ _ _ _ (sym (builtin_is c.args.conditions.now c.args.from.now c.args.text.now (sym c.same.ensures ∙ c.if-same.false) (sym c.is_builtin.ensures ∙ c.if-is_builtin.true))) (refused_now _ Builtin)

pub returns-then-ends_in_slash-clause-answered : goal.returns-then-ends_in_slash-clause-answered
returns-then-ends_in_slash-clause-answered g c = asking_as _ _ _ _ _ (sym (slash_is c.args.conditions.now c.args.from.now c.args.text.now (sym c.same.ensures ∙ c.if-same.false) (sym c.is_builtin.ensures ∙ c.if-is_builtin.false) (sym c.ends_in_slash.ensures ∙ c.if-ends_in_slash.true))) (refused_now _ InvalidSpecifier)

pub returns-in_err-of-clause-answered : goal.returns-in_err-of-clause-answered
returns-in_err-of-clause-answered g c = memory_err itself _ _ c.from_residual.result c.from_residual.ensures.1

pub returns-in-None-clause-answered : goal.returns-in-None-clause-answered
returns-in-None-clause-answered g c =
    asking_as _ _ _ _ _ (sym (nameless_is c.args.conditions.now c.args.from.now c.args.text.now (sym c.same.ensures ∙ c.if-same.false) (sym c.is_builtin.ensures ∙ c.if-is_builtin.false) (sym c.ends_in_slash.ensures ∙ c.if-ends_in_slash.false) (rw c.in-None.is at c.in_ok-of.ensures.parts)))
    (refused_now _ InvalidSpecifier)

pub returns-in-Some-clause-answered : goal.returns-in-Some-clause-answered
returns-in-Some-clause-answered g c =
    let split = rw c.in-Some.is at c.in_ok-of.ensures.parts in
    asking_as _ _ _ _ _ (sym (named_is c.args.conditions.now c.args.from.now c.args.text.now (subpath_of c.in-Some.asked) (sym c.same.ensures ∙ c.if-same.false) (sym c.is_builtin.ensures ∙ c.if-is_builtin.false) (sym c.ends_in_slash.ensures ∙ c.if-ends_in_slash.false) split.has_name split.parts))
    c.resolve_name.ensures.answered
