use Rattle.std.proofs.Common.{sym, ◌∙◌}
use Rattle.package_lookup.specs.Responses.{itself}
use Rattle.package_lookup.proofs.Questions.{asking_as}
use Rattle.node_resolve.proofs.Answering.{memory_err, now_comes}
use Rattle.node_resolve.proofs.RuleLemmas.{relative_is, import_is, bare_is}
use Rattle.node_resolve.proofs.esm_resolve.no_url.Goals as goal

pub returns-then-is_relative-clause-answered : goal.returns-then-is_relative-clause-answered
returns-then-is_relative-clause-answered g c =
    asking_as _ _ _ _ _ (sym (relative_is c.args.conditions.now c.args.parent.now c.args.specifier.now (sym c.is_relative.ensures ∙ c.if-is_relative.true)))
    (now_comes itself _ _ c.relative_url.result c.relative_url.ensures)

pub returns-in_err-from-clause-answered : goal.returns-in_err-from-clause-answered
returns-in_err-from-clause-answered g c = memory_err itself _ _ c.from_residual.result c.from_residual.ensures.1

pub returns-then-begins-clause-answered : goal.returns-then-begins-clause-answered
returns-then-begins-clause-answered g c =
    asking_as _ _ _ _ _ (sym (import_is c.args.conditions.now c.args.parent.now c.args.specifier.now c.in_ok-from.from c.in_ok-from.ensures (sym c.is_relative.ensures ∙ c.if-is_relative.false)
    (sym c.begins.ensures ∙ c.if-begins.true))) c.imports_resolve.ensures.answered

pub returns-clause-answered : goal.returns-clause-answered
returns-clause-answered g c =
    asking_as _ _ _ _ _ (sym (bare_is c.args.conditions.now c.args.parent.now c.args.specifier.now c.in_ok-from.from c.in_ok-from.ensures (sym c.is_relative.ensures ∙ c.if-is_relative.false)
    (sym c.begins.ensures ∙ c.if-begins.false))) c.package_resolve.ensures.answered
