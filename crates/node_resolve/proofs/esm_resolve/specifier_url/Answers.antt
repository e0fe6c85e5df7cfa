use Rattle.std.proofs.Common.{sym}
use Rattle.url_spec.specs.Schemes.{scheme_of}
use Rattle.node_spec.specs.declared.Cause.TheVariants.{Builtin, ExternalUrl}
use Rattle.package_lookup.specs.Responses.{itself}
use Rattle.package_lookup.proofs.Questions.{asking_as}
use Rattle.node_resolve.proofs.Answering.{memory_err, refused_now}
use Rattle.node_resolve.proofs.RuleLemmas.{node_scheme, other_scheme, no_scheme}
use Rattle.node_resolve.proofs.esm_resolve.specifier_url.Goals as goal

pub returns-in_err-scheme_of-clause-answered : goal.returns-in_err-scheme_of-clause-answered
returns-in_err-scheme_of-clause-answered g c = memory_err itself _ _ c.from_residual.result c.from_residual.ensures.1

pub returns-in-Node-clause-answered : goal.returns-in-Node-clause-answered
returns-in-Node-clause-answered g c =
    asking_as _ _ _ _ _ (sym (node_scheme c.args.conditions.now c.args.parent.now c.args.specifier.now (scheme_of c.args.specifier.now)
    (rw c.in-Node.is at c.in_ok-scheme_of.ensures))) (refused_now _ Builtin)

pub returns-in-Other-clause-answered : goal.returns-in-Other-clause-answered
returns-in-Other-clause-answered g c =
    asking_as _ _ _ _ _ (sym (other_scheme c.args.conditions.now c.args.parent.now c.args.specifier.now (scheme_of c.args.specifier.now)
    (rw c.in-Other.is at c.in_ok-scheme_of.ensures))) (refused_now _ ExternalUrl)

pub returns-in-NotUrl-clause-answered : goal.returns-in-NotUrl-clause-answered
returns-in-NotUrl-clause-answered g c =
    asking_as _ _ _ _ _ (sym (no_scheme c.args.conditions.now c.args.parent.now c.args.specifier.now (scheme_of c.args.specifier.now)
    (rw c.in-NotUrl.is at c.in_ok-scheme_of.ensures))) c.no_url.ensures.answered
