use Rattle.std.proofs.Common.{sym, ◌∙◌, refl}
use Rattle.package_lookup.specs.Responses.{itself}
use Rattle.package_lookup.proofs.Questions.{asking_as}
use Rattle.node_resolve.proofs.Answering.{memory_err, now_comes}
use Rattle.node_resolve.proofs.MainLemmas.{url_here}
use Rattle.node_resolve.proofs.RuleLemmas.{main_of, inside_of}
use Rattle.node_resolve.proofs.package_resolve.resolve_file.Goals as goal

pub join-requires : goal.join-requires
join-requires g c = c.requires (sym c.same.ensures ∙ c.if-same.false)

pub returns-then-same-clause-answered : goal.returns-then-same-clause-answered
returns-then-same-clause-answered g c =
    asking_as _ _ _ _ _ (sym (main_of c.args.package_folder.now c.args.subpath.now _ (sym c.same.ensures ∙ c.if-same.true)))
    c.main_file.ensures.answered

pub returns-in_err-base-clause-answered : goal.returns-in_err-base-clause-answered
returns-in_err-base-clause-answered g c = memory_err itself _ _ c.from_residual.result c.from_residual.ensures.1

pub returns-in_err-found-clause-answered : goal.returns-in_err-found-clause-answered
returns-in_err-found-clause-answered g c = memory_err itself _ _ c.from_residual-in_err-found.result c.from_residual-in_err-found.ensures.1

pub returns-clause-answered : goal.returns-clause-answered
returns-clause-answered g c =
    asking_as _ _ _ _ _ (sym (inside_of c.args.package_folder.now c.args.subpath.now _ c.in_ok-found.found
    (sym c.same.ensures ∙ c.if-same.false)
    (url_here c.args.package_folder.now c.in_ok-base.base c.args.subpath.now c.args.subpath.now _ c.in_ok-base.ensures refl c.in_ok-found.ensures)))
    (now_comes itself _ _ c.inside.result (c.inside.ensures c.args.package_folder.now c.in_ok-base.ensures))
