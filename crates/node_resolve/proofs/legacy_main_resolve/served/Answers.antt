use Rattle.std.proofs.Common.{◌++◌, ◌∙◌, codes}
use Rattle.package_lookup.specs.Responses.{itself}
use Rattle.package_lookup.specs.declared.fault.LookupFault.TheVariants.{Memory}
use Rattle.package_lookup.proofs.Questions.{looked_err, no_memory_now}
use Rattle.node_resolve.proofs.MainLemmas.{url_here, served_lost, served_fails, served_there, served_absent}
use Rattle.node_resolve.proofs.legacy_main_resolve.served.Goals as goal

pub returns-in_err-text-clause-answered : goal.returns-in_err-text-clause-answered
returns-in_err-text-clause-answered g c = λ path e.
    looked_err itself _ _ _ c.from_residual.result Memory c.from_residual.ensures.1 (no_memory_now _ _)

pub returns-in_err-join-clause-answered : goal.returns-in_err-join-clause-answered
returns-in_err-join-clause-answered g c = λ path e.
    looked_err itself _ _ _ c.from_residual-in_err-join.result Memory c.from_residual-in_err-join.ensures.1
    (no_memory_now _ _)

pub returns-in-None-clause-answered : goal.returns-in-None-clause-answered
returns-in-None-clause-answered g c = λ path e.
    served_lost _ _ (url_here path c.args.package_url.now c.as_str.result.now (codes "./" ++ (c.args.front.now ++ c.args.end.now)) _ e (c.as_str.ensures.value ∙ c.in_ok-text.ensures.text) (rw c.in-None.is at c.in_ok-join.ensures))

pub returns-in-Err-clause-answered : goal.returns-in-Err-clause-answered
returns-in-Err-clause-answered g c = λ path e.
    served_fails _ _ _ c.in-Some.url
    (url_here path c.args.package_url.now c.as_str.result.now (codes "./" ++ (c.args.front.now ++ c.args.end.now)) _ e (c.as_str.ensures.value ∙ c.in_ok-text.ensures.text) (rw c.in-Some.is at c.in_ok-join.ensures))
    c.in-Err.fault (rw c.in-Err.is at c.serves.ensures.answered)

pub returns-in-Ok-true-clause-answered : goal.returns-in-Ok-true-clause-answered
returns-in-Ok-true-clause-answered g c = λ path e.
    served_there _ _ _ c.in-Some.url
    (url_here path c.args.package_url.now c.as_str.result.now (codes "./" ++ (c.args.front.now ++ c.args.end.now)) _ e (c.as_str.ensures.value ∙ c.in_ok-text.ensures.text) (rw c.in-Some.is at c.in_ok-join.ensures))
    (rw (c.in-Ok-true.is, c.in-Ok-true.field-0-test) at c.serves.ensures.answered)

pub returns-clause-answered : goal.returns-clause-answered
returns-clause-answered g c = λ path e.
    served_absent _ _ _ c.in-Some.url
    (url_here path c.args.package_url.now c.as_str.result.now (codes "./" ++ (c.args.front.now ++ c.args.end.now)) _ e (c.as_str.ensures.value ∙ c.in_ok-text.ensures.text) (rw c.in-Some.is at c.in_ok-join.ensures))
    (rw (c.in-Ok-false.is, c.in-Ok-false.field-0-test) at c.serves.ensures.answered)
