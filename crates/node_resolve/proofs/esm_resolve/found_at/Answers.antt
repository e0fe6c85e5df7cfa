use Rattle.node_resolve.proofs.esm_resolve.found_at.Goals as goal

pub returns-in-Err-clause-answered : goal.returns-in-Err-clause-answered
returns-in-Err-clause-answered g c = rw c.in-Err.is at c.judged.ensures.answered
