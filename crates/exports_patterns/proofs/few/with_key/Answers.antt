use Rattle.std.proofs.Common.{sym, ◌∙◌}
use Rattle.exports_patterns.proofs.FewLemmas.{kept_found, first_found, better_found, worse_found}
use Rattle.exports_patterns.proofs.few.with_key.Goals as goal

pub returns-in-None-clause-found : goal.returns-in-None-clause-found
returns-in-None-clause-found c = λ done i f. kept_found done c.args.asked.now c.args.name.now c.args.best c.in-None.ensures.matches f

pub returns-in-None-best-clause-found : goal.returns-in-None-best-clause-found
returns-in-None-best-clause-found c = λ done i f. first_found done c.args.asked.now c.args.name.now c.args.best c.in-Some.found c.in-None-best.is (i ∙ sym c.in-Some.ensures.matches.0) c.in-Some.ensures.matches.1 f

pub returns-then-precedes-clause-found : goal.returns-then-precedes-clause-found
returns-then-precedes-clause-found c = λ done i f. better_found done c.args.asked.now c.args.name.now c.args.best c.in-Some.found c.in-Some-best.held c.in-Some-best.is (i ∙ sym c.in-Some.ensures.matches.0) c.in-Some.ensures.matches.1 (c.precedes.ensures.0 c.if-precedes.true) f

pub returns-else-precedes-clause-found : goal.returns-else-precedes-clause-found
returns-else-precedes-clause-found c = λ done i f. worse_found done c.args.asked.now c.args.name.now c.args.best c.in-Some.found c.in-Some-best.held c.in-Some-best.is c.in-Some.ensures.matches.1 (λ b. let t = c.precedes.ensures.1 b in cc) f
