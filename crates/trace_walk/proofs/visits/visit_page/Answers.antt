use Rattle.trace_spec.specs.Walking.{the_page}
use Rattle.trace_walk.specs.Shown.{before_of, done}
use Rattle.trace_walk.proofs.FaultKinds.{unserved_kind}
use Rattle.trace_walk.proofs.Advancing.{bounded_none, walks_refused, walks_as}
use Rattle.trace_walk.proofs.Visiting.{page_done, page_refused}
use Rattle.trace_walk.proofs.UrlLemmas.{referrer_url}
use Rattle.trace_walk.proofs.visits.visit_page.Goals as goal

pub returns-clause-met : goal.returns-clause-met
returns-clause-met g c = λ all.
    page_done _ _ c.args.config.now (before_of c.args.tables.now) c.in_ok-referrer.referrer.name (done c.follow_all.result c.follow_all.new.tables) c.in_ok-referrer.ensures.served.1 (rw c.entries.ensures.entries at (c.follow_all.ensures.met the_page c.in_ok-referrer.ensures.served.0 all))

pub returns-in_err-referrer-clause-met : goal.returns-in_err-referrer-clause-met
returns-in_err-referrer-clause-met g c = λ all.
    page_refused _ c.args.config.now (before_of c.args.tables.now) c.in_err-referrer.field-0.0 c.from_residual.result c.args.tables.now c.from_residual.ensures.1 c.in_err-referrer.ensures.unserved

pub returns-clause-walks : goal.returns-clause-walks
returns-clause-walks g c =
    walks_as _ 0 0 _ _ _ _ _ _ _ c.follow_all.result (λ page. referrer_url c.args.config.now the_page c.in_ok-referrer.referrer c.in_ok-referrer.ensures.served.0) c.follow_all.ensures.walks

pub returns-in_err-referrer-clause-walks : goal.returns-in_err-referrer-clause-walks
returns-in_err-referrer-clause-walks g c =
    walks_refused c.args.config.now 0 0 _ _ _ _ _ _ c.in_err-referrer.field-0.0 c.from_residual.result c.from_residual.ensures.1 (bounded_none 0 c.args.tables.now _) (unserved_kind c.args.config.now the_page c.in_err-referrer.field-0.0 c.in_err-referrer.ensures.unserved)
