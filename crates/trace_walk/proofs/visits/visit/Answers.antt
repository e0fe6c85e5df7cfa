use Rattle.std.proofs.Common.{◌≡◌, Some, sym, ap, ◌∙◌, subst}
use Rattle.std.specs.Prelude.{slice_get, option_map}
use Rattle.std.specs.Map.Iter.{deref_pair}
use Rattle.trace_spec.specs.declared.TraceFault.TheVariants.{Memory}
use Rattle.trace_spec.specs.Walking.{a_module, visited}
use Rattle.trace_spec.specs.Checks.{rules}
use Rattle.trace_walk.specs.Meeting.{Met}
use Rattle.trace_walk.specs.Shown.{before_of, done}
use Rattle.trace_walk.proofs.FaultKinds.{handed}
use Rattle.trace_walk.proofs.Meetings.{met_memory}
use Rattle.trace_walk.proofs.Visiting.{is_referrer}
use Rattle.trace_walk.proofs.UrlLemmas.{placed_url}
use Rattle.trace_walk.proofs.Advancing.{bounded_none, walks_refused, walks_as}
use Rattle.trace_walk.proofs.visits.visit.Goals as goal

pub returns-clause-met : goal.returns-clause-met
returns-clause-met g c = λ m at all.
    let entry : slice_get c.args.tables.now.modules.entries c.args.place ≡ Some (c.unwrap.result.0.now, c.unwrap.result.1.now) = sym c.get_index.ensures.entry ∙ ap (option_map deref_pair) c.unwrap.ensures in
    c.visit_module.ensures.met m
    (is_referrer c.args.config.now c.args.tables.now.modules.entries c.args.place m (c.unwrap.result.0.now, c.unwrap.result.1.now) c.in_ok-referrer.referrer at entry all c.in_ok-referrer.ensures.name_is c.in_ok-referrer.ensures.text c.in_ok-referrer.ensures.path c.in_ok-referrer.ensures.shown_so) all

pub returns-in_err-referrer-clause-met : goal.returns-in_err-referrer-clause-met
returns-in_err-referrer-clause-met g c = λ m at all.
    subst (λ v. Met (g.A.Answerer.state c.args.answerer.now) (visited (rules c.args.config.now) (before_of c.args.tables.now) (a_module m)) (done v c.args.tables.now) (g.A.Answerer.state c.args.answerer.now)) (sym (handed c.from_residual.result Memory c.from_residual.ensures.1))
    (met_memory (g.A.Answerer.state c.args.answerer.now) (visited (rules c.args.config.now) (before_of c.args.tables.now) (a_module m)))

pub returns-clause-walks : goal.returns-clause-walks
returns-clause-walks g c =
    let entry : slice_get c.args.tables.now.modules.entries c.args.place ≡ Some (c.unwrap.result.0.now, c.unwrap.result.1.now) = sym c.get_index.ensures.entry ∙ ap (option_map deref_pair) c.unwrap.ensures in
    walks_as _ 1 1 _ _ _ _ _ _ _ c.visit_module.result
    (λ all. placed_url c.args.config.now c.args.tables.now.modules.entries c.args.place (c.unwrap.result.0.now, c.unwrap.result.1.now) c.in_ok-referrer.referrer c.requires.within entry all c.in_ok-referrer.ensures.name_is c.in_ok-referrer.ensures.text c.in_ok-referrer.ensures.path c.in_ok-referrer.ensures.shown_so)
    c.visit_module.ensures.walks

pub returns-in_err-referrer-clause-walks : goal.returns-in_err-referrer-clause-walks
returns-in_err-referrer-clause-walks g c = walks_refused c.args.config.now 1 1 _ _ _ _ _ _ Memory c.from_residual.result c.from_residual.ensures.1 (bounded_none 1 c.args.tables.now _) tt
