use Rattle.std.proofs.Common.{◌≡◌, length, Ok, sym, subst, arith}
use Rattle.std.specs.Map.{keys_of}
use Rattle.trace_spec.specs.Walking.{a_module, visited, walked}
use Rattle.trace_spec.specs.Checks.{rules}
use Rattle.trace_walk.specs.Meeting.{Met}
use Rattle.trace_walk.specs.Shown.{before_of, done}
use Rattle.trace_walk.specs.Walking.{AllNamed, Advances}
use Rattle.trace_walk.proofs.FaultKinds.{handed}
use Rattle.trace_walk.proofs.TableLemmas.{keys_of-length}
use Rattle.trace_walk.proofs.Meetings.{left_begins, left_goes, left_fails, left_completes, met_now, given_same}
use Rattle.trace_walk.proofs.Visiting.{at_index, next_visit, no_visit}
use Rattle.trace_walk.proofs.Advancing.{advances_begin, advances_on, walks_done, walks_stopped, counts_begin, counts_on}
use Rattle.trace_walk.proofs.visits.visit_modules.Goals as goal

pub loop-place-init : goal.loop-place-init
loop-place-init g c = record { left = λ all. left_begins _ _; advances = advances_begin _ _ _ _ _ c.requires.beside c.requires.ready; counts = counts_begin c.args.tables.now; few = c.requires.few; within = omega arith }

pub returns-in_err-visit-clause-met : goal.returns-in_err-visit-clause-met
returns-in_err-visit-clause-met g c = λ all.
    let keys = keys_of-length c.loop-place.tables.modules.entries in
    let at = at_index (keys_of c.loop-place.tables.modules.entries) c.loop-place.place (let e = c.len.ensures.len in omega (arith, e, keys, c.loop-place-test.true)) in
    subst (λ v. Met (g.A.Answerer.state c.args.answerer.now) (walked (rules c.args.config.now) 20001 (before_of c.args.tables.now) 0) (done v c.visit.new.tables) (g.A.Answerer.state c.visit.new.answerer)) (sym (handed c.from_residual.result c.in_err-visit.field-0.0 c.from_residual.ensures.1))
    (left_fails _ _ _ _ (visited (rules c.args.config.now) (before_of c.loop-place.tables) (a_module at.0)) _ c.in_err-visit.field-0.0
    (next_visit _ _ _ c.args.config.now (before_of c.loop-place.tables) c.loop-place.place at.0 (omega (arith, c.loop-place.invariant.within, c.loop-place.invariant.few)) at.1 (c.loop-place.invariant.left all))
    (c.in_err-visit.ensures.met at.0 at.1 (c.loop-place.invariant.advances.grows.named all)))

pub loop-place-preserved : goal.loop-place-preserved
loop-place-preserved g c =
    let keys = keys_of-length c.loop-place.tables.modules.entries in
    let at = at_index (keys_of c.loop-place.tables.modules.entries) c.loop-place.place (let e = c.len.ensures.len in omega (arith, e, keys, c.loop-place-test.true)) in
    record {
      left = λ all. left_goes _ _ _ _ (visited (rules c.args.config.now) (before_of c.loop-place.tables) (a_module at.0)) _ (before_of c.visit.new.tables)
          (next_visit _ _ _ c.args.config.now (before_of c.loop-place.tables) c.loop-place.place at.0 (omega (arith, c.loop-place.invariant.within, c.loop-place.invariant.few)) at.1 (c.loop-place.invariant.left all))
          (c.in_ok-visit.ensures.met at.0 at.1 (c.loop-place.invariant.advances.grows.named all));
      advances = advances_on _ c.loop-place.place 1 _ _ _ _ _ _ _ _ _ _ c.loop-place.invariant.advances.grows.named c.loop-place.invariant.advances c.in_ok-visit.ensures.walks.advances;
      counts = counts_on 0 0 c.args.tables.now c.loop-place.tables c.visit.new.tables c.loop-place.invariant.counts c.in_ok-visit.ensures.counts;
      few = c.in_ok-visit.ensures.walks.advances.grows.few c.loop-place.invariant.few;
      within = (let e = c.len.ensures.len in let m = c.in_ok-visit.ensures.walks.advances.grows.longer in omega (arith, e, m, c.loop-place-test.true));
    }

pub returns-clause-met : goal.returns-clause-met
returns-clause-met g c = λ all.
    let keys = keys_of-length c.loop-place.tables.modules.entries in
    left_completes _ _ _ _ _ (Ok (before_of c.loop-place.tables))
    (no_visit _ _ _ c.args.config.now (before_of c.loop-place.tables) c.loop-place.place (omega (arith, c.loop-place.invariant.within, c.loop-place.invariant.few)) (let e = c.len.ensures.len in omega (arith, e, keys, c.loop-place-test.false)) (c.loop-place.invariant.left all))
    (met_now _ (Ok (before_of c.loop-place.tables)) (Ok (before_of c.loop-place.tables)) (given_same _))

pub returns-in_err-visit-clause-walks : goal.returns-in_err-visit-clause-walks
returns-in_err-visit-clause-walks g c =
    walks_stopped c.args.config.now _ c.loop-place.place 1 20000 _ _ _ _ _ _ _ _ _ _ _ c.in_err-visit.field-0.0 c.from_residual.result (let e = c.len.ensures.len in omega (arith, e, c.loop-place.invariant.few, c.loop-place-test.true)) c.from_residual.ensures.1 c.loop-place.invariant.advances c.in_err-visit.ensures.walks

pub returns-clause-walks : goal.returns-clause-walks
returns-clause-walks g c =
    let all : c.loop-place.place ≡ length c.loop-place.tables.modules.entries = (let e = c.len.ensures.len in omega (arith, e, c.loop-place.invariant.within, c.loop-place-test.false)) in
    walks_done _ _ 20000 _ _ _ _ _ _ _ c.loop-place.invariant.few
    (subst (λ visits. Advances c.args.config.now visits (AllNamed c.args.config.now c.args.tables.now.modules.entries) c.args.tables.now c.loop-place.tables (g.A.Answerer.state c.args.answerer.now).steps (g.A.Answerer.state c.loop-place.answerer).steps (g.A.Answerer.ready c.loop-place.answerer)) all c.loop-place.invariant.advances)

pub returns-clause-counts : goal.returns-clause-counts
returns-clause-counts g c = c.loop-place.invariant.counts
