use Rattle.std.proofs.Common.{◌≡◌, [], ◌+◌, length, drop, Ok, Some, sym, ap, ◌∙◌, subst, arith}
use Rattle.std.proofs.lemmas.List.{drop_all}
use Rattle.std.specs.Prelude.{slice_get, option_copied}
use Rattle.shared_types.proofs.ListSteps.{drop_at}
use Rattle.trace_spec.specs.Walking.{followed}
use Rattle.trace_spec.specs.Checks.{rules, follows}
use Rattle.trace_walk.specs.Meeting.{Met}
use Rattle.trace_walk.specs.Shown.{before_of, done, specifiers_of}
use Rattle.trace_walk.specs.Walking.{Counts}
use Rattle.trace_walk.proofs.FaultKinds.{handed}
use Rattle.trace_walk.proofs.Meetings.{left_begins, left_goes, left_fails, left_completes, met_now, given_same}
use Rattle.trace_walk.proofs.Advancing.{advances_begin, advances_on, walks_done, walks_stopped, counts_begin, counts_on}
use Rattle.trace_walk.proofs.visits.follow_all.Goals as goal

pub loop-next-init : goal.loop-next-init
loop-next-init g c = record { left = λ r is all. left_begins _ _; advances = advances_begin _ _ _ _ _ c.requires.beside c.requires.ready; counts = counts_begin c.args.tables.now; within = omega arith }

pub loop-next-preserved : goal.loop-next-preserved
loop-next-preserved g c =
    let at : slice_get (specifiers_of c.args.specifiers) c.loop-next.next ≡ Some c.unwrap-specifier.result.now = sym c.at.ensures ∙ ap option_copied c.unwrap-specifier.ensures in
    let rest = drop_at (specifiers_of c.args.specifiers) c.loop-next.next c.unwrap-specifier.result.now at in
    record {
      left = λ r is all.
          left_goes _ _ _ _ (follows c.args.config.now (before_of c.loop-next.tables) r c.unwrap-specifier.result.now) (λ after. followed (rules c.args.config.now) after r (drop (c.loop-next.next + 1) (specifiers_of c.args.specifiers))) (before_of c.follow.new.tables)
          (rw rest at (c.loop-next.invariant.left r is all)) (c.in_ok-follow.ensures.met r is (c.loop-next.invariant.advances.grows.named all));
      advances = advances_on _ 0 0 _ _ _ _ _ _ _ _ _ _ (λ url. url) c.loop-next.invariant.advances c.in_ok-follow.ensures.one.walks.advances;
      counts = counts_on c.loop-next.next 1 c.args.tables.now c.loop-next.tables c.follow.new.tables c.loop-next.invariant.counts c.in_ok-follow.ensures.one.counts;
      within = (let e = c.len.ensures in omega (arith, e, c.loop-next-test.true));
    }

pub returns-in_err-follow-clause-met : goal.returns-in_err-follow-clause-met
returns-in_err-follow-clause-met g c = λ r is all.
    let at : slice_get (specifiers_of c.args.specifiers) c.loop-next.next ≡ Some c.unwrap-specifier.result.now = sym c.at.ensures ∙ ap option_copied c.unwrap-specifier.ensures in
    let rest = drop_at (specifiers_of c.args.specifiers) c.loop-next.next c.unwrap-specifier.result.now at in
    subst (λ v. Met (g.A.Answerer.state c.args.answerer.now) (followed (rules c.args.config.now) (before_of c.args.tables.now) r (specifiers_of c.args.specifiers)) (done v c.follow.new.tables) (g.A.Answerer.state c.follow.new.answerer)) (sym (handed c.from_residual.result c.in_err-follow.field-0.0 c.from_residual.ensures.1))
    (left_fails _ _ _ _ (follows c.args.config.now (before_of c.loop-next.tables) r c.unwrap-specifier.result.now) (λ after. followed (rules c.args.config.now) after r (drop (c.loop-next.next + 1) (specifiers_of c.args.specifiers))) c.in_err-follow.field-0.0
    (rw rest at (c.loop-next.invariant.left r is all)) (c.in_err-follow.ensures.met r is (c.loop-next.invariant.advances.grows.named all)))

pub returns-clause-met : goal.returns-clause-met
returns-clause-met g c = λ r is all.
    let past = drop_all c.loop-next.next (specifiers_of c.args.specifiers) (let e = c.len.ensures in omega (arith, e, c.loop-next-test.false)) in
    left_completes _ _ _ _ (followed (rules c.args.config.now) (before_of c.loop-next.tables) r []) (Ok (before_of c.loop-next.tables)) (rw past at (c.loop-next.invariant.left r is all))
    (met_now _ (Ok (before_of c.loop-next.tables)) (Ok (before_of c.loop-next.tables)) (given_same _))

pub returns-in_err-follow-clause-walks : goal.returns-in_err-follow-clause-walks
returns-in_err-follow-clause-walks g c =
    walks_stopped c.args.config.now 0 0 0 0 _ _ _ _ _ _ _ _ _ _ _ c.in_err-follow.field-0.0 c.from_residual.result (omega arith) c.from_residual.ensures.1 c.loop-next.invariant.advances c.in_err-follow.ensures.one.walks

pub returns-clause-walks : goal.returns-clause-walks
returns-clause-walks g c = walks_done _ 0 0 _ _ _ _ _ _ _ (omega arith) c.loop-next.invariant.advances

pub returns-clause-counts : goal.returns-clause-counts
returns-clause-counts g c =
    let all : c.loop-next.next ≡ length (specifiers_of c.args.specifiers) = (let e = c.len.ensures in omega (arith, e, c.loop-next.invariant.within, c.loop-next-test.false)) in
    subst (λ n. Counts n c.args.tables.now c.loop-next.tables) all c.loop-next.invariant.counts
