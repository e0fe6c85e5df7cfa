use Rattle.std.proofs.Common.{arith}
use Rattle.chain_why.specs.Askers.{asks}
use Rattle.chain_why.proofs.Finding.{begins, goes_on, goal_found, none_left}
use Rattle.chain_why.proofs.search.find.Goals as goal

pub loop-place-init : goal.loop-place-init
loop-place-init c = begins c.args.view.now c.args.roots.now c.args.path.now c.args.reached.now.keys c.requires.none

pub returns-in-Some : goal.returns-in-Some
returns-in-Some c =
    goal_found c.args.view.now c.args.roots.now c.args.path.now c.loop-place.reached.keys c.loop-place.place c.in-Some.number
    c.in-Some.slot (asks c.asker_at-asker.result) (let n = c.len.ensures.len in omega (arith, n, c.loop-place-test.true))
    c.asker_at-asker.ensures.asks c.in-Some.ensures.0 c.in-Some.ensures.1 c.loop-place.invariant

pub loop-place-preserved : goal.loop-place-preserved
loop-place-preserved c =
    goes_on c.args.view.now c.args.roots.now c.args.path.now c.loop-place.reached.keys c.expand.new.reached.keys
    c.loop-place.place (asks c.asker_at-asker.result) (let n = c.len.ensures.len in omega (arith, n, c.loop-place-test.true))
    c.asker_at-asker.ensures.asks c.in_default.ensures c.in_ok-expand.ensures c.loop-place.invariant

pub returns : goal.returns
returns c =
    none_left c.args.view.now c.args.roots.now c.args.path.now c.loop-place.reached.keys c.loop-place.place
    (let n = c.len.ensures.len in omega (arith, n, c.loop-place-test.false)) c.loop-place.invariant
