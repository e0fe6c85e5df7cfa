use Rattle.session_watch.proofs.Copying.{next_shown, live_then}
use Rattle.session_watch.proofs.shown_module.showing.Goals as goal

pub loop-slot-preserved : goal.loop-slot-preserved
loop-slot-preserved c =
    let graph = c.args.view.now in
    let is = c.in-Some.ensures.cases.0 in (
      next_shown graph c.loop-slot.modules c.push.new.self c.in-Some.slot.now c.in-Some.more.now c.loop-slot.rest.now c.args.slots.now is _
          c.in_ok-shown_under.ensures c.in_ok-push.ensures c.loop-slot.invariant.0,
      live_then graph c.loop-slot.modules c.push.new.self c.in-Some.slot.now c.in-Some.more.now c.loop-slot.rest.now c.args.slots.now is c.loop-slot.invariant.1,
    )
