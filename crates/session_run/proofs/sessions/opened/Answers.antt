use Rattle.std.proofs.Common.{refl, subst}
use Rattle.generator_spec.specs.Ending.{Ends}
use Rattle.session_run.specs.Sessions.{unshown, shown}
use Rattle.session_run.proofs.EditLemmas.{watch_live, watch_shown}
use Rattle.session_run.proofs.sessions.opened.Goals as goal

pub shown-requires : goal.shown-requires
shown-requires g c = record { live = watch_live c.args.session c.slots.result.now c.slots.ensures.slots _ c.view.ensures.graph c.slots.ensures.live }

pub returns-in-Err-clause-ends : goal.returns-in-Err-clause-ends
returns-in-Err-clause-ends g c =
    unshown refl refl c.in-Err.ensures.stays refl
    (subst (λ line. Ends 8 line (g.O.Sink.state c.args.out.now) (g.O.Sink.state c.tell.new.out) c.tell.result) c.memory_line.ensures c.tell.ensures.ends)

pub returns-in-Ok-clause-ends : goal.returns-in-Ok-clause-ends
returns-in-Ok-clause-ends g c =
    shown (g.W.Watch.seen c.shown.new.self) (watch_shown c.args.session c.slots.result.now c.slots.ensures.slots _ c.view.ensures.graph _ _ c.in-Ok.ensures.sees) c.shown-in-Ok.ensures.ends
