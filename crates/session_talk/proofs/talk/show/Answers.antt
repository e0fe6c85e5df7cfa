use Rattle.std.proofs.Common.{subst, ◌∙◌}
use Rattle.generator_spec.specs.Ending.{Ends}
use Rattle.session_talk.specs.Talking.{GivesReply}
use Rattle.session_talk.proofs.ReplyLemmas.{shows_both, shows_part, shows_nothing}
use Rattle.session_talk.proofs.talk.show.Goals as goal

pub returns-in-Err-clause-shows : goal.returns-in-Err-clause-shows
returns-in-Err-clause-shows g c state is =
    shows_nothing state (g.O.Sink.state c.args.out.now) (g.O.Sink.state c.tell.new.out) c.tell.result
    (subst (λ line. Ends 8 line (g.O.Sink.state c.args.out.now) (g.O.Sink.state c.tell.new.out) c.tell.result) c.memory_line.ensures c.tell.ensures.ends)

pub returns-in-Some-clause-shows : goal.returns-in-Some-clause-shows
returns-in-Some-clause-shows g c state is =
    shows_part state (g.O.Sink.state c.args.out.now) (g.O.Sink.state c.args.out.now) (g.O.Sink.state c.give.new.out)
    c.map-map.result.now c.as_slice.result.now (c.map-map.ensures.shows state is) (c.as_slice.ensures.value ∙ c.in-Ok.ensures) c.in-Some.status
    (subst (λ result. GivesReply c.as_slice.result.now (g.O.Sink.state c.args.out.now) (g.O.Sink.state c.give.new.out) result) c.in-Some.is c.give.ensures.gives)

pub returns-clause-shows : goal.returns-clause-shows
returns-clause-shows g c state is =
    shows_both state (g.O.Sink.state c.args.out.now) (g.O.Sink.state c.give.new.out) (g.O.Sink.state c.give-in-None.new.out)
    c.map-map.result.now c.as_slice.result.now (c.map-map.ensures.shows state is) (c.as_slice.ensures.value ∙ c.in-Ok.ensures) c.give-in-None.result
    c.in-None.ensures.gives c.give-in-None.ensures.gives
