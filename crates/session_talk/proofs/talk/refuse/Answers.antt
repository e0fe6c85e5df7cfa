use Rattle.std.proofs.Common.{inl, subst, ◌∙◌}
use Rattle.generator_spec.specs.Ending.{Ends}
use Rattle.session_talk.proofs.talk.refuse.Goals as goal

pub returns-in-Ok-clause-tells : goal.returns-in-Ok-clause-tells
returns-in-Ok-clause-tells g c =
    inl (subst (λ line. Ends 7 line (g.O.Sink.state c.args.out.now) (g.O.Sink.state c.tell.new.out) c.tell.result)
    (c.as_slice.ensures.value ∙ c.in-Ok.ensures) c.tell.ensures.ends)
