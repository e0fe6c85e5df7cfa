use Rattle.std.proofs.Common.{inl, inr, sym, subst, ◌∙◌}
use Rattle.generator_spec.specs.Ending.{Ends}
use Rattle.generator_spec.specs.Lines.{line_of}
use Rattle.session_run.specs.Sessions.{RefusedEnds}
use Rattle.session_run.proofs.sessions.refuse.Goals as goal

pub returns-in-Ok-clause-tells : goal.returns-in-Ok-clause-tells
returns-in-Ok-clause-tells g c =
    let out = g.O.Sink.state c.args.out.now in
    let gone = g.O.Sink.state c.tell.new.out in
    subst (λ why. RefusedEnds why out gone c.tell.result) (sym c.in-Refused.is)
    (inl (subst (λ status. Ends status (line_of c.in-Refused.why) out gone c.tell.result) c.status_of.ensures
    (subst (λ line. Ends c.status_of.result line out gone c.tell.result) (c.as_slice.ensures.value ∙ c.in-Ok.ensures) c.tell.ensures.ends)))

pub returns-in-Err-clause-tells : goal.returns-in-Err-clause-tells
returns-in-Err-clause-tells g c =
    let out = g.O.Sink.state c.args.out.now in
    let gone = g.O.Sink.state c.tell-in-Err.new.out in
    subst (λ why. RefusedEnds why out gone c.tell-in-Err.result) (sym c.in-Refused.is)
    (inr (subst (λ line. Ends 8 line out gone c.tell-in-Err.result) c.memory_line.ensures c.tell-in-Err.ensures.ends))

pub returns-in-ReadFault-clause-tells : goal.returns-in-ReadFault-clause-tells
returns-in-ReadFault-clause-tells g c =
    let out = g.O.Sink.state c.args.out.now in
    let gone = g.O.Sink.state c.tell-in-ReadFault.new.out in
    subst (λ why. RefusedEnds why out gone c.tell-in-ReadFault.result) (sym c.in-ReadFault.is)
    (subst (λ line. Ends 4 line out gone c.tell-in-ReadFault.result) c.read_fault_line.ensures c.tell-in-ReadFault.ensures.ends)

pub returns-in-Memory-clause-tells : goal.returns-in-Memory-clause-tells
returns-in-Memory-clause-tells g c =
    let out = g.O.Sink.state c.args.out.now in
    let gone = g.O.Sink.state c.tell-in-Memory.new.out in
    subst (λ why. RefusedEnds why out gone c.tell-in-Memory.result) (sym c.in-Memory.is)
    (subst (λ line. Ends 8 line out gone c.tell-in-Memory.result) c.memory_line-in-Memory.ensures c.tell-in-Memory.ensures.ends)
