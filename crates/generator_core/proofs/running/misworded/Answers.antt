use Rattle.std.proofs.Common.{subst, sym}
use Rattle.generator_core.specs.Writing.{TellsWords, TellsNoMeaning as tells}
use Rattle.generator_core.proofs.running.misworded.Goals as goal

pub returns-in-Told-clause-tells : goal.returns-in-Told-clause-tells
returns-in-Told-clause-tells g c = subst (λ fault. TellsWords fault (g.O.Sink.state c.args.out.now) (g.O.Sink.state c.tell.new.out) c.tell.result) (sym c.in-Told.is) (tells.text c.as_bytes.result.now c.tell.ensures.ends)

pub returns-in-NotPlain-clause-tells : goal.returns-in-NotPlain-clause-tells
returns-in-NotPlain-clause-tells g c = subst (λ fault. TellsWords fault (g.O.Sink.state c.args.out.now) (g.O.Sink.state c.tell-in-NotPlain.new.out) c.tell-in-NotPlain.result) (sym c.in-NotPlain.is) (tells.text c.not_plain_line.result.now c.tell-in-NotPlain.ensures.ends)
