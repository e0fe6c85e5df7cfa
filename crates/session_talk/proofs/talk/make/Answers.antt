use Rattle.std.proofs.Common.{Err, subst}
use Rattle.generator_spec.specs.Ending.{Ends}
use Rattle.session_talk.specs.Editors.{Edits}
use Rattle.session_talk.specs.Talking.{GivesReply}
use Rattle.session_talk.proofs.AskLemmas.{turn_keeping}
use Rattle.session_talk.proofs.ReplyLemmas.{seen_by, makes_replied, makes_fault, makes_nothing}
use Rattle.session_talk.proofs.talk.make.Goals as goal

pub returns-in-Ok-clause-makes : goal.returns-in-Ok-clause-makes
returns-in-Ok-clause-makes g c before is =
    let edit = c.args.edit.now in
    let out = g.O.Sink.state c.args.out.now in
    let gone = g.O.Sink.state c.give.new.out in
    seen_by (c.in-Ok.ensures.edits before is) (λ after edits. makes_replied before edit out after gone edits.showings edits.sees c.in-Ok.line c.give.result edits.comes edits.looks edits.steps
    (subst (λ line. GivesReply line out gone c.give.result) c.as_slice.ensures c.give.ensures.gives))

pub returns-in-Ok-clause-asks : goal.returns-in-Ok-clause-asks
returns-in-Ok-clause-asks g c = turn_keeping c.give.result (g.E.Editor.looks c.args.editor.now) (g.E.Editor.looks c.edit.new.self) c.in-Ok.ensures.asks

pub returns-in-Err-ReadFault-clause-makes : goal.returns-in-Err-ReadFault-clause-makes
returns-in-Err-ReadFault-clause-makes g c before is =
    let edit = c.args.edit.now in
    let out = g.O.Sink.state c.args.out.now in
    let gone = g.O.Sink.state c.tell.new.out in
    seen_by (c.in-Err-ReadFault.ensures.edits before is) (λ after edits.
    let comes = subst (λ fault. Edits before edit (Err fault) after) c.in-Err-ReadFault.field-0-is edits in
    makes_fault before edit out after gone comes.showings comes.sees c.tell.result comes.comes comes.looks comes.steps
    (subst (λ line. Ends 4 line out gone c.tell.result) c.read_fault_line.ensures c.tell.ensures.ends))

pub returns-in-Err-Memory-clause-makes : goal.returns-in-Err-Memory-clause-makes
returns-in-Err-Memory-clause-makes g c before is =
    let edit = c.args.edit.now in
    let out = g.O.Sink.state c.args.out.now in
    let gone = g.O.Sink.state c.tell-in-Err-Memory.new.out in
    seen_by (c.in-Err-Memory.ensures.edits before is) (λ after edits.
    let comes = subst (λ fault. Edits before edit (Err fault) after) c.in-Err-Memory.field-0-is edits in
    makes_nothing before edit out after gone comes.showings comes.sees c.tell-in-Err-Memory.result comes.comes comes.looks comes.steps
    (subst (λ line. Ends 8 line out gone c.tell-in-Err-Memory.result) c.memory_line.ensures c.tell-in-Err-Memory.ensures.ends))
