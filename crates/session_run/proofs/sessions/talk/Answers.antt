use Rattle.std.proofs.Common.{◌≡◌, rules, ap, subst}
use Rattle.generator_spec.specs.Ending.{Ends}
use Rattle.session_talk.proofs.AskLemmas.{keeps_same, some_of_keeping}
use Rattle.session_run.specs.Editing.{look_state}
use Rattle.session_run.proofs.TalkLemmas.{first_name, second_name, third_name, fourth_name, talks_from, asks_from, wants_reader}
use Rattle.session_run.proofs.sessions.talk.Goals as goal

pub returns-in-Ok-clause-talks : goal.returns-in-Ok-clause-talks
returns-in-Ok-clause-talks g c before is =
    let names = c.converse.ensures.asks.references in
    let session_named : c.converse.new.editor.session.ghost_name ≡ _ = first_name names in
    let folder_named : c.converse.new.editor.folder.ghost_name ≡ _ = second_name names in
    let watch_named : c.converse.new.editor.watch.ghost_name ≡ _ = third_name names in
    let steps_named : c.converse.new.editor.steps.ghost_name ≡ _ = fourth_name names in
    talks_from before _ _ _ _ _ c.in-Ok.reader c.in-Ok.ensures
    (g.F.Folder.state c.converse.new.editor.folder.now) _ (ap g.F.Folder.state (search rules))
    c.converse.new.editor.session.now _ (search rules)
    (g.W.Watch.seen c.converse.new.editor.watch.now) _ (ap g.W.Watch.seen (search rules))
    c.converse.new.editor.steps.now _ (search rules)
    (c.converse.ensures.converses before is)

pub returns-in-Ok-clause-asks : goal.returns-in-Ok-clause-asks
returns-in-Ok-clause-asks g c references =
    let names = c.converse.ensures.asks.references in
    let session_named : c.converse.new.editor.session.ghost_name ≡ _ = first_name names in
    let folder_named : c.converse.new.editor.folder.ghost_name ≡ _ = second_name names in
    asks_from references (g.F.Folder.state c.args.folder.now) (g.F.Folder.state c.converse.new.editor.folder.now) _
    c.args.session.now c.converse.new.editor.session.now _
    _ _ (ap g.F.Folder.state (search rules)) (search rules) c.converse.ensures.asks

pub returns-in-Err-clause-talks : goal.returns-in-Err-clause-talks
returns-in-Err-clause-talks g c before is = record {
  at = before;
  is = is;
  holds = wants_reader before (g.I.Source.state c.args.input.now) (g.O.Sink.state c.args.out.now) (g.O.Sink.state c.tell.new.out) c.tell.result
      (subst (λ line. Ends 8 line (g.O.Sink.state c.args.out.now) (g.O.Sink.state c.tell.new.out) c.tell.result) c.memory_line.ensures c.tell.ensures.ends);
}

pub returns-in-Err-clause-asks : goal.returns-in-Err-clause-asks
returns-in-Err-clause-asks g c references =
    let here = look_state references (g.F.Folder.state c.args.folder.now) c.args.session.now in
    record { asks = some_of_keeping here here (keeps_same here) }
