use Rattle.session_run.proofs.EditLemmas.{shows_view}
use Rattle.session_run.proofs.session_editor.SessionEditorEditor.map.Goals as goal

pub returns : goal.returns
returns g c = record {
  shows = λ view is. shows_view (g.F.Folder.state c.args.self.now.folder.now) c.args.self.now.session.now (g.W.Watch.seen c.args.self.now.watch.now) c.args.self.now.steps.now c.map.result.now view c.map.ensures is;
}
