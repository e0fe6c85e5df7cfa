use Rattle.std.specs.Prelude.{[], ◌∷◌}
use Rattle.session_run.proofs.session_editor.SessionEditorEditor.edit.Goals as goal

pub returns-clause-asks : goal.returns-clause-asks
returns-clause-asks g c =
    c.make_edit.ensures.asks
    (c.args.self.now.session.ghost_name ∷ c.args.self.now.folder.ghost_name ∷ c.args.self.now.watch.ghost_name ∷ c.args.self.now.steps.ghost_name ∷ [])
