use Rattle.std.proofs.Common.{◌∙◌}
use Rattle.edit_session.proofs.StandingLemmas.{stands}
use Rattle.edit_session.proofs.standing.standing_of.Goals as goal

pub returns : goal.returns
returns g c =
    rw c.standing_by.ensures
    (stands (g.F.Folder.state c.args.folder.now) (g.F.Folder.state c.hold-held.new.folder) c.args.known.now c.lay.new.self c.hold-held.new.self
    c.lay-2.new.self c.args.over.now c.lay-2.new.over c.args.path.now c.hold-held.result c.lay.ensures.laid c.lay.ensures.kept
    c.lay-2.ensures.kept (c.lay-2.ensures.laid ∙ c.lay.ensures.over) c.lay-2.ensures.over c.as_str-is_path.ensures.is_path
    c.hold-held.ensures)
