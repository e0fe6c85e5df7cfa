use Rattle.generator_core.proofs.Checkings.{text_unasked}
use Rattle.generator_core.proofs.checking.map_text.Goals as goal

pub returns-in-Err : goal.returns-in-Err
returns-in-Err g c = text_unasked (g.F.Folder.state c.args.folder.now)
