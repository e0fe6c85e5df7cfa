use Rattle.workload.proofs.Puttings.{sure_write}
use Rattle.workload.proofs.sure_folder.SureFolderFolder.write.Goals as goal

pub returns : goal.returns
returns c = record { written = sure_write c.args.self.now.folder c.write.new.self c.args.path.now c.args.bytes.now c.write.result c.write.ensures }
