use Rattle.tree_model.proofs.FolderLemmas.{is_written}
use Rattle.tree_model.proofs.mem_folder.MemFolderFolder.TheImpl.Goals as goal

pub write-tells : goal.write-tells
write-tells c = record {
  written = is_written c.result c.args.self.now c.new.self.now c.args.path.now c.args.bytes.now c.ensures;
}
