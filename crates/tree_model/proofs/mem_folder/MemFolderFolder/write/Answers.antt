use Rattle.tree_spec.proofs.DecidedTrees.{known_tree}
use Rattle.tree_model.proofs.mem_folder.MemFolderFolder.write.Goals as goal

pub put_file-requires : goal.put_file-requires
put_file-requires c = known_tree _ c.args.self.now.tree
