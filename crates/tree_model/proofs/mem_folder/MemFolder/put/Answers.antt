use Rattle.tree_spec.proofs.DecidedTrees.{known_tree}
use Rattle.tree_model.proofs.mem_folder.MemFolder.put.Goals as goal

pub put_new-requires : goal.put_new-requires
put_new-requires c = known_tree _ c.args.self.now.tree
