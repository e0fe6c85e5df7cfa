use Rattle.tree_model.specs.Entries.{tree_of}
use Rattle.tree_model.proofs.Placings.{kept_tree}
use Rattle.tree_model.proofs.entries.put_new.Goals as goal

pub returns-in-None-clause-tree : goal.returns-in-None-clause-tree
returns-in-None-clause-tree c =
    kept_tree c.place.result (tree_of c.args.entries.now) (tree_of c.place.new.entries) c.args.path.now c.args.entry c.requires c.place.ensures.is_path c.in-None.ensures c.place.ensures.placed
