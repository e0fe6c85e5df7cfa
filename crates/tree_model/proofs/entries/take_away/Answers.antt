use Rattle.tree_model.proofs.EntriesLemmas.{tree_remove}
use Rattle.tree_model.proofs.entries.take_away.Goals as goal

pub returns : goal.returns
returns c = tree_remove c.args.entries.now c.remove.new.self c.args.path.now c.remove.ensures.updates
