use Rattle.std.proofs.Common.{sym, ◌∙◌}
use Rattle.tree_model.proofs.EntriesLemmas.{tree_get}
use Rattle.tree_model.proofs.entries.entry_at.Goals as goal

pub returns : goal.returns
returns c = c.get.ensures.value ∙ sym (tree_get c.args.entries.now c.args.path.now)
