use Rattle.std.proofs.Common.{ap, ◌∙◌}
use Rattle.std.specs.FinMap.{insert}
use Rattle.tree_model.specs.Entries.{tree_of}
use Rattle.tree_model.proofs.EntriesLemmas.{tree_insert}
use Rattle.tree_model.proofs.entries.put_at.Goals as goal

pub returns-clause-put : goal.returns-clause-put
returns-clause-put c =
    tree_insert c.args.entries.now c.insert.new.self c.in_ok-key.key c.args.entry c.in_ok-insert.ensures.updates
    ∙ ap (λ key. insert (tree_of c.args.entries.now) key c.args.entry) c.in_ok-key.ensures.same
