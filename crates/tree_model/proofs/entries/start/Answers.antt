use Rattle.std.proofs.Common.{ap, ◌∙◌, List, ℕ, codes}
use Rattle.std.specs.FinMap.{insert, from_entries}
use Rattle.tree_spec.specs.declared.Entry.{Entry}
use Rattle.tree_spec.specs.declared.Entry.TheVariants.{Directory}
use Rattle.tree_spec.proofs.RootAlone.{root_tree}
use Rattle.tree_model.specs.Entries.{tree_of}
use Rattle.tree_model.proofs.EntriesLemmas.{tree_insert}
use Rattle.tree_model.proofs.entries.start.Goals as goal

pub returns-clause-tree : goal.returns-clause-tree
returns-clause-tree c =
    root_tree (tree_of c.insert.new.self)
    (tree_insert c.new-entries.result c.insert.new.self c.in_ok-root.field-0 Directory c.in_ok-insert.ensures.updates
    ∙ ap (λ key. insert (tree_of c.new-entries.result) key Directory) c.in_ok-root.ensures
    ∙ ap (λ (entries : List (List ℕ × Entry)). insert (from_entries entries) (codes "/") Directory) c.new-entries.ensures.empty)

pub returns-clause-root : goal.returns-clause-root
returns-clause-root c =
    tree_insert c.new-entries.result c.insert.new.self c.in_ok-root.field-0 Directory c.in_ok-insert.ensures.updates
    ∙ ap (λ key. insert (tree_of c.new-entries.result) key Directory) c.in_ok-root.ensures
    ∙ ap (λ (entries : List (List ℕ × Entry)). insert (from_entries entries) (codes "/") Directory) c.new-entries.ensures.empty
