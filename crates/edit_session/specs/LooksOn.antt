-- Calls that look, one after another.
--     LooksOn before old after new failed unfinished Among
--                                     what calls that look and do nothing else learn; of a told tree, they look at no
--                                     path but those of which this holds
--     IsSeenBy tree known over seen   the tree that is seen, where these looks are laid over what stands behind
use Rattle.std.specs.Prelude.{◌≡◌, ℕ, List, Some}
use Rattle.tree_spec.specs.States.{FolderState, OnlyLooks}
use Rattle.tree_spec.specs.Trees.{Tree, IsTree}
use Rattle.package_lookup.specs.declared.known.Known.{Known}
use Rattle.package_lookup.specs.declared.over.Over.{Over}
use Rattle.package_lookup.specs.LaidTrees.{StandsBehind, IsLaid}
use Rattle.edit_session.specs.NewLooks.{KeepsLooks, AsksNew}

pub record LooksOn (before : FolderState) (old : Known) (after : FolderState) (new : Known)
    (failed unfinished : Type 0) (Among : Tree → List ℕ → Type 0) : Type 0 where
  pub laid : new.laid ≡ old.laid
  pub kept : KeepsLooks old new
  pub behind : (tree : Tree) → before.holds ≡ Some tree → StandsBehind tree old → StandsBehind tree new
  pub asked :
      (list : List (List ℕ)) → before.asked ≡ Some list
      → AsksNew list old after new unfinished (λ path. (tree : Tree) → before.holds ≡ Some tree → Among tree path)
  pub looks : OnlyLooks before after failed

pub record IsSeenBy (tree : Tree) (known : Known) (over : Over) (seen : Tree) : Type 0 where
  pub stands : StandsBehind tree known
  pub laid : IsLaid tree over seen
  pub is_tree : IsTree seen
