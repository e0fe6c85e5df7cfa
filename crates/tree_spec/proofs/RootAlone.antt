-- The root alone is a tree.
use Rattle.std.proofs.Common.{sym, ◌∙◌, inl, inr, subst, arith, lit≤}
use Rattle.std.specs.Cmp.Lexicographic.{slice_cmp}
use Rattle.std.specs.FinMap.{get, empty, get-empty}
use Rattle.std.specs.Ordering.{nat_cmp}
use Rattle.std.specs.Prelude.{◌≡◌, ◌≢◌, ◌⊎◌, ℕ, List, codes, Some, None, ◌≤◌, length}
use Rattle.tree_spec.proofs.Insertion.{get_other, get_here}
use Rattle.tree_spec.proofs.PathsAbove.{nothing_above_root}
use Rattle.tree_spec.proofs.ByteLists.{text_same_or_not}
use Rattle.tree_spec.specs.Paths.{IsParent, parent_of, root, IsPath}
use Rattle.tree_spec.specs.Trees.{bare_tree, IsTree, Tree}
use Rattle.tree_spec.specs.declared.Entry.{Entry}
use Rattle.tree_spec.specs.declared.Entry.TheVariants.{Directory}

root_only : (path : List ℕ) (entry : Entry) → (path ≡ codes "/") ⊎ (path ≢ codes "/") → get (bare_tree) path ≡ Some entry → path ≡ codes "/"
root_only path entry (inl e) some = e
root_only path entry (inr n) some = let wrong : None ≡ Some entry = sym (get_other empty (codes "/") Directory path n ∙ get-empty (slice_cmp nat_cmp) path) ∙ some in cc

no_parent : (parent path : List ℕ) → IsParent parent path → path ≡ codes "/" → ⊥
no_parent parent path p e = nothing_above_root parent path e (parent_of parent path p)

pub root_is_path : (path : List ℕ) → path ≡ codes "/" → IsPath path
root_is_path path e = let P : List ℕ → Type 0 = λ x. length x ≤ 1024 in record { depth = 0; segments = root path e; few = omega arith; short = subst P (sym e) (lit≤ tt) }

root_alone : IsTree (bare_tree)
root_alone = record {
  paths = λ path entry some. root_is_path path (root_only path entry (text_same_or_not path (codes "/")) some);
  root = get_here empty (codes "/") Directory;
  parents = λ parent path entry some p. absurd (no_parent parent path p (root_only path entry (text_same_or_not path (codes "/")) some));
}

pub root_tree : (tree : Tree) → tree ≡ bare_tree → IsTree tree
root_tree tree e = let P : Tree → Type 0 = λ x. IsTree x in subst P (sym e) root_alone
