-- Placings: one outcome, which is a tree, and below a folder an insertion.
use Rattle.std.proofs.Common.{sym, ◌∙◌, ap, inl, inr, subst}
use Rattle.std.proofs.lemmas.Option.{none-some}
use Rattle.std.specs.FinMap.{get, insert}
use Rattle.std.specs.Prelude.{◌≡◌, ◌≢◌, ◌⊎◌, ℕ, List, Some, None, codes, ◌↔◌}
use Rattle.tree_spec.proofs.Insertion.{same_tree, found_or_not, get_here, get_other}
use Rattle.tree_spec.proofs.PathsAbove.{above_or_not, above_is_path, parent_above, above_other, above_by_parent}
use Rattle.tree_spec.proofs.ByteLists.{text_same_or_not}
use Rattle.tree_spec.specs.Laws.{PlacingInRoot}
use Rattle.tree_spec.specs.Paths.{IsAbove, IsPath, IsParent, parent_of, further}
use Rattle.tree_spec.specs.Trees.{Tree, Places, IsTree}
use Rattle.tree_spec.specs.declared.Entry.{Entry}
use Rattle.tree_spec.specs.declared.Entry.TheVariants.{Directory}

one_at : (tree : Tree) (path : List ℕ) (entry : Entry) (a b : Tree) (other : List ℕ) → Places tree path entry a → Places tree path entry b
    → (other ≡ path) ⊎ (other ≢ path) → IsAbove other path ⊎ (IsAbove other path → ⊥) → (get tree other ≡ None) ⊎ ((old : Entry) × (get tree other ≡ Some old)) → get a other ≡ get b other
one_at tree path entry a b other p q (inl e) r s = ap (get a) e ∙ p.here ∙ sym (ap (get b) e ∙ q.here)
one_at tree path entry a b other p q (inr n) (inl up) s = p.above other up ∙ sym (q.above other up)
one_at tree path entry a b other p q (inr n) (inr m) (inl none) = p.no_more other n m none ∙ sym (q.no_more other n m none)
one_at tree path entry a b other p q (inr n) (inr m) (inr (old, some)) = p.stays other old n some ∙ sym (q.stays other old n some)

pub one_placing : (tree : Tree) (path : List ℕ) (entry : Entry) (a b : Tree) → IsPath path → Places tree path entry a → Places tree path entry b → a ≡ b
one_placing tree path entry a b is p q = same_tree a b (λ other. one_at tree path entry a b other p q (text_same_or_not other path) (above_or_not other path is) (found_or_not tree other))

placed_path : (tree : Tree) (path : List ℕ) (entry : Entry) (after : Tree) (other : List ℕ) (new : Entry) → IsTree tree → IsPath path → Places tree path entry after → get after other ≡ Some new
    → (other ≡ path) ⊎ (other ≢ path) → IsAbove other path ⊎ (IsAbove other path → ⊥) → (get tree other ≡ None) ⊎ ((old : Entry) × (get tree other ≡ Some old)) → IsPath other
placed_path tree path entry after other new t is p some (inl e) r s = let P : List ℕ → Type 0 = λ x. IsPath x in subst P (sym e) is
placed_path tree path entry after other new t is p some (inr n) (inl up) s = above_is_path other path up
placed_path tree path entry after other new t is p some (inr n) (inr m) (inl none) = absurd (none-some new (sym (p.no_more other n m none) ∙ some))
placed_path tree path entry after other new t is p some (inr n) (inr m) (inr (old, was)) = t.paths other old was

placed_parent : (tree : Tree) (path : List ℕ) (entry : Entry) (after : Tree) (parent other : List ℕ) (new : Entry) → IsTree tree → get tree path ≢ Some Directory → Places tree path entry after → get after other ≡ Some new
    → IsParent parent other → (other ≡ path) ⊎ (other ≢ path) → IsAbove other path ⊎ (IsAbove other path → ⊥) → (get tree other ≡ None) ⊎ ((old : Entry) × (get tree other ≡ Some old)) → get after parent ≡ Some Directory
placed_parent tree path entry after parent other new t free p some q (inl e) r s = let P : List ℕ → Type 0 = λ x. IsParent parent x in p.above parent (parent_of parent path (subst P e q))
placed_parent tree path entry after parent other new t free p some q (inr n) (inl up) s = p.above parent (parent_above parent other path q up)
placed_parent tree path entry after parent other new t free p some q (inr n) (inr m) (inl none) = absurd (none-some new (sym (p.no_more other n m none) ∙ some))
placed_parent tree path entry after parent other new t free p some q (inr n) (inr m) (inr (old, was)) =
    let up : get tree parent ≡ Some Directory = t.parents parent other old was q in
    p.stays parent Directory (λ e. free (sym (ap (get tree) e) ∙ up)) up

pub placed_tree : (tree : Tree) (path : List ℕ) (entry : Entry) (after : Tree) → IsTree tree → IsPath path → get tree path ≢ Some Directory → Places tree path entry after → IsTree after
placed_tree tree path entry after t is free p = record {
  paths = λ other new some. placed_path tree path entry after other new t is p some (text_same_or_not other path) (above_or_not other path is) (found_or_not tree other);
  root = p.stays (codes "/") Directory (λ e. free (sym (ap (get tree) e) ∙ t.root)) t.root;
  parents = λ parent other new some q. placed_parent tree path entry after parent other new t free p some q (text_same_or_not other path) (above_or_not other path is) (found_or_not tree other);
}

-- where all above a path are folders, the placing is an insertion
pub inserted_places : (tree : Tree) (path : List ℕ) (entry : Entry) → ((folder : List ℕ) → IsAbove folder path → get tree folder ≡ Some Directory) → Places tree path entry (insert tree path entry)
inserted_places tree path entry folders = record {
  here = get_here tree path entry;
  above = λ folder up. get_other tree path entry folder (above_other folder path up) ∙ folders folder up;
  stays = λ other old n was. get_other tree path entry other n ∙ was;
  no_more = λ other n m none. get_other tree path entry other n ∙ none;
}

inserted_at : (tree : Tree) (path : List ℕ) (entry : Entry) (after : Tree) (other : List ℕ) → ((folder : List ℕ) → IsAbove folder path → get tree folder ≡ Some Directory) → Places tree path entry after
    → (other ≡ path) ⊎ (other ≢ path) → (get tree other ≡ None) ⊎ ((old : Entry) × (get tree other ≡ Some old)) → get after other ≡ get (insert tree path entry) other
inserted_at tree path entry after other folders p (inl e) s = ap (get after) e ∙ p.here ∙ sym (ap (get (insert tree path entry)) e ∙ get_here tree path entry)
inserted_at tree path entry after other folders p (inr n) (inl none) = p.no_more other n (λ up. none-some Directory (sym none ∙ (folders other up))) none ∙ sym (get_other tree path entry other n ∙ none)
inserted_at tree path entry after other folders p (inr n) (inr (old, was)) = p.stays other old n was ∙ sym (get_other tree path entry other n ∙ was)

pub places_inserted : (tree : Tree) (path : List ℕ) (entry : Entry) (after : Tree) → ((folder : List ℕ) → IsAbove folder path → get tree folder ≡ Some Directory) → Places tree path entry after → after ≡ insert tree path entry
places_inserted tree path entry after folders p = same_tree after (insert tree path entry) (λ other. inserted_at tree path entry after other folders p (text_same_or_not other path) (found_or_not tree other))

-- in a tree all above a folder are folders
pub folders_above : (tree : Tree) (folder above : List ℕ) → IsTree tree → get tree folder ≡ Some Directory → IsAbove above folder → get tree above ≡ Some Directory
folders_above tree _ _ t is (parent_of above path p) = t.parents above path Directory is p
folders_above tree _ _ t is (further above parent path a p) = folders_above tree parent above t (t.parents parent path Directory is p) a

above_folder : (tree : Tree) (parent folder : List ℕ) → IsTree tree → get tree parent ≡ Some Directory → (folder ≡ parent) ⊎ IsAbove folder parent → get tree folder ≡ Some Directory
above_folder tree parent folder t is (inl e) = ap (get tree) e ∙ is
above_folder tree parent folder t is (inr a) = folders_above tree parent folder t is a

pub all_above_folder : (tree : Tree) (parent path : List ℕ) → IsTree tree → IsParent parent path → get tree parent ≡ Some Directory → (folder : List ℕ) → IsAbove folder path → get tree folder ≡ Some Directory
all_above_folder tree parent path t q is folder a = above_folder tree parent folder t is (above_by_parent folder parent path q a)

pub below_folder : (tree : Tree) (parent path : List ℕ) (entry : Entry) (after : Tree) → IsTree tree → IsParent parent path → get tree parent ≡ Some Directory → Places tree path entry after ↔ (after ≡ insert tree path entry)
below_folder tree parent path entry after t q is =
    let folders = all_above_folder tree parent path t q is in
    let P : Tree → Type 0 = λ x. Places tree path entry x in
    ((λ p. places_inserted tree path entry after folders p), (λ e. subst P (sym e) (inserted_places tree path entry folders)))

pub in_root : PlacingInRoot
in_root tree path entry after t q = below_folder tree (codes "/") path entry after t q t.root
