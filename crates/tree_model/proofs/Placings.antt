-- Placings that are made from the entry upwards.
use Rattle.std.specs.Prelude.{◌≡◌, ◌≢◌, ◌⊎◌, ℕ, Bool, true, false, cond, List, codes, bytes_eq, Some, None, Result, Ok, Err, refl}
use Rattle.std.specs.Bool.{Decides}
use Rattle.std.specs.Cmp.Lexicographic.{nat_list_cmp_total}
use Rattle.std.specs.FinMap.{get, insert, remove, get-remove}
use Rattle.std.proofs.Common.{sym, ◌∙◌, ap, subst, inl, inr}
use Rattle.std.proofs.lemmas.Map.Text.{is_eq-slice_cmp}
use Rattle.std.proofs.lemmas.Slice.Eq.{bytes_eq-Decides}
use Rattle.tree_spec.specs.declared.Entry.{Entry}
use Rattle.tree_spec.specs.declared.Entry.TheVariants.{Stored, Directory}
use Rattle.std.specs.declared.alloc.AllocError.{AllocError}
use Rattle.tree_spec.specs.Paths.{IsPath, IsParent, IsAbove, parent_of, further}
use Rattle.tree_spec.proofs.PathParts.{front_of, not_root}
use Rattle.tree_spec.specs.Trees.{Tree, IsTree, Places}
use Rattle.tree_spec.proofs.Insertion.{get_inserted, get_here, get_other, same_tree}
use Rattle.tree_spec.proofs.PathsAbove.{above_other, above_by_parent, parent_above}
use Rattle.tree_spec.proofs.Placings.{inserted_places, folders_above, placed_tree}
use Rattle.tree_model.specs.Entries.{IsSettled, IsBelowFile, IsBarred, IsPlaced}

pub settled_tree : (tree : Tree) (path : List ℕ) → IsTree tree → IsSettled tree path
settled_tree tree path t = record { root = t.root; parents = λ parent above entry up some q. t.parents parent above entry some q }

folders_up : (tree : Tree) (path folder above : List ℕ) → IsSettled tree path → IsAbove folder path → get tree folder ≡ Some Directory → IsAbove above folder → get tree above ≡ Some Directory
folders_up tree path _ _ s up is (parent_of above folder p) = s.parents above folder Directory up is p
folders_up tree path _ _ s up is (further above parent folder a p) = folders_up tree path parent above s (parent_above parent folder path p up) (s.parents parent folder Directory up is p) a

settled_by : (tree : Tree) (path parent folder : List ℕ) → IsSettled tree path → IsParent parent path → get tree parent ≡ Some Directory → (folder ≡ parent) ⊎ IsAbove folder parent → get tree folder ≡ Some Directory
settled_by tree path parent folder s q is (inl e) = ap (get tree) e ∙ is
settled_by tree path parent folder s q is (inr a) = folders_up tree path parent folder s (parent_of parent path q) is a

-- in a folder that is there
pub placed_in_folder : (tree after : Tree) (path parent : List ℕ) (entry : Entry) → IsSettled tree path → IsParent parent path → get tree parent ≡ Some Directory → after ≡ insert tree path entry → Places tree path entry after
placed_in_folder tree after path parent entry s q is e =
    let P : Tree → Type 0 = λ x. Places tree path entry x in
    subst P (sym e) (inserted_places tree path entry (λ folder a. settled_by tree path parent folder s q is (above_by_parent folder parent path q a)))

root_other : (parent path : List ℕ) → IsParent parent path → codes "/" ≢ path
root_other parent path p e = let has = front_of parent p.name in not_root path has.front p.name (p.text ∙ has.text_is) p.segment (sym e)

-- the state in which a missing parent is placed
pub settled_up : (tree after : Tree) (path parent : List ℕ) (entry : Entry) → IsSettled tree path → IsParent parent path → after ≡ insert tree path entry → IsSettled after parent
settled_up tree after path parent entry s q e =
    let P : Tree → Type 0 = λ x. IsSettled x parent in
    subst P (sym e) (record {
      root = get_other tree path entry (codes "/") (root_other parent path q) ∙ s.root;
      parents = λ higher above old up some p.
          let far : IsAbove above path = further above parent path up q in
          let here : get tree above ≡ Some old = sym (get_other tree path entry above (above_other above path far)) ∙ some in
          get_other tree path entry higher (above_other higher path (parent_above higher above path p far)) ∙ s.parents higher above old far here p;
    })

pub absent_up : (tree after : Tree) (path parent : List ℕ) (entry : Entry) → IsParent parent path → get tree parent ≡ None → after ≡ insert tree path entry → get after parent ≡ None
absent_up tree after path parent entry q none e = ap (λ x. get x parent) e ∙ get_other tree path entry parent (above_other parent path (parent_of parent path q)) ∙ none

up_or_at : (placed : Tree) (path parent folder : List ℕ) → get placed parent ≡ Some Directory → ((above : List ℕ) → IsAbove above parent → get placed above ≡ Some Directory) → (folder ≡ parent) ⊎ IsAbove folder parent → get placed folder ≡ Some Directory
up_or_at placed path parent folder here above (inl e) = ap (get placed) e ∙ here
up_or_at placed path parent folder here above (inr a) = above folder a

pub placed_up : (tree after placed : Tree) (path parent : List ℕ) (entry : Entry) → IsParent parent path → get tree parent ≡ None → after ≡ insert tree path entry → Places after parent Directory placed → Places tree path entry placed
placed_up tree after placed path parent entry q none e p =
    let apart : parent ≢ path = above_other parent path (parent_of parent path q) in
    record {
      here = p.stays path entry (λ same. apart (sym same)) (ap (λ x. get x path) e ∙ get_here tree path entry);
      above = λ folder a. up_or_at placed path parent folder p.here p.above (above_by_parent folder parent path q a);
      stays = λ other old n was. p.stays other old (λ same. let gone : None ≡ Some old = sym none ∙ sym (ap (get tree) same) ∙ was in cc) (ap (λ x. get x other) e ∙ get_other tree path entry other n ∙ was);
      no_more = λ other n m was.
          let P : List ℕ → Type 0 = λ x. IsAbove x path in
          p.no_more other (λ same. m (subst P (sym same) (parent_of parent path q))) (λ a. m (further other parent path a q)) (ap (λ x. get x other) e ∙ get_other tree path entry other n ∙ was);
    }

pub below_file_up : (tree after : Tree) (path parent : List ℕ) (entry : Entry) → IsParent parent path → after ≡ insert tree path entry → IsBelowFile after parent → IsBelowFile tree path
below_file_up tree after path parent entry q e f =
    let far : IsAbove f.file path = further f.file parent path f.above q in
    record { file = f.file; bytes = f.bytes; above = far; stored = sym (get_other tree path entry f.file (above_other f.file path far)) ∙ sym (ap (λ x. get x f.file) e) ∙ f.stored }

undone_by : (b : Bool) (tree : Tree) (path other : List ℕ) (entry : Entry) → Decides b (other ≡ path) → get tree path ≡ None → cond b None (cond b (Some entry) (get tree other)) ≡ get tree other
undone_by true tree path other entry d none = sym (ap (get tree) (d.0 refl) ∙ none)
undone_by false tree path other entry d none = refl

pub undone : (tree : Tree) (path : List ℕ) (entry : Entry) → get tree path ≡ None → remove (insert tree path entry) path ≡ tree
undone tree path entry none = same_tree _ _ (λ other.
    get-remove nat_list_cmp_total (insert tree path entry) path other ∙ ap (λ b. cond b None (get (insert tree path entry) other)) (is_eq-slice_cmp other path)
    ∙ ap (cond (bytes_eq other path) None) (get_inserted tree path entry other) ∙ undone_by (bytes_eq other path) tree path other entry (bytes_eq-Decides other path) none)

above_file : (tree : Tree) (path folder bytes : List ℕ) → IsTree tree → get tree path ≡ Some (Stored bytes) → IsAbove folder path → get tree folder ≡ Some Directory
above_file tree _ _ bytes t is (parent_of above path p) = t.parents above path (Stored bytes) is p
above_file tree _ _ bytes t is (further above parent path a p) = folders_above tree parent above t (t.parents parent path (Stored bytes) is p) a

-- over a file of a tree
pub placed_over : (tree after : Tree) (path : List ℕ) (bytes : List ℕ) (entry : Entry) → IsTree tree → get tree path ≡ Some (Stored bytes) → after ≡ insert tree path entry → Places tree path entry after
placed_over tree after path bytes entry t is e =
    let P : Tree → Type 0 = λ x. Places tree path entry x in
    subst P (sym e) (inserted_places tree path entry (λ folder a. above_file tree path folder bytes t is a))

-- an entry that was put is taken away again
pub taken_back : (tree after between last : Tree) (path : List ℕ) (entry : Entry) → get tree path ≡ None → after ≡ insert tree path entry → between ≡ after → last ≡ remove between path → last ≡ tree
taken_back tree after between last path entry none e f g = g ∙ ap (λ x. remove x path) (f ∙ e) ∙ undone tree path entry none

kept_by : (result : Result Bool AllocError) (tree after : Tree) (path : List ℕ) (entry : Entry) → IsTree tree → IsPath path → get tree path ≢ Some Directory
    → IsPlaced tree path entry result after → IsTree after
kept_by (Ok true) tree after path entry t is free p = placed_tree tree path entry after t is free (p.placed refl)
kept_by (Ok false) tree after path entry t is free p = let P : Tree → Type 0 = λ x. IsTree x in subst P (sym (p.same (λ ok. cc))) t
kept_by (Err fault) tree after path entry t is free p = let P : Tree → Type 0 = λ x. IsTree x in subst P (sym (p.same (λ ok. cc))) t

-- what a placing, or none, leaves of a tree
pub kept_tree : (result : Result Bool AllocError) (tree after : Tree) (path : List ℕ) (entry : Entry) → IsTree tree → IsPath path → None ≡ get tree path
    → IsPlaced tree path entry result after → IsTree after
kept_tree result tree after path entry t is none p = kept_by result tree after path entry t is (λ some. let wrong : None ≡ Some Directory = none ∙ some in cc) p

pub over_tree : (tree after : Tree) (path bytes : List ℕ) (old entry : Entry) → IsTree tree → IsPath path → Some old ≡ get tree path → old ≡ Stored bytes → after ≡ insert tree path entry → IsTree after
over_tree tree after path bytes old entry t is was e f =
    let some : get tree path ≡ Some (Stored bytes) = sym was ∙ ap (λ x. Some x) e in
    placed_tree tree path entry after t is (λ found. let wrong : Some (Stored bytes) ≡ Some Directory = sym some ∙ found in cc) (placed_over tree after path bytes entry t some f)

pub over_free : (tree : Tree) (path bytes : List ℕ) (old : Entry) → IsTree tree → Some old ≡ get tree path → old ≡ Stored bytes → IsBarred tree path → ⊥
over_free tree path bytes old t was e (inl found) = let wrong : Some (Stored bytes) ≡ Some Directory = sym (ap (λ x. Some x) e) ∙ was ∙ found in cc
over_free tree path bytes old t was e (inr f) =
    let some : get tree path ≡ Some (Stored bytes) = sym was ∙ ap (λ x. Some x) e in
    let up : get tree f.file ≡ Some Directory = above_file tree path f.file bytes t some f.above in
    let stored : get tree f.file ≡ Some (Stored f.bytes) = f.stored in
    cc
