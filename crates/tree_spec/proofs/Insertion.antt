-- Insertion into a tree, as a map.
use Rattle.std.proofs.Common.{◌∙◌, ap, inl, inr}
use Rattle.std.proofs.lemmas.Map.Text.{is_eq-slice_cmp}
use Rattle.std.proofs.lemmas.Slice.Eq.{bytes_eq-Decides}
use Rattle.std.specs.Bool.{Decides}
use Rattle.std.specs.Cmp.Lexicographic.{nat_list_cmp_total}
use Rattle.std.specs.FinMap.{get, insert, get-insert, same_map, nat_cmp-IsAntisymmetric, slice_cmp-IsAntisymmetric}
use Rattle.std.specs.Prelude.{◌≡◌, ℕ, cond, List, bytes_eq, Some, Bool, true, false, Option, refl, ◌≢◌, ◌⊎◌, None}
use Rattle.tree_spec.specs.Trees.{Tree}
use Rattle.tree_spec.specs.declared.Entry.{Entry}

pub get_inserted : (tree : Tree) (path : List ℕ) (entry : Entry) (other : List ℕ) → get (insert tree path entry) other ≡ cond (bytes_eq other path) (Some entry) (get tree other)
get_inserted tree path entry other = get-insert nat_list_cmp_total tree path entry other ∙ ap (λ b. cond b (Some entry) (get tree other)) (is_eq-slice_cmp other path)

cond_at : (b : Bool) (xs ys : List ℕ) (here there : Option Entry) → Decides b (xs ≡ ys) → xs ≡ ys → cond b here there ≡ here
cond_at true xs ys here there d e = refl
cond_at false xs ys here there d e = let wrong : false ≡ true = d.1 e in cc

cond_off : (b : Bool) (xs ys : List ℕ) (here there : Option Entry) → Decides b (xs ≡ ys) → xs ≢ ys → cond b here there ≡ there
cond_off true xs ys here there d n = absurd (n (d.0 refl))
cond_off false xs ys here there d n = refl

pub get_here : (tree : Tree) (path : List ℕ) (entry : Entry) → get (insert tree path entry) path ≡ Some entry
get_here tree path entry = get_inserted tree path entry path ∙ cond_at (bytes_eq path path) path path (Some entry) (get tree path) (bytes_eq-Decides path path) refl

pub get_other : (tree : Tree) (path : List ℕ) (entry : Entry) (other : List ℕ) → other ≢ path → get (insert tree path entry) other ≡ get tree other
get_other tree path entry other n = get_inserted tree path entry other ∙ cond_off (bytes_eq other path) other path (Some entry) (get tree other) (bytes_eq-Decides other path) n

pub same_tree : (a b : Tree) → ((path : List ℕ) → get a path ≡ get b path) → a ≡ b
same_tree a b is = same_map nat_list_cmp_total (slice_cmp-IsAntisymmetric nat_cmp-IsAntisymmetric) a b is

-- ---- placings

found_by : (found : Option Entry) → (found ≡ None) ⊎ ((entry : Entry) × (found ≡ Some entry))
found_by None = inl refl
found_by (Some entry) = inr (entry, refl)

pub found_or_not : (tree : Tree) (path : List ℕ) → (get tree path ≡ None) ⊎ ((entry : Entry) × (get tree path ≡ Some entry))
found_or_not tree path = found_by (get tree path)
