-- What stands above a path.
use Rattle.tree_spec.proofs.ByteLists.{text_same_or_not}
use Rattle.std.proofs.Common.{arith, ap, length-append, ◌∙◌, subst, inl, inr, sym}
use Rattle.std.specs.Prelude.{◌≢◌, ◌<◌, ℕ, List, [], ◌∷◌, length, refl, ◌≡◌, ◌++◌, codes, ◌⊎◌, ◌≤◌, ◌+◌}
use Rattle.tree_spec.proofs.PathParts.{IsFront, at_root, at_other, front_of, not_root, one_parent}
use Rattle.tree_spec.specs.Paths.{IsSegment, joined, IsParent, IsAbove, parent_of, further, IsPath, HasDepth, root, child}

pub nonempty : (xs : List ℕ) → xs ≢ [] → 0 < length xs
nonempty [] h = absurd (h refl)
nonempty (x ∷ xs) h = omega arith

shorter_by : (parent front name : List ℕ) → IsFront parent front → IsSegment name → length parent < length (front ++ 47 ∷ name)
shorter_by parent front name (at_root _ _ a b) is =
    let one : length parent ≡ 1 = ap length a in
    let some : 0 < length name = nonempty name is.nonempty in
    omega (arith, length-append front (47 ∷ name))
shorter_by parent front name (at_other _ _ a b) is =
    let same : length front ≡ length parent = ap length b in
    omega (arith, length-append front (47 ∷ name))

pub joined_longer : (parent name : List ℕ) → IsSegment name → length parent < length (joined parent name)
joined_longer parent name is =
    let has = front_of parent name in
    let short : length parent < length (has.front ++ 47 ∷ name) = shorter_by parent has.front name has.is_front is in
    let same : length (joined parent name) ≡ length (has.front ++ 47 ∷ name) = ap length has.text_is in
    omega arith

pub parent_shorter : (parent path : List ℕ) → IsParent parent path → length parent < length path
parent_shorter parent path p =
    let short : length parent < length (joined parent p.name) = joined_longer parent p.name p.segment in
    let same : length path ≡ length (joined parent p.name) = ap length p.text in
    omega arith

pub above_shorter : (above path : List ℕ) → IsAbove above path → length above < length path
above_shorter _ _ (parent_of above path p) = parent_shorter above path p
above_shorter _ _ (further above parent path a p) =
    let one : length above < length parent = above_shorter above parent a in
    let two : length parent < length path = parent_shorter parent path p in
    omega arith

pub above_other : (above path : List ℕ) → IsAbove above path → above ≢ path
above_other above path a e = let short : length above < length path = above_shorter above path a in let same : length above ≡ length path = ap length e in absurd (omega arith)

pub above_is_path : (above path : List ℕ) → IsAbove above path → IsPath above
above_is_path _ _ (parent_of above path p) = p.is_path
above_is_path _ _ (further above parent path a p) = above_is_path above parent a

-- what stands above something above a path stands above the path
pub parent_above : (parent above path : List ℕ) → IsParent parent above → IsAbove above path → IsAbove parent path
parent_above parent _ _ q (parent_of above path p) = further parent above path (parent_of parent above q) p
parent_above parent _ _ q (further above middle path a p) = further parent middle path (parent_above parent above middle q a) p

pub nothing_above_root : (above path : List ℕ) → path ≡ codes "/" → IsAbove above path → ⊥
nothing_above_root _ _ e (parent_of above path p) = let has = front_of above p.name in not_root path has.front p.name (p.text ∙ has.text_is) p.segment e
nothing_above_root _ _ e (further above parent path a p) = let has = front_of parent p.name in not_root path has.front p.name (p.text ∙ has.text_is) p.segment e

pub above_by_parent : (above parent path : List ℕ) → IsParent parent path → IsAbove above path → (above ≡ parent) ⊎ IsAbove above parent
above_by_parent _ parent _ q (parent_of above path p) = inl (one_parent above parent path p q)
above_by_parent _ parent _ q (further above middle path a p) = let P : List ℕ → Type 0 = λ x. IsAbove above x in inr (subst P (one_parent middle parent path p q) a)

-- the parent that a depth speaks of
parent_in : (depth : ℕ) (parent name text : List ℕ) → HasDepth depth parent → IsSegment name → text ≡ joined parent name → depth + 1 ≤ 64 → length text ≤ 1024 → IsParent parent text
parent_in depth parent name text segments segment e few short =
    let longer : length parent < length (joined parent name) = joined_longer parent name segment in
    let same : length text ≡ length (joined parent name) = ap length e in
    record { name = name; segment = segment; is_path = record { depth = depth; segments = segments; few = omega arith; short = omega arith }; text = e }

neither : (other parent text : List ℕ) → other ≢ parent → (IsAbove other parent → ⊥) → (other ≡ parent) ⊎ IsAbove other parent → ⊥
neither other parent text n m (inl e) = n e
neither other parent text n m (inr a) = m a

above_in : (other parent text : List ℕ) → IsParent parent text → (other ≡ parent) ⊎ (other ≢ parent) → IsAbove other parent ⊎ (IsAbove other parent → ⊥) → IsAbove other text ⊎ (IsAbove other text → ⊥)
above_in other parent text p (inl e) rest = let P : List ℕ → Type 0 = λ x. IsAbove x text in inl (subst P (sym e) (parent_of parent text p))
above_in other parent text p (inr n) (inl a) = inl (further other parent text a p)
above_in other parent text p (inr n) (inr m) = inr (λ a. neither other parent text n m (above_by_parent other parent text p a))

above_by_depth : (other : List ℕ) (depth : ℕ) (text : List ℕ) → HasDepth depth text → depth ≤ 64 → length text ≤ 1024 → IsAbove other text ⊎ (IsAbove other text → ⊥)
above_by_depth other _ _ (root text e) few short = inr (nothing_above_root other text e)
above_by_depth other _ _ (child depth deeper parent name text segments segment e same) few short =
    let p : IsParent parent text = parent_in depth parent name text segments segment same (omega arith) short in
    let up : length parent < length text = parent_shorter parent text p in
    above_in other parent text p (text_same_or_not other parent) (above_by_depth other depth parent segments (omega arith) (omega arith))

pub above_or_not : (other path : List ℕ) → IsPath path → IsAbove other path ⊎ (IsAbove other path → ⊥)
above_or_not other path is = above_by_depth other is.depth path is.segments is.few is.short
