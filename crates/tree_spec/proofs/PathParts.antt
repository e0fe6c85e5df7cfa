-- The parts of a path: where its last segment begins, and that it has one parent.
use Rattle.std.proofs.Common.{sym, ap, subst, ◌∙◌, arith}
use Rattle.std.proofs.lemmas.List.Elements.{All-head, All-tail, All-same}
use Rattle.std.proofs.lemmas.Slice.Eq.{bytes_eq-Decides}
use Rattle.std.specs.Bool.{Decides}
use Rattle.std.specs.Prelude.{◌≡◌, ◌≢◌, ℕ, List, [], codes, ◌∷◌, ◌++◌, Bool, true, false, if◌then◌else◌, refl, bytes_eq, All, ◌+◌}
use Rattle.tree_spec.specs.Paths.{joined, IsSegment, HasDepth, root, child, IsParent}

-- what stands before the `/` behind a path: nothing at the root, else the path
pub data IsFront : List ℕ → List ℕ → Type 0 where
  at_root : (parent front : List ℕ) → parent ≡ codes "/" → front ≡ [] → IsFront parent front
  at_other : (parent front : List ℕ) → parent ≢ codes "/" → front ≡ parent → IsFront parent front

pub record HasFront (parent name text : List ℕ) : Type 0 where
  pub front : List ℕ
  pub text_is : text ≡ front ++ 47 ∷ name
  pub is_front : IsFront parent front

front_by : (b : Bool) (parent name : List ℕ) → Decides b (parent ≡ codes "/") → HasFront parent name ((if b then [] else parent) ++ 47 ∷ name)
front_by true parent name d = record { front = []; text_is = refl; is_front = at_root parent [] (d.0 refl) refl }
front_by false parent name d = record { front = parent; text_is = refl; is_front = at_other parent parent (λ e. let wrong : false ≡ true = d.1 e in cc) refl }

-- the joined text is split at the `/` that was put in
pub front_of : (parent name : List ℕ) → HasFront parent name (joined parent name)
front_of parent name = front_by (bytes_eq parent (codes "/")) parent name (bytes_eq-Decides parent (codes "/"))

joined_by : (b : Bool) (parent front name : List ℕ) → Decides b (parent ≡ codes "/") → IsFront parent front → (if b then [] else parent) ++ 47 ∷ name ≡ front ++ 47 ∷ name
joined_by true parent front name d (at_root _ _ e f) = ap (λ x. x ++ 47 ∷ name) (sym f)
joined_by true parent front name d (at_other _ _ e f) = absurd (e (d.0 refl))
joined_by false parent front name d (at_root _ _ e f) = let wrong : false ≡ true = d.1 e in cc
joined_by false parent front name d (at_other _ _ e f) = ap (λ x. x ++ 47 ∷ name) (sym f)

pub joined_at : (parent front name : List ℕ) → IsFront parent front → joined parent name ≡ front ++ 47 ∷ name
joined_at parent front name is = joined_by (bytes_eq parent (codes "/")) parent front name (bytes_eq-Decides parent (codes "/")) is

pub no_slash_inside : (front name : List ℕ) → All (λ b. b ≢ 47) (front ++ 47 ∷ name) → ⊥
no_slash_inside [] name h = All-head (λ b. b ≢ 47) 47 name h refl
no_slash_inside (x ∷ front) name h = no_slash_inside front name (All-tail (λ b. b ≢ 47) x (front ++ 47 ∷ name) h)

-- a text is split at its last `/` in one way
pub one_split : (front other name last : List ℕ) → front ++ 47 ∷ name ≡ other ++ 47 ∷ last → All (λ b. b ≢ 47) name → All (λ b. b ≢ 47) last → (front ≡ other) × (name ≡ last)
one_split [] [] name last e h k = (refl, cc)
one_split [] (y ∷ other) name last e h k = let same : name ≡ other ++ 47 ∷ last = cc in absurd (no_slash_inside other last (All-same (λ b. b ≢ 47) _ _ (sym same) h))
one_split (x ∷ front) [] name last e h k = let same : last ≡ front ++ 47 ∷ name = cc in absurd (no_slash_inside front name (All-same (λ b. b ≢ 47) _ _ (sym same) k))
one_split (x ∷ front) (y ∷ other) name last e h k =
    let first : x ≡ y = cc in
    let rest : front ++ 47 ∷ name ≡ other ++ 47 ∷ last = cc in
    let both = one_split front other name last rest h k in
    let fronts : front ≡ other = both.0 in
    (cc, both.1)

-- what the text before the last `/` and the text behind it are, of a text with this depth
pub record HasLast (depth : ℕ) (front name : List ℕ) : Type 0 where
  pub above : ℕ
  pub parent : List ℕ
  pub segments : HasDepth above parent
  pub segment : IsSegment name
  pub deeper : depth ≡ above + 1
  pub is_front : IsFront parent front

moved_last : (depth : ℕ) (front other name last : List ℕ) → front ≡ other → name ≡ last → HasLast depth front name → HasLast depth other last
moved_last depth front other name last e f h = let P : List ℕ → Type 0 = λ x. HasLast depth x last in let Q : List ℕ → Type 0 = λ x. HasLast depth front x in subst P e (subst Q f h)

pub last_of : (depth : ℕ) (text front name : List ℕ) → HasDepth depth text → text ≢ codes "/" → text ≡ front ++ 47 ∷ name → All (λ b. b ≢ 47) name → HasLast depth front name
last_of depth text front name (root _ e) other split none = absurd (other e)
last_of depth text front name (child above _ parent last _ segments segment deeper e) other split none =
    let has = front_of parent last in
    let same : has.front ++ 47 ∷ last ≡ front ++ 47 ∷ name = sym has.text_is ∙ sym e ∙ split in
    let both = one_split has.front front last name same segment.no_slash none in
    moved_last depth has.front front last name both.0 both.1 (record { above = above; parent = parent; segments = segments; segment = segment; deeper = deeper; is_front = has.is_front })

-- a text without a `/` has no depth
pub no_depth : (depth : ℕ) (text : List ℕ) → HasDepth depth text → All (λ b. b ≢ 47) text → ⊥
no_depth depth text (root _ e) none = no_slash_inside [] [] (All-same (λ b. b ≢ 47) _ _ (sym e) none)
no_depth depth text (child above _ parent last _ segments segment deeper e) none =
    let has = front_of parent last in
    no_slash_inside has.front last (All-same (λ b. b ≢ 47) _ _ (sym (e ∙ has.text_is)) none)

-- a text with a depth isn't empty
pub not_empty : (depth : ℕ) (text : List ℕ) → HasDepth depth text → text ≢ []
not_empty depth text h e = no_depth depth text h (All-same (λ b. b ≢ 47) _ _ e (λ k d l. absurd (omega arith)))

-- a text with a segment behind a `/` isn't the root
pub not_root : (text front name : List ℕ) → text ≡ front ++ 47 ∷ name → IsSegment name → text ≢ codes "/"
not_root text front name e is r =
    let same : front ++ 47 ∷ name ≡ [] ++ 47 ∷ [] = sym e ∙ r in
    is.nonempty (one_split front [] name [] same is.no_slash (λ k d l. absurd (omega arith))).1

-- ---- a path has one parent

one_front : (front path other : List ℕ) (depth : ℕ) (deeper : ℕ) → HasDepth depth path → HasDepth deeper other → IsFront path front → IsFront other front → path ≡ other
one_front front path other depth deeper d e (at_root _ _ a b) (at_root _ _ f g) = a ∙ sym f
one_front front path other depth deeper d e (at_root _ _ a b) (at_other _ _ f g) = absurd (not_empty deeper other e (sym g ∙ b))
one_front front path other depth deeper d e (at_other _ _ a b) (at_root _ _ f g) = absurd (not_empty depth path d (sym b ∙ g))
one_front front path other depth deeper d e (at_other _ _ a b) (at_other _ _ f g) = sym b ∙ g

pub one_parent : (parent other path : List ℕ) → IsParent parent path → IsParent other path → parent ≡ other
one_parent parent other path p q =
    let has = front_of parent p.name in
    let also = front_of other q.name in
    let same : has.front ++ 47 ∷ p.name ≡ also.front ++ 47 ∷ q.name = sym has.text_is ∙ sym p.text ∙ q.text ∙ also.text_is in
    let fronts : has.front ≡ also.front = (one_split has.front also.front p.name q.name same p.segment.no_slash q.segment.no_slash).0 in
    let P : List ℕ → Type 0 = λ x. IsFront parent x in
    one_front also.front parent other p.is_path.depth q.is_path.depth p.is_path.segments q.is_path.segments (subst P fronts has.is_front) also.is_front
