-- Texts cut at their last `/`, and what the parts say of the whole.
use Rattle.std.specs.Prelude.{◌≡◌, ◌≢◌, ◌==◌, ◌≤◌, ◌<◌, ◌+◌, ◌-◌, ◌↔◌, ℕ, Bool, true, false, List, [], ◌∷◌, ◌++◌, length, codes, bytes_eq, All, IsTrue, not, refl}
use Rattle.std.proofs.Common.{suc, sym, ◌∙◌, ap, subst, arith, get_or, take, drop, drop-cons, length-append, add-one, lit≤}
use Rattle.std.proofs.lemmas.Bool.Decides.{Decides-eqb}
use Rattle.std.proofs.lemmas.List.{take-append-drop, get_or-drop, length-drop}
use Rattle.std.proofs.lemmas.Slice.Eq.{bytes_eq-Decides}
use Rattle.std.proofs.lemmas.List.Elements.{All-from_get_or, All-same}
use Rattle.tree_spec.specs.Paths.{IsSegment, joined, HasDepth, root, child, IsPath, IsParent}
use Rattle.tree_spec.proofs.PathParts.{IsFront, at_root, at_other, front_of, joined_at, HasLast, last_of, no_depth, not_empty, not_root}
use Rattle.tree_model.specs.Below.{IsBelow}

-- what stands before and behind the last `/`
pub cut_parts : (text front back : List ℕ) (at : ℕ) → front ≡ take at text → back ≡ drop (at + 1) text
    → (at < length text) × (get_or text at 0 ≡ 47) × ((i : ℕ) → at < i → i < length text → get_or text i 0 ≢ 47)
    → (text ≡ front ++ 47 ∷ back) × All (λ b. b ≢ 47) back
cut_parts text front back at e f (inside, here, after) =
    let tail : drop at text ≡ 47 ∷ back = drop-cons text at 0 inside ∙ ap (λ x. x ∷ drop (suc at) text) here ∙ ap (λ x. 47 ∷ x) (ap (λ n. drop n text) (sym (add-one at)) ∙ sym f) in
    let whole : text ≡ front ++ 47 ∷ back = sym (take-append-drop at text) ∙ ap (λ x. x ++ drop at text) (sym e) ∙ ap (λ x. front ++ x) tail in
    (whole, All-same (λ b. b ≢ 47) back (drop (at + 1) text) f (All-from_get_or (λ b. b ≢ 47) (drop (at + 1) text) 0 (λ i below. let bound : i < length (drop (at + 1) text) = below in let inner : at + 1 + i < length text = omega (arith, length-drop (at + 1) text) in let moved : get_or text (at + 1 + i) 0 ≢ 47 = after (at + 1 + i) (omega arith) inner in (λ h. moved (sym (get_or-drop (at + 1) text i 0) ∙ h)))))

-- a name in which NUL was looked for
pub segment_if : (name : List ℕ) (found : Bool) → name ≢ [] → name ≢ codes "." → name ≢ codes ".." → All (λ b. b ≢ 47) name
    → (found ≡ true → (k : ℕ) × (k < length name) × (get_or name k 0 ≡ 0)) × ((k : ℕ) → k < length name → get_or name k 0 ≡ 0 → found ≡ true)
    → IsTrue (not found) ↔ IsSegment name
segment_if name true e h u s n = ((λ f. cc), (λ is. let at = n.0 refl in absurd (is.no_nul at.0 0 at.1 at.2)))
segment_if name false e h u s n = ((λ f. record { nonempty = e; no_slash = s; no_nul = All-from_get_or (λ b. b ≢ 0) name 0 (λ k l z. let wrong : false ≡ true = n.1 k l z in cc); not_here = h; not_up = u }), (λ is. refl))

empty : (xs : List ℕ) → length xs ≡ 0 → xs ≡ []
empty [] e = refl
empty (x ∷ xs) e = absurd (omega arith)

pub below_first : (most : ℕ) (text front name : List ℕ) → 0 < most → length front ≡ 0 → IsSegment name → text ≡ front ++ 47 ∷ name → IsBelow most text
below_first most text front name some none is e =
    let bare : text ≡ joined (codes "/") name = e ∙ ap (λ x. x ++ 47 ∷ name) (empty front none) in
    record { depth = 1; segments = child 0 1 (codes "/") name text (root (codes "/") refl) is refl bare; other = not_root text front name e is; few = omega arith }

pub below_more : (most : ℕ) (text front name : List ℕ) → 0 < most → IsBelow (most - 1) front → IsSegment name → text ≡ front ++ 47 ∷ name → IsBelow most text
below_more most text front name some below is e =
    record {
      depth = below.depth + 1;
      segments = child below.depth (below.depth + 1) front name text below.segments is refl (e ∙ sym (joined_at front front name (at_other front front below.other refl)));
      other = not_root text front name e is;
      few = let few : below.depth ≤ most - 1 = below.few in omega arith;
    }

-- what is known of the parts of a text of segments
pub last_below : (most : ℕ) (text front name : List ℕ) → text ≡ front ++ 47 ∷ name → All (λ b. b ≢ 47) name → (below : IsBelow most text) → HasLast below.depth front name
last_below most text front name e none below = last_of below.depth text front name below.segments below.other e none

pub some_below : (most : ℕ) (text front name : List ℕ) → text ≡ front ++ 47 ∷ name → All (λ b. b ≢ 47) name → IsBelow most text → 0 < most
some_below most text front name e none below =
    let last = last_below most text front name e none below in
    let deeper : below.depth ≡ last.above + 1 = last.deeper in
    let few : below.depth ≤ most = below.few in
    omega arith

pub segment_below : (most : ℕ) (text front name : List ℕ) → text ≡ front ++ 47 ∷ name → All (λ b. b ≢ 47) name → IsBelow most text → IsSegment name
segment_below most text front name e none below = (last_below most text front name e none below).segment

back_by : (most depth : ℕ) (front name : List ℕ) (last : HasLast depth front name) → depth ≤ most → front ≢ [] → IsFront last.parent front → IsBelow (most - 1) front
back_by most depth front name last few some (at_root _ _ e f) = absurd (some f)
back_by most depth front name last few some (at_other _ _ e f) =
    let deeper : depth ≡ last.above + 1 = last.deeper in
    let P : List ℕ → Type 0 = λ x. HasDepth last.above x in
    record { depth = last.above; segments = subst P (sym f) last.segments; other = (λ r. e (sym f ∙ r)); few = omega arith }

pub back_below : (most : ℕ) (text front name : List ℕ) → text ≡ front ++ 47 ∷ name → All (λ b. b ≢ 47) name → front ≢ [] → IsBelow most text → IsBelow (most - 1) front
back_below most text front name e none some below =
    let last = last_below most text front name e none below in
    back_by most below.depth front name last below.few some last.is_front

pub none_below : (most : ℕ) (text : List ℕ) → All (λ b. b ≢ 47) text → IsBelow most text → ⊥
none_below most text none below = no_depth below.depth text below.segments none

pub path_below : (text : List ℕ) → length text ≤ 1024 → IsBelow 64 text → IsPath text
path_below text short below = record { depth = below.depth; segments = below.segments; few = below.few; short = short }

pub below_path : (text : List ℕ) → text ≢ codes "/" → IsPath text → IsBelow 64 text
below_path text other is = record { depth = is.depth; segments = is.segments; other = other; few = is.few }

parent_by : (path front name : List ℕ) (is : IsPath path) (last : HasLast is.depth front name) → path ≡ front ++ 47 ∷ name → (parent : List ℕ) → parent ≡ last.parent → length parent ≤ 1024 → IsParent parent path
parent_by path front name is last e parent same short =
    let few : is.depth ≤ 64 = is.few in
    let deeper : is.depth ≡ last.above + 1 = last.deeper in
    let P : List ℕ → Type 0 = λ x. HasDepth last.above x in
    let Q : List ℕ → Type 0 = λ x. IsFront x front in
    record {
      name = name;
      segment = last.segment;
      is_path = record { depth = last.above; segments = subst P (sym same) last.segments; few = omega arith; short = short };
      text = e ∙ sym (joined_at parent front name (subst Q (sym same) last.is_front));
    }

parent_of_front : (parent front : List ℕ) (above : ℕ) → HasDepth above parent → IsFront parent front → front ≡ [] → parent ≡ codes "/"
parent_of_front parent front above segments (at_root _ _ e f) none = e
parent_of_front parent front above segments (at_other _ _ e f) none = absurd (not_empty above parent segments (sym f ∙ none))

front_is_parent : (parent front : List ℕ) → IsFront parent front → front ≢ [] → front ≡ parent
front_is_parent parent front (at_root _ _ e f) some = absurd (some f)
front_is_parent parent front (at_other _ _ e f) some = f

pub parent_at_root : (path front name parent : List ℕ) → IsPath path → path ≢ codes "/" → path ≡ front ++ 47 ∷ name → All (λ b. b ≢ 47) name → length front ≡ 0 → parent ≡ codes "/" → IsParent parent path
parent_at_root path front name parent is other e none nothing here =
    let last = last_of is.depth path front name is.segments other e none in
    let P : List ℕ → Type 0 = λ x. length x ≤ 1024 in
    parent_by path front name is last e parent (here ∙ sym (parent_of_front last.parent front last.above last.segments last.is_front (empty front nothing))) (subst P (sym here) (lit≤ tt))

pub parent_at_front : (path front name parent : List ℕ) → IsPath path → path ≢ codes "/" → path ≡ front ++ 47 ∷ name → All (λ b. b ≢ 47) name → front ≢ [] → parent ≡ front → IsParent parent path
parent_at_front path front name parent is other e none some here =
    let last = last_of is.depth path front name is.segments other e none in
    let short : length path ≤ 1024 = is.short in
    let within : length front ≤ 1024 = omega (arith, ap length e, length-append front (47 ∷ name)) in
    let P : List ℕ → Type 0 = λ x. length x ≤ 1024 in
    parent_by path front name is last e parent (here ∙ front_is_parent last.parent front last.is_front some) (subst P (sym here) within)

pub too_long : (path rest : List ℕ) → 1024 < length rest → IsPath (joined path rest) → ⊥
too_long path rest long is =
    let has = front_of path rest in
    let short : length (joined path rest) ≤ 1024 = is.short in
    let e : length (joined path rest) ≡ length (has.front ++ 47 ∷ rest) = ap length has.text_is in
    omega (arith, length-append has.front (47 ∷ rest))

pub root_test : (text : List ℕ) (found : Bool) → found ≡ bytes_eq text (codes "/") → found ≡ true → text ≡ codes "/"
root_test text found e t = (bytes_eq-Decides text (codes "/")).0 (sym e ∙ t)

pub other_test : (text : List ℕ) (found : Bool) → found ≡ bytes_eq text (codes "/") → found ≡ false → text ≢ codes "/"
other_test text found e f same = let wrong : bytes_eq text (codes "/") ≡ true = (bytes_eq-Decides text (codes "/")).1 same in cc

pub none_test : (front : List ℕ) (found : Bool) → found ≡ (length front == 0) → found ≡ true → length front ≡ 0
none_test front found e t = (Decides-eqb (length front) 0).0 (sym e ∙ t)

pub some_test : (front : List ℕ) (found : Bool) → found ≡ (length front == 0) → found ≡ false → front ≢ []
some_test front found e f none = let wrong : (length front == 0) ≡ true = (Decides-eqb (length front) 0).1 (ap length none) in cc
