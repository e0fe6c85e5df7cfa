-- The folders from a path on are those that are reached by parents.
use Rattle.std.proofs.Common.{◌≡◌, ◌≢◌, ◌≤◌, ◌<◌, ◌==◌, length, ◌++◌, [], ◌∷◌, ℕ, List, Bool, true, false, bytes_eq, refl, sym, ap, ◌∙◌, subst, arith}
use Rattle.std.specs.Prelude.{codes, map, if◌then◌else◌, All}
use Rattle.std.specs.Bool.{Decides}
use Rattle.std.proofs.lemmas.List.{append_assoc, append-nil}
use Rattle.std.proofs.lemmas.Slice.Eq.{bytes_eq-Decides}
use Rattle.std.proofs.lemmas.Bool.Decides.{Decides-eqb}
use Rattle.std.proofs.lemmas.List.Elements.{All-head, All-tail}
use Rattle.tree_spec.proofs.PathParts.{IsFront, at_root as front_at_root, at_other, front_of, not_root}
use Rattle.tree_spec.proofs.PathsAbove.{joined_longer}
use Rattle.tree_spec.specs.FoldersAbove.{fronts_behind, folder_at, front_text, folders_from, second_or, Climbs, at_root, from_parent}
use Rattle.tree_spec.specs.Laws.{FoldersClimb, FolderIsParent}
use Rattle.tree_spec.specs.Paths.{joined, HasDepth, root, child, IsParent}

-- ---- a path, and then what its parent has

passed_by : (fronts : List (List ℕ)) (front name : List ℕ) (b : ℕ) (t : Bool) → Decides t (b ≡ 47) → b ≢ 47
    → fronts_behind fronts (front ++ b ∷ []) name ≡ ((front ++ b ∷ []) ++ name) ∷ fronts
    → fronts_behind (if t then front ∷ fronts else fronts) (front ++ b ∷ []) name ≡ (front ++ b ∷ name) ∷ fronts
passed_by fronts front name b true d other rest = absurd (other (d.0 refl))
passed_by fronts front name b false d other rest = rest ∙ ap (λ f. f ∷ fronts) (append_assoc front (b ∷ []) name)

no_slash_fronts : (fronts : List (List ℕ)) (front name : List ℕ) → All (λ b. b ≢ 47) name
    → fronts_behind fronts front name ≡ (front ++ name) ∷ fronts
no_slash_fronts fronts front [] none = ap (λ f. f ∷ fronts) (sym (append-nil front))
no_slash_fronts fronts front (b ∷ name) none =
    passed_by fronts front name b (b == 47) (Decides-eqb b 47) (All-head (λ b. b ≢ 47) b name none)
    (no_slash_fronts fronts (front ++ b ∷ []) name (All-tail (λ b. b ≢ 47) b name none))

last_fronts : (fronts : List (List ℕ)) (done front name : List ℕ) → All (λ b. b ≢ 47) name
    → fronts_behind fronts done (front ++ 47 ∷ name) ≡ (done ++ (front ++ 47 ∷ name)) ∷ fronts_behind fronts done front
last_fronts fronts done [] name none =
    no_slash_fronts (done ∷ fronts) (done ++ 47 ∷ []) name none
    ∙ ap (λ f. f ∷ done ∷ fronts) (append_assoc done (47 ∷ []) name)
last_fronts fronts done (b ∷ front) name none =
    last_fronts (if b == 47 then done ∷ fronts else fronts) (done ++ b ∷ []) front name none
    ∙ ap (λ f. f ∷ fronts_behind (if b == 47 then done ∷ fronts else fronts) (done ++ b ∷ []) front)
    (append_assoc done (b ∷ []) (front ++ 47 ∷ name))

itself_at : (front name : List ℕ) → folder_at (front ++ 47 ∷ name) ≡ front ++ 47 ∷ name
itself_at [] name = refl
itself_at (b ∷ front) name = refl

text_by : (t : Bool) (path : List ℕ) → Decides t (path ≡ codes "/") → path ≢ codes "/"
    → (if t then [] else path) ≡ path
text_by true path d other = absurd (other (d.0 refl))
text_by false path d other = refl

text_other : (path : List ℕ) → path ≢ codes "/" → front_text path ≡ path
text_other path other = text_by (bytes_eq path (codes "/")) path (bytes_eq-Decides path (codes "/")) other

text_is : (parent front : List ℕ) → IsFront parent front → front_text parent ≡ front
text_is parent front (front_at_root _ _ e f) = ap front_text e ∙ sym f
text_is parent front (at_other _ _ e f) = text_other parent e ∙ sym f

pub folders_from_root : (path : List ℕ) → path ≡ codes "/" → folders_from path ≡ path ∷ []
unfolding folders_from
folders_from_root path e = ap folders_from e ∙ ap (λ p. p ∷ []) (sym e)

pub folders_from_parent : (parent path : List ℕ) → IsParent parent path → folders_from path ≡ path ∷ folders_from parent
unfolding folders_from
folders_from_parent parent path p =
    let has = front_of parent p.name in
    let up : List (List ℕ) = map folder_at (fronts_behind [] [] has.front) in
    let text : path ≡ has.front ++ 47 ∷ p.name = p.text ∙ has.text_is in
    let whole : front_text path ≡ has.front ++ 47 ∷ p.name =
    text_other path (not_root path has.front p.name text p.segment) ∙ text in
    let first : folders_from path ≡ map folder_at (fronts_behind [] [] (has.front ++ 47 ∷ p.name)) =
    ap (λ t. map folder_at (fronts_behind [] [] t)) whole in
    let second : map folder_at (fronts_behind [] [] (has.front ++ 47 ∷ p.name)) ≡ folder_at (has.front ++ 47 ∷ p.name) ∷ up =
    ap (map folder_at) (last_fronts [] [] has.front p.name p.segment.no_slash) in
    let itself : folder_at (has.front ++ 47 ∷ p.name) ≡ path = itself_at has.front p.name ∙ sym text in
    let above : up ≡ folders_from parent =
    ap (λ t. map folder_at (fronts_behind [] [] t)) (sym (text_is parent has.front has.is_front)) in
    first ∙ (second ∙ (ap (λ f. f ∷ up) itself ∙ ap (λ fs. path ∷ fs) above))

-- ---- the same by cases

climbs_depth : (depth : ℕ) (path : List ℕ) → HasDepth depth path → depth ≤ 64 → length path ≤ 1024
    → Climbs path (folders_from path)
climbs_depth _ path (root _ e) few short = subst (Climbs path) (sym (folders_from_root path e)) (at_root path e)
climbs_depth _ path (child depth deeper parent name _ segments segment d e) few short =
    let long : length parent < length (joined parent name) = joined_longer parent name segment in
    let same : length path ≡ length (joined parent name) = ap length e in
    let up : IsParent parent path = record {
      name = name;
      segment = segment;
      is_path = record { depth = depth; segments = segments; few = omega arith; short = omega arith };
      text = e;
    } in
    subst (Climbs path) (sym (folders_from_parent parent path up))
    (from_parent parent path (folders_from parent) up (climbs_depth depth parent segments (omega arith) (omega arith)))

pub folders_climb : FoldersClimb
folders_climb path is = climbs_depth is.depth path is.segments is.few is.short

second_of : (path parent : List ℕ) (folders : List (List ℕ)) → Climbs parent folders
    → second_or path (path ∷ folders) ≡ parent
second_of path parent _ (at_root _ e) = refl
second_of path parent _ (from_parent _ _ folders p up) = refl

pub folder_is_parent : FolderIsParent
folder_is_parent parent path p =
    ap (second_or path) (folders_from_parent parent path p)
    ∙ second_of path parent (folders_from parent) (folders_climb parent p.is_path)
