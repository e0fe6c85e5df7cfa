-- How deep a file's copy lies below a folder.
use Rattle.std.proofs.Common.{◌≡◌, ◌≢◌, ◌⊎◌, ◌+◌, ◌≤◌, ◌<◌, ◌++◌, [], ◌∷◌, ℕ, List, Bool, true, false, length, refl, sym, ap, ◌∙◌, subst, inl, inr, append_assoc, arith}
use Rattle.std.proofs.lemmas.Bool.{cases_lt}
use Rattle.std.proofs.lemmas.Slice.Eq.{bytes_eq-Decides}
use Rattle.std.specs.Bool.{Decides}
use Rattle.std.specs.Prelude.{codes, bytes_eq, if◌then◌else◌}
use Rattle.tree_spec.proofs.ByteLists.{text_same_or_not}
use Rattle.tree_spec.proofs.PathParts.{IsFront, at_root, at_other, front_of, joined_at, last_of, not_empty, not_root}
use Rattle.tree_spec.specs.Paths.{IsPath, IsSegment, HasDepth, root, child, joined}
use Rattle.vendor_spec.specs.Goals.{goal_of, most_path_bytes, most_path_segments}

-- the root has no depth
root_depth : (depth : ℕ) (text : List ℕ) → HasDepth depth text → text ≡ codes "/" → depth ≡ 0
root_depth _ text (root _ e) top = refl
root_depth _ text (child above deeper parent name _ segments segment more e) top =
    absurd (not_root text (front_of parent name).front name (e ∙ (front_of parent name).text_is) segment top)

front_by : (b : Bool) (to : List ℕ) → Decides b (to ≡ codes "/") → IsFront to (if b then [] else to)
front_by true to d = at_root to [] (d.0 refl) refl
front_by false to d = at_other to to (λ e. let wrong : false ≡ true = d.1 e in cc) refl

not_top : (front parent : List ℕ) → parent ≢ [] → parent ≢ codes "/" → front ++ parent ≢ codes "/"
not_top [] parent some other e = other e
not_top (x ∷ []) parent some other e = let f = e in some (cc)
not_top (x ∷ y ∷ front) parent some other e = let f = e in absurd (cc)

module _ (to front : List ℕ) (above : ℕ) (is : HasDepth above to) (is_front : IsFront to front) where
  child_of_folder : (low depth : ℕ) (parent name path : List ℕ) → HasDepth low parent → IsSegment name → depth ≡ low + 1
      → path ≡ joined parent name → parent ≡ codes "/" → HasDepth (above + depth) (front ++ path)
  child_of_folder low depth parent name path segments segment deeper e top =
      let none : low ≡ 0 = root_depth low parent segments top in
      let text : path ≡ 47 ∷ name = e ∙ joined_at parent [] name (at_root parent [] top refl) in
      child above (above + depth) to name (front ++ path) is segment (omega (arith, none, deeper))
      (ap (λ p. front ++ p) text ∙ sym (joined_at to front name is_front))

  deeper_child : (low depth : ℕ) (parent name path : List ℕ) → HasDepth low parent → IsSegment name → depth ≡ low + 1
      → path ≡ joined parent name → parent ≢ codes "/" → HasDepth (above + low) (front ++ parent)
      → HasDepth (above + depth) (front ++ path)
  deeper_child low depth parent name path segments segment deeper e other up =
      let text : path ≡ parent ++ 47 ∷ name = e ∙ joined_at parent parent name (at_other parent parent other refl) in
      let top : front ++ parent ≢ codes "/" = not_top front parent (not_empty low parent segments) other in
      child (above + low) (above + depth) (front ++ parent) name (front ++ path) up segment (omega (arith, deeper))
      (ap (λ p. front ++ p) text ∙ (sym (append_assoc front parent (47 ∷ name))
      ∙ sym (joined_at (front ++ parent) (front ++ parent) name (at_other (front ++ parent) (front ++ parent) top refl))))

  below : (depth : ℕ) (path : List ℕ) → HasDepth depth path → path ≢ codes "/" → HasDepth (above + depth) (front ++ path)
  below depth path (root _ e) deep = absurd (deep e)
  below depth path (child low _ parent name _ segments segment deeper e) deep =
      elim (text_same_or_not parent (codes "/")) [
        | inl top ↦ child_of_folder low depth parent name path segments segment deeper e top
        | inr other ↦ deeper_child low depth parent name path segments segment deeper e other (below low parent segments other)
      ]

pub goal_depth : (to path : List ℕ) (above depth : ℕ) → HasDepth above to → HasDepth depth path → path ≢ codes "/"
    → HasDepth (above + depth) (goal_of to path)
goal_depth to path above depth is segments deep =
    below to (if bytes_eq to (codes "/") then [] else to) above is
    (front_by (bytes_eq to (codes "/")) to (bytes_eq-Decides to (codes "/"))) depth path segments deep

-- below another folder than the root it is the folder's path followed by the file's own
pub goal_behind : (to path : List ℕ) → to ≢ codes "/" → goal_of to path ≡ to ++ path
goal_behind to path deep = ap (λ front. front ++ path) (by (bytes_eq to (codes "/")) (bytes_eq-Decides to (codes "/")))
  where
    by : (b : Bool) → Decides b (to ≡ codes "/") → (if b then [] else to) ≡ to
    by true d = absurd (deep (d.0 refl))
    by false d = refl

-- what has few bytes and is no path has too many segments
pub too_deep : (text : List ℕ) (depth : ℕ) → HasDepth depth text → (IsPath text → ⊥)
    → (most_path_bytes < length text → ⊥) → most_path_segments < depth
too_deep text depth segments bad short =
    elim (cases_lt 64 depth) [
      | inl more ↦ more
      | inr few ↦ elim (cases_lt 1024 (length text)) [
        | inl long ↦ absurd (short long)
        | inr within ↦ absurd (bad (record {
          depth = depth;
          segments = segments;
          few = omega (arith, few);
          short = omega (arith, within);
        }))
      ]
    ]

-- ---- a path has one depth

one_above : (above other front : List ℕ) (depth low : ℕ) → HasDepth depth above → HasDepth low other → IsFront above front
    → IsFront other front → above ≡ other
one_above above other front depth low is too (at_root _ _ top none) (at_root _ _ top_too none_too) = top ∙ sym top_too
one_above above other front depth low is too (at_root _ _ top none) (at_other _ _ deep same) =
    absurd (not_empty low other too (sym same ∙ none))
one_above above other front depth low is too (at_other _ _ deep same) (at_root _ _ top none) =
    absurd (not_empty depth above is (sym same ∙ none))
one_above above other front depth low is too (at_other _ _ deep same) (at_other _ _ deep_too same_too) = sym same ∙ same_too

pub one_depth : (depth other : ℕ) (text : List ℕ) → HasDepth depth text → HasDepth other text → depth ≡ other
one_depth _ other text (root _ e) too = sym (root_depth other text too e)
one_depth _ other text (child low deeper parent name _ segments segment more e) too =
    let has = front_of parent name in
    let split : text ≡ has.front ++ 47 ∷ name = e ∙ has.text_is in
    let last = last_of other text has.front name too (not_root text has.front name split segment) split segment.no_slash in
    let same = one_above last.parent parent has.front last.above low last.segments segments last.is_front has.is_front in
    let depths : low ≡ last.above = one_depth low last.above parent segments (subst (HasDepth last.above) same last.segments) in
    let own = last.deeper in
    omega (arith, more, own, depths)
