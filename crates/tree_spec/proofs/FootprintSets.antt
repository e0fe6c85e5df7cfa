-- A footprint has each path once, in the order of first looks, footprints are joined as looks are, and a trail by its parts.
use Rattle.std.proofs.Common.{◌≡◌, ℕ, Bool, true, false, List, [], ◌∷◌, ◌++◌, refl, sym, ap, ◌∙◌}
use Rattle.std.specs.Prelude.{◌||◌, bytes_eq}
use Rattle.std.specs.List.{IsDistinct, list_any}
use Rattle.std.proofs.lemmas.Bool.{cond-true, cond_both, or_right}
use Rattle.std.proofs.lemmas.List.Folds.{list_any-append}
use Rattle.std.proofs.lemmas.Slice.Eq.{bytes_eq-Decides}
use Rattle.std.proofs.Math.Bool.{or_assoc, or-false}
use Rattle.std.proofs.lemmas.Cmp.{nat_list_eq_equiv}
use Rattle.std.proofs.lemmas.Map.Keys.{IsDistinct-push}
use Rattle.tree_spec.specs.Laws.{FootprintIsSet, FootprintsJoin}
use Rattle.tree_spec.specs.LookAskings.{looks, is_seen, with_seen, noted}
use Rattle.tree_spec.specs.LookLimits.{Trail}

-- ---- which paths are seen

pub seen_by : (path : List ℕ) (paths : List (List ℕ)) → list_any (bytes_eq path) paths ≡ is_seen path paths
seen_by path [] = refl
seen_by path (first ∷ paths) = λ i. nat_list_eq_equiv.symm path first i || seen_by path paths i

or_held : (a b : Bool) → (b ≡ true → a ≡ true) → (a || b) ≡ a
or_held true b e = refl
or_held false true e = sym (e refl)
or_held false false e = refl

seen_by_same : (path other : List ℕ) (paths : List (List ℕ)) → is_seen other paths ≡ true → bytes_eq other path ≡ true
    → is_seen path paths ≡ true
seen_by_same path other paths held same = ap (λ p. is_seen p paths) (sym ((bytes_eq-Decides other path).0 same)) ∙ held

seen_with : (path other : List ℕ) (paths : List (List ℕ))
    → is_seen path (with_seen paths other) ≡ (is_seen path paths || bytes_eq other path)
seen_with path other paths =
    cond_both (is_seen other paths) paths (paths ++ other ∷ [])
    (λ ps. is_seen path ps ≡ (is_seen path paths || bytes_eq other path))
    (λ held. sym (or_held (is_seen path paths) (bytes_eq other path) (seen_by_same path other paths held)))
    (λ new. list_any-append (λ seen. bytes_eq seen path) paths (other ∷ [])
    ∙ ap (λ b. is_seen path paths || b) (or-false (bytes_eq other path)))

pub seen_noted : (path : List ℕ) (seen paths : List (List ℕ))
    → is_seen path (noted seen paths) ≡ (is_seen path seen || is_seen path paths)
seen_noted path seen [] = sym (or-false (is_seen path seen))
seen_noted path seen (first ∷ more) =
    seen_noted path (with_seen seen first) more
    ∙ (ap (λ b. b || is_seen path more) (seen_with path first seen)
    ∙ or_assoc (is_seen path seen) (bytes_eq first path) (is_seen path more))

-- ---- each once

pub distinct_none : IsDistinct bytes_eq []
unfolding IsDistinct
distinct_none = tt

pub distinct_one : (text : List ℕ) → IsDistinct bytes_eq (text ∷ [])
unfolding IsDistinct
distinct_one text = (tt, tt)

distinct_with : (seen : List (List ℕ)) (path : List ℕ) → IsDistinct bytes_eq seen
    → IsDistinct bytes_eq (with_seen seen path)
distinct_with seen path d =
    cond_both (is_seen path seen) seen (seen ++ path ∷ []) (λ ps. IsDistinct bytes_eq ps) (λ held. d)
    (λ new. IsDistinct-push nat_list_eq_equiv seen path d (seen_by path seen ∙ new))

distinct_noted : (seen paths : List (List ℕ)) → IsDistinct bytes_eq seen → IsDistinct bytes_eq (noted seen paths)
distinct_noted seen [] d = d
distinct_noted seen (path ∷ more) d = distinct_noted (with_seen seen path) more (distinct_with seen path d)

pub footprint_is_set : {X : Type 0} → FootprintIsSet X
unfolding IsDistinct
footprint_is_set sights asking = record {
  distinct = distinct_noted [] (looks sights asking) tt;
  same_paths = λ path. seen_noted path [] (looks sights asking);
}

-- ---- one footprint behind another

noted_append : (seen front back : List (List ℕ)) → noted seen (front ++ back) ≡ noted (noted seen front) back
noted_append seen [] back = refl
noted_append seen (path ∷ front) back = noted_append (with_seen seen path) front back

held_in : (path : List ℕ) (seen paths : List (List ℕ)) → is_seen path paths ≡ true
    → is_seen path (noted seen paths) ≡ true
held_in path seen paths e =
    seen_noted path seen paths ∙ or_right (is_seen path seen) (is_seen path paths) e

one_noted : (seen before : List (List ℕ)) (path : List ℕ)
    → noted seen (with_seen before path) ≡ with_seen (noted seen before) path
one_noted seen before path =
    cond_both (is_seen path before) before (before ++ path ∷ [])
    (λ ps. noted seen ps ≡ with_seen (noted seen before) path)
    (λ held. sym (cond-true _ _ _ (held_in path seen before held)))
    (λ new. noted_append seen before (path ∷ []))

noted_noted : (seen before paths : List (List ℕ)) → noted seen (noted before paths) ≡ noted (noted seen before) paths
noted_noted seen before [] = refl
noted_noted seen before (path ∷ more) =
    noted_noted seen (with_seen before path) more ∙ ap (λ ps. noted ps more) (one_noted seen before path)

pub footprints_join : FootprintsJoin
footprints_join = record { one_after_another = noted_append; by_footprint = λ seen paths. noted_noted seen [] paths }

-- ---- the sets of a trail

-- the trail of these paths, of this size, with these paths of the present question
abbrev pub trail_of : List (List ℕ) → ℕ → List (List ℕ) → Trail
trail_of paths size question = record { paths = paths; size = size; question = question }
