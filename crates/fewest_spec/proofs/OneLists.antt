-- The places of the referrers that need a specifier are one list, and so are its targets.
use Rattle.std.proofs.Common.{refl, sym, ◌∙◌, subst}
use Rattle.std.specs.Prelude.{◌≡◌, ℕ, List, [], ◌∷◌, Contains}
use mathlib.Core.Logic.{inl, inr}
use Rattle.layout_spec.proofs.Contained.{contains_here, contains_there, contains_cases, contains_none}
use Rattle.layout_spec.specs.declared.Need.{Need}
use Rattle.fewest_spec.specs.Fewest.{Before}
use Rattle.fewest_spec.specs.Laws.{OnePlaces, OneTargets}
use Rattle.fewest_spec.specs.Making.{places_for, targets_for}
use Rattle.fewest_spec.specs.Wishes.{Ascending, Descending, ArePlaces, AreTargets}
use Rattle.fewest_spec.proofs.Orders.{never_itself, not_both}
use Rattle.fewest_spec.proofs.SomeFewest.{places_are, targets_are}

-- two lists without a text twice, in one order, that contain the same
module _ (Orders : List (List ℕ) → Type 0) (First : List ℕ → List ℕ → Type 0)
    (parts : (x : List ℕ) (xs : List (List ℕ)) → Orders (x ∷ xs) → ((y : List ℕ) → Contains xs y → First x y) × Orders xs)
    (never : (x : List ℕ) → First x x → ⊥) (both : (x y : List ℕ) → First x y → First y x → ⊥) where
  behind : (x : List ℕ) (xs : List (List ℕ)) (y : List ℕ) (ys : List (List ℕ)) → Orders (x ∷ xs) → x ≡ y → ((z : List ℕ) → Contains (x ∷ xs) z → Contains (y ∷ ys) z) → (z : List ℕ) → Contains xs z → Contains ys z
  behind x xs y ys up same within z c = elim (contains_cases z y ys (within z (contains_there z x xs c))) [
    | inr later ↦ later
    | inl is ↦ absurd (never z (subst (λ w. First w z) (same ∙ is) ((parts x xs up).0 z c)))
  ]

  pub same_list : (xs ys : List (List ℕ)) → Orders xs → Orders ys → ((z : List ℕ) → Contains xs z → Contains ys z) → ((z : List ℕ) → Contains ys z → Contains xs z) → xs ≡ ys
  same_list [] [] up down within back = refl
  same_list [] (y ∷ ys) up down within back = absurd (contains_none y (back y (contains_here y ys)))
  same_list (x ∷ xs) [] up down within back = absurd (contains_none x (within x (contains_here x xs)))
  same_list (x ∷ xs) (y ∷ ys) up down within back =
      let same : x ≡ y = elim (contains_cases x y ys (within x (contains_here x xs))) [
        | inl is ↦ sym is
        | inr later ↦ elim (contains_cases y x xs (back y (contains_here y ys))) [
          | inl is ↦ is
          | inr other ↦ absurd (both x y ((parts x xs up).0 y other) ((parts y ys down).0 x later))
        ]
      ] in
      λ i. same i ∷ same_list xs ys (parts x xs up).1 (parts y ys down).1 (behind x xs y ys up same within) (behind y ys x xs down (sym same) back) i

same_descending : (xs ys : List (List ℕ)) → Descending xs → Descending ys → ((z : List ℕ) → Contains xs z → Contains ys z) → ((z : List ℕ) → Contains ys z → Contains xs z) → xs ≡ ys
same_descending = same_list Descending (λ x y. Before y x) (λ x xs d. d) never_itself (λ x y b c. not_both y x b c)

same_ascending : (xs ys : List (List ℕ)) → Ascending xs → Ascending ys → ((z : List ℕ) → Contains xs z → Contains ys z) → ((z : List ℕ) → Contains ys z → Contains xs z) → xs ≡ ys
same_ascending = same_list Ascending Before (λ x xs u. u) never_itself not_both

places_within : (needs : List Need) (asked : List ℕ) (ps others : List (List ℕ)) → ArePlaces needs asked ps → ArePlaces needs asked others → (p : List ℕ) → Contains ps p → Contains others p
places_within needs asked ps others are also p c = let found = are.only p c in also.all found.0 p found.1.is_need found.1.asks found.1.under

pub one_places : OnePlaces
one_places needs asked = (
  (places_for needs asked, places_are needs asked),
  (λ ps others are also. same_descending ps others are.down also.down (places_within needs asked ps others are also) (places_within needs asked others ps also are)),
)

targets_within : (needs : List Need) (asked : List ℕ) (ts others : List (List ℕ)) → AreTargets needs asked ts → AreTargets needs asked others → (t : List ℕ) → Contains ts t → Contains others t
targets_within needs asked ts others are also t c = let found = are.only t c in subst (Contains others) found.3 (also.all found.0 found.1 found.2)

pub one_targets : OneTargets
one_targets needs asked = (
  (targets_for needs asked, targets_are needs asked),
  (λ ts others are also. same_ascending ts others are.up also.up (targets_within needs asked ts others are also) (targets_within needs asked others ts also are)),
)
