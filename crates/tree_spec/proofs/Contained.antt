-- What a list contains, by its first element, and the same of paths that are seen.
use Rattle.std.proofs.Common.{refl, arith, subst, ap, ◌∙◌, inl, inr}
use Rattle.std.proofs.lemmas.Bool.{or_right}
use Rattle.std.proofs.lemmas.List.Elements.{All-nil, All-cons}
use Rattle.std.proofs.lemmas.Slice.Eq.{bytes_eq-Decides}
use Rattle.std.specs.Bool.{Decides}
use Rattle.std.specs.Prelude.{◌≡◌, ℕ, zero, suc, ◌<◌, ◌⊎◌, List, [], ◌∷◌, length, slice_index_or, Contains, Bool, true, false, ◌||◌, bytes_eq, All}
use Rattle.tree_spec.proofs.FootprintSets.{footprint_is_set}
use Rattle.tree_spec.specs.LookAskings.{Sights, LookAsking, looks, footprint, is_seen}

module _ {A : Type 0} where
  pub contains_here : (x : A) (xs : List A) → Contains (x ∷ xs) x
  contains_here x xs = (0, omega arith, refl)

  pub contains_there : (x y : A) (xs : List A) → Contains xs x → Contains (y ∷ xs) x
  contains_there x y xs c = (suc c.0, (let below = c.1 in omega arith), c.2)

  cases_at : (x y : A) (xs : List A) (k : ℕ) → k < length (y ∷ xs) → slice_index_or (y ∷ xs) k x ≡ x → (y ≡ x) ⊎ Contains xs x
  cases_at x y xs zero below e = inl e
  cases_at x y xs (suc k) below e = inr (k, omega arith, e)

  pub contains_cases : (x y : A) (xs : List A) → Contains (y ∷ xs) x → (y ≡ x) ⊎ Contains xs x
  contains_cases x y xs c = cases_at x y xs c.0 c.1 c.2

  pub contains_none : (x : A) → Contains [] x → ⊥
  contains_none x c = let below = c.1 in absurd (omega arith)

  pub all_contained : (P : A → Type 0) (xs : List A) → ((x : A) → Contains xs x → P x) → All P xs
  all_contained P [] each = All-nil P
  all_contained P (x ∷ xs) each =
      All-cons P x xs (each x (contains_here x xs)) (all_contained P xs (λ y held. each y (contains_there y x xs held)))

-- ---- paths that are seen

seen_by : (path first : List ℕ) (more : List (List ℕ)) (b : Bool) → Decides b (first ≡ path)
    → (b || is_seen path more) ≡ true → (is_seen path more ≡ true → Contains more path) → Contains (first ∷ more) path
seen_by path first more true d held rest = subst (λ p. Contains (first ∷ more) p) (d.0 refl) (contains_here first more)
seen_by path first more false d held rest = contains_there path first more (rest held)

pub contains_seen : (path : List ℕ) (paths : List (List ℕ)) → is_seen path paths ≡ true → Contains paths path
contains_seen path [] held = absurd (cc)
contains_seen path (first ∷ more) held =
    seen_by path first more (bytes_eq first path) (bytes_eq-Decides first path) held (contains_seen path more)

pub seen_contained : (path : List ℕ) (paths : List (List ℕ)) → Contains paths path → is_seen path paths ≡ true
seen_contained path [] held = absurd (contains_none path held)
seen_contained path (first ∷ more) held =
    elim (contains_cases path first more held) [
      | inl same ↦ ap (λ b. b || is_seen path more) ((bytes_eq-Decides first path).1 same)
      | inr later ↦ or_right (bytes_eq first path) (is_seen path more) (seen_contained path more later)
    ]

-- a footprint has each path that is looked at
pub footprint_contains : {X : Type 0} (sights : Sights) (asking : LookAsking X) (path : List ℕ)
    → Contains (looks sights asking) path → Contains (footprint sights asking) path
footprint_contains sights asking path held =
    contains_seen path (footprint sights asking)
    ((footprint_is_set sights asking).same_paths path ∙ seen_contained path (looks sights asking) held)
