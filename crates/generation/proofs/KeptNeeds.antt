-- How lists are compared and copied item by item.
use Rattle.std.proofs.Common.{◌≡◌, ◌+◌, ◌<◌, ◌≤◌, ℕ, List, [], ◌∷◌, ◌++◌, zero, suc, length, take, Some, None, sym, ap, ◌∙◌, arith}
use Rattle.std.proofs.lemmas.List.{take_all}
use Rattle.std.specs.Prelude.{get_or, slice_get}

module _ {A : Type 0} where
  next_taken : (xs : List A) (place : ℕ) (x : A) → slice_get xs place ≡ Some x → take (suc place) xs ≡ take place xs ++ x ∷ []
  next_taken [] place x at = absurd (cc)
  next_taken (y ∷ xs) zero x at = (let same : y ≡ x = cc in ap (λ z. z ∷ []) same)
  next_taken (y ∷ xs) (suc place) x at = ap (λ zs. y ∷ zs) (next_taken xs place x at)

  -- the first ones with the next one
  pub one_more : (xs : List A) (place : ℕ) (x : A) → slice_get xs place ≡ Some x → take (place + 1) xs ≡ take place xs ++ x ∷ []
  one_more xs place x at =
      let next : place + 1 ≡ suc place = omega arith in ap (λ n. take n xs) next ∙ next_taken xs place x at

  pub none_left : (xs : List A) (place : ℕ) → slice_get xs place ≡ None → length xs ≤ place
  none_left [] place at = omega arith
  none_left (y ∷ xs) zero at = absurd (cc)
  none_left (y ∷ xs) (suc place) at = let past = none_left xs place at in omega (arith, past)

  -- one that is copied
  pub one_copied : (xs copies after : List A) (place : ℕ) (x : A) → slice_get xs place ≡ Some x → copies ≡ take place xs → after ≡ copies ++ x ∷ [] → after ≡ take (place + 1) xs
  one_copied xs copies after place x at done pushed = pushed ∙ (ap (λ front. front ++ x ∷ []) done ∙ sym (one_more xs place x at))

  pub all_copied : (xs copies : List A) (place : ℕ) → length xs ≤ place → copies ≡ take place xs → copies ≡ xs
  all_copied xs copies place past done = done ∙ take_all place xs past

  -- one that is the same in both
  pub one_same : (xs ys : List A) (place : ℕ) (x : A) → slice_get xs place ≡ Some x → slice_get ys place ≡ Some x → take place xs ≡ take place ys → take (place + 1) xs ≡ take (place + 1) ys
  one_same xs ys place x at there same = one_more xs place x at ∙ (ap (λ front. front ++ x ∷ []) same ∙ sym (one_more ys place x there))

  pub all_same : (xs ys : List A) (place : ℕ) → length xs ≡ length ys → length xs ≤ place → take place xs ≡ take place ys → xs ≡ ys
  all_same xs ys place lengths past same = sym (take_all place xs past) ∙ (same ∙ take_all place ys (omega (arith, lengths, past)))

  pub got : (xs : List A) (place : ℕ) (x : A) → place < length xs → x ≡ get_or xs place x → slice_get xs place ≡ Some x
  got [] place x below is = absurd (omega (arith, below))
  got (y ∷ xs) zero x below is = ap Some (sym is)
  got (y ∷ xs) (suc place) x below is = got xs place x (omega (arith, below)) is
