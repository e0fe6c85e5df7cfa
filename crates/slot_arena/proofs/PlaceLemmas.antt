-- Places and their numbers, one place set or many made.
use Rattle.std.proofs.Common.{◌≡◌, ℕ, zero, suc, ◌+◌, ◌^◌, ◌<◌, ◌≤◌, List, [], ◌∷◌, ◌++◌, length, get_or, slice_set, replicate, Option, Some, None, refl, arith}
use Rattle.std.proofs.lemmas.Grind.{common_steps}
use Rattle.slot_arena.specs.Slots.{Place, place, place_at}
use Rattle.slot_arena.specs.Counts.{vacancy_of, vacancy, fullness_of, fullness, spare, live}

pub vacancy_of-small : (X : Type 0) (n : ℕ) → n < 2 ^ 32 → vacancy_of {X = X} None n ≡ 1
vacancy_of-small X n lt = grind (arith, common_steps)

pub vacancy_of-spent : (X : Type 0) (n : ℕ) → 2 ^ 32 ≤ n → vacancy_of {X = X} None n ≡ 0
vacancy_of-spent X n le = grind (arith, common_steps)

pub get_or-any : {A : Type 0} (xs : List A) (i : ℕ) (d e : A) → i < length xs → get_or xs i d ≡ get_or xs i e
get_or-any [] i d e lt = absurd (omega arith)
get_or-any (x ∷ xs) zero d e lt = refl
get_or-any (x ∷ xs) (suc i) d e lt = get_or-any xs i d e (omega arith)

module _ {X : Type 0} where
  pub vacancy_of-one : (v : Option X) (n : ℕ) → vacancy_of v n ≤ 1
  vacancy_of-one None n = grind (arith, common_steps)
  vacancy_of-one (Some x) n = omega arith

  pub vacancy_of-tells : (v : Option X) (n : ℕ) → 0 < vacancy_of v n → (v ≡ None) × (n < 2 ^ 32)
  vacancy_of-tells None n lt = (refl, grind (arith, common_steps))
  vacancy_of-tells (Some x) n lt = absurd (omega arith)

  one_or_none : (v : Option X) (n : ℕ) → vacancy_of v n + fullness_of v ≤ 1
  one_or_none None n = let o : Option X = None in omega (arith, vacancy_of-one o n)
  one_or_none (Some x) n = omega arith

  pub spare-set : (a : List (Place X)) (i : ℕ) (p : Place X) → i < length a → spare (slice_set a i p) + vacancy (place_at a i) ≡ spare a + vacancy p
  spare-set [] i p lt = absurd (omega arith)
  spare-set (q ∷ qs) zero p lt = omega arith
  spare-set (q ∷ qs) (suc i) p lt = omega (arith, spare-set qs i p (omega arith))

  pub live-set : (a : List (Place X)) (i : ℕ) (p : Place X) → i < length a → live (slice_set a i p) + fullness (place_at a i) ≡ live a + fullness p
  live-set [] i p lt = absurd (omega arith)
  live-set (q ∷ qs) zero p lt = omega arith
  live-set (q ∷ qs) (suc i) p lt = omega (arith, live-set qs i p (omega arith))

  pub spare_live-le : (a : List (Place X)) → spare a + live a ≤ length a
  spare_live-le [] = omega arith
  spare_live-le (p ∷ ps) = omega (arith, spare_live-le ps, one_or_none p.value p.next)

  pub live-some : (a : List (Place X)) (i : ℕ) → i < length a → fullness (place_at a i) ≤ live a
  live-some [] i lt = absurd (omega arith)
  live-some (p ∷ ps) zero lt = omega arith
  live-some (p ∷ ps) (suc i) lt = omega (arith, live-some ps i (omega arith))

  pub spare-grown : (a : List (Place X)) (m g : ℕ) → g < 2 ^ 32 → spare (a ++ replicate m (place None g)) ≡ spare a + m
  spare-grown [] zero g lt = refl
  spare-grown [] (suc m) g lt = omega (arith, spare-grown [] m g lt, vacancy_of-small X g lt)
  spare-grown (p ∷ ps) m g lt = omega (arith, spare-grown ps m g lt)

  pub live-grown : (a : List (Place X)) (m g : ℕ) → live (a ++ replicate m (place None g)) ≡ live a
  live-grown [] zero g = refl
  live-grown [] (suc m) g = omega (arith, live-grown [] m g)
  live-grown (p ∷ ps) m g = omega (arith, live-grown ps m g)
