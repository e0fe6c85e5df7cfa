-- The fields of an arena through each of its changes.
use Rattle.std.proofs.Common.{◌≡◌, ℕ, zero, suc, ◌+◌, ◌-◌, ◌^◌, ◌<◌, ◌≤◌, List, [], ◌∷◌, ◌++◌, length, get_or, slice_set, replicate, Option, Some, None, sym, ap, ◌∙◌, subst, arith}
use Rattle.std.proofs.lemmas.List.{append_assoc}
use Rattle.slot_arena.specs.Slots.{Place, place, place_at}
use Rattle.slot_arena.specs.Kept.{down_to, IsKept, paired}
use Rattle.slot_arena.proofs.Paired.{place_at-paired, paired-set, paired-put, paired-grown, length-paired}
use Rattle.slot_arena.proofs.KeptLemmas.{popped, kept-placed, kept-written, kept-freed, kept-retired, kept-grown}

-- what the fields have of the place that comes off the list of free ones
pub record IsNextPlace {X : Type 0} (vs : List (Option X)) (ns : List ℕ) (i : ℕ) : Type 0 where
  pub has_value : i < length vs
  pub has_next : i < length ns
  pub empty : get_or vs i None ≡ None
  pub unspent : get_or ns i 0 < 2 ^ 32

module _ {X : Type 0} (vs : List (Option X)) (ns : List ℕ) (long : length ns ≡ length vs) where
  next_at : (i : ℕ) → (place_at (paired vs ns) i).next ≡ get_or ns i 0
  next_at i = ap (λ (p : Place X). p.next) (place_at-paired vs ns long i)

  value_at_place : (i : ℕ) (v : Option X) → get_or vs i None ≡ v → (place_at (paired vs ns) i).value ≡ v
  value_at_place i v is = ap (λ (p : Place X). p.value) (place_at-paired vs ns long i) ∙ is

  put_path : (i : ℕ) (v : Option X) → slice_set (paired vs ns) i (place v (place_at (paired vs ns) i).next) ≡ paired (slice_set vs i v) ns
  put_path i v = ap (λ n. slice_set (paired vs ns) i (place v n)) (next_at i) ∙ sym (paired-put vs ns i v)

module _ {X : Type 0} (vs : List (Option X)) (ns : List ℕ) (long : length ns ≡ length vs) {counted room : ℕ} where
  pub next_place : (rest : List ℕ) (i : ℕ) → IsKept (paired vs ns) (rest ++ i ∷ []) counted room → IsNextPlace vs ns i
  next_place rest i k =
      let p = popped rest i k in let there = ap (λ (p : Place X). p.value) (place_at-paired vs ns long i) in
      record {
        has_value = omega (arith, p.within, length-paired vs ns long);
        has_next = omega (arith, p.within, length-paired vs ns long, long);
        empty = sym there ∙ p.empty;
        unspent = omega (arith, p.unspent, next_at vs ns long i);
      }

  pub fields-placed : (rest : List ℕ) (i : ℕ) (x : X) → IsKept (paired vs ns) (rest ++ i ∷ []) counted room
      → IsKept (paired (slice_set vs i (Some x)) (slice_set ns i (get_or ns i 0 + 1))) rest (counted + 1) room
  fields-placed rest i x k =
      subst (λ a. IsKept a rest (counted + 1) room)
      (ap (λ n. slice_set (paired vs ns) i (place (Some x) (n + 1))) (next_at vs ns long i) ∙ sym (paired-set vs ns i (Some x) (get_or ns i 0 + 1)))
      (kept-placed rest i x k)

  pub fields-written : (free : List ℕ) (i : ℕ) (x w : X) → get_or vs i None ≡ Some x → IsKept (paired vs ns) free counted room
      → IsKept (paired (slice_set vs i (Some w)) ns) free counted room
  fields-written free i x w is k =
      subst (λ a. IsKept a free counted room) (put_path vs ns long i (Some w)) (kept-written i x w (value_at_place vs ns long i (Some x) is) k)

  pub fields-freed : (free : List ℕ) (i : ℕ) (x : X) → get_or vs i None ≡ Some x → get_or ns i 0 < 2 ^ 32 → IsKept (paired vs ns) free counted room
      → IsKept (paired (slice_set vs i None) ns) (free ++ i ∷ []) (counted - 1) room
  fields-freed free i x is lt k =
      subst (λ a. IsKept a (free ++ i ∷ []) (counted - 1) room) (put_path vs ns long i None)
      (kept-freed i x (value_at_place vs ns long i (Some x) is) (omega (arith, lt, next_at vs ns long i)) k)

  pub fields-retired : (free : List ℕ) (i : ℕ) (x : X) → get_or vs i None ≡ Some x → 2 ^ 32 ≤ get_or ns i 0 → IsKept (paired vs ns) free counted room
      → IsKept (paired (slice_set vs i None) ns) free (counted - 1) room
  fields-retired free i x is le k =
      subst (λ a. IsKept a free (counted - 1) room) (put_path vs ns long i None)
      (kept-retired i x (value_at_place vs ns long i (Some x) is) (omega (arith, le, next_at vs ns long i)) k)

  pub fields-grown : (free : List ℕ) (m g more : ℕ) → g < 2 ^ 32 → length ns + m ≤ more → length ns + m < 2 ^ 32 → IsKept (paired vs ns) free counted room
      → IsKept (paired (vs ++ replicate m None) (ns ++ replicate m g)) (free ++ down_to (length ns) m) counted more
  fields-grown free m g more unspent fits small k =
      let same : length (paired vs ns) ≡ length ns = length-paired vs ns long ∙ sym long in
      subst (λ a. IsKept a (free ++ down_to (length ns) m) counted more) (sym (paired-grown vs ns m g long))
      (subst (λ n. IsKept (paired vs ns ++ replicate m (place None g)) (free ++ down_to n m) counted more) same
      (kept-grown m g more unspent (omega (arith, same, fits)) (omega (arith, same, small)) k))

pub replicate-step : (ns : List ℕ) (g n : ℕ) → 0 < n → (ns ++ g ∷ []) ++ replicate (n - 1) g ≡ ns ++ replicate n g
replicate-step ns g zero lt = absurd (omega (arith, lt))
replicate-step ns g (suc n) lt =
    let less : suc n - 1 ≡ n = omega arith in ap (λ k. (ns ++ g ∷ []) ++ replicate k g) less ∙ append_assoc ns (g ∷ []) (replicate n g)

pub down_to-step : (is : List ℕ) (from n : ℕ) → 0 < n → (is ++ (from + (n - 1)) ∷ []) ++ down_to from (n - 1) ≡ is ++ down_to from n
down_to-step is from zero lt = absurd (omega (arith, lt))
down_to-step is from (suc n) lt =
    let less : suc n - 1 ≡ n = omega arith in
    ap (λ k. (is ++ (from + k) ∷ []) ++ down_to from k) less ∙ append_assoc is ((from + n) ∷ []) (down_to from n)
