-- The order among the keys that match one text.
use Rattle.std.proofs.Common.{refl, sym, ap, ◌∙◌, arith}
use Rattle.std.proofs.lemmas.Bool.{cases_order}
use Rattle.std.specs.Prelude.{◌≡◌, ◌-◌, ℕ, List, ◌∷◌, ◌++◌, length, ◌<◌, ◌⊎◌}
use mathlib.Core.Logic.{inl, inr}
use Rattle.node_spec.proofs.PatternParts.{same_fronts, same_pattern, no_pattern, pattern_length, part_of_match, part_length}
use Rattle.node_spec.specs.Laws.{KeysAreInOrder}
use Rattle.node_spec.specs.PatternKeys.{KeyMatch, PatternMatch, Matches, Precedes, GoesBefore, Itself}
use Rattle.node_spec.specs.PatternKeys.Matches.{by_itself, by_pattern}
use Rattle.node_spec.specs.PatternKeys.Precedes.{without_star, by_longer_base, by_longer_key}

module _ (asked key other : List ℕ) where
  pub precedes_before : (found also : KeyMatch) → Matches asked key found → Matches asked other also → Precedes key other → GoesBefore found also
  precedes_before found also (by_itself e n) (by_itself f o) (without_star b t n2 p) = absurd (no_pattern other b t p o)
  precedes_before found also (by_itself e n) (by_itself f o) (by_longer_base b t ob ot p q l) = absurd (no_pattern key b t p n)
  precedes_before found also (by_itself e n) (by_itself f o) (by_longer_key b t ob ot p q s l) = absurd (no_pattern key b t p n)
  precedes_before found also (by_itself e n) (by_pattern ob ot q g) c = tt
  precedes_before found also (by_pattern b t p f) (by_itself e n) (without_star b2 t2 o q) = absurd (no_pattern other b2 t2 q n)
  precedes_before found also (by_pattern b t p f) (by_itself e n) (by_longer_base b2 t2 ob ot p2 q l) = absurd (no_pattern other ob ot q n)
  precedes_before found also (by_pattern b t p f) (by_itself e n) (by_longer_key b2 t2 ob ot p2 q s l) = absurd (no_pattern other ob ot q n)
  precedes_before found also (by_pattern b t p f) (by_pattern ob ot q g) (without_star b2 t2 n q2) = absurd (no_pattern key b t p n)
  precedes_before found also (by_pattern b t p f) (by_pattern ob ot q g) (by_longer_base b2 t2 ob2 ot2 p2 q2 l) =
      let x : length b ≡ length b2 = ap length (same_pattern key b t b2 t2 p p2).0 in
      let y : length ob ≡ length ob2 = ap length (same_pattern other ob ot ob2 ot2 q q2).0 in
      inl (omega arith)
  precedes_before found also (by_pattern b t p f) (by_pattern ob ot q g) (by_longer_key b2 t2 ob2 ot2 p2 q2 s l) =
      let x : length b ≡ length b2 = ap length (same_pattern key b t b2 t2 p p2).0 in
      let y : length ob ≡ length ob2 = ap length (same_pattern other ob ot ob2 ot2 q q2).0 in
      let k = pattern_length key b t p in
      let o = pattern_length other ob ot q in
      let u = part_length asked b t (part_of_match asked key b t p f) in
      let w = part_length asked ob ot (part_of_match asked other ob ot q g) in
      inr (omega arith, omega arith)

  pub before_precedes : (found also : KeyMatch) → Matches asked key found → Matches asked other also → GoesBefore found also → Precedes key other
  before_precedes found also (by_itself e n) (by_itself f o) c = absurd c
  before_precedes found also (by_itself e n) (by_pattern ob ot q g) c = without_star ob ot n q
  before_precedes found also (by_pattern b t p f) (by_itself e n) c = absurd c
  before_precedes found also (by_pattern b t p f) (by_pattern ob ot q g) (inl l) = by_longer_base b t ob ot p q l
  before_precedes found also (by_pattern b t p f) (by_pattern ob ot q g) (inr l) =
      let k = pattern_length key b t p in
      let o = pattern_length other ob ot q in
      let u = part_length asked b t (part_of_match asked key b t p f) in
      let w = part_length asked ob ot (part_of_match asked other ob ot q g) in
      by_longer_key b t ob ot p q (sym l.0) (omega arith)

  -- two keys that match alike are one key
  pub same_key : (found also : KeyMatch) → Matches asked key found → Matches asked other also → found ≡ also → key ≡ other
  same_key found also (by_itself e n) (by_itself f o) s = e ∙ sym f
  same_key found also (by_itself e n) (by_pattern ob ot q g) s = cc
  same_key found also (by_pattern b t p f) (by_itself e n) s = cc
  same_key found also (by_pattern b t p f) (by_pattern ob ot q g) s =
      let x = part_of_match asked key b t p f in
      let y = part_of_match asked other ob ot q g in
      let u = part_length asked b t x in
      let w = part_length asked ob ot y in
      let sb : length b ≡ length ob = cc in
      let st : length asked - length t ≡ length asked - length ot = cc in
      let r = same_fronts b (x.part ++ t) ob (y.part ++ ot) (sym x.stands ∙ y.stands) sb in
      let r2 = same_fronts x.part t y.part ot r.1 (omega arith) in
      p.parts ∙ (ap (λ front. front ++ 42 ∷ t) r.0 ∙ (ap (λ end. ob ++ 42 ∷ end) r2.1 ∙ sym q.parts))

  pub one_match : (found also : KeyMatch) → Matches asked key found → Matches asked key also → found ≡ also
  one_match found also (by_itself e n) (by_itself f o) = refl
  one_match found also (by_itself e n) (by_pattern ob ot q g) = absurd (no_pattern key ob ot q n)
  one_match found also (by_pattern b t p f) (by_itself e n) = absurd (no_pattern key b t p n)
  one_match found also (by_pattern b t p f) (by_pattern ob ot q g) =
      let s = same_pattern key b t ob ot p q in
      ap (λ base. PatternMatch (length base) (length asked - length t)) s.0 ∙ ap (λ trailer. PatternMatch (length ob) (length asked - length trailer)) s.1

pub before_or_same : (found also : KeyMatch) → (found ≡ also) ⊎ (GoesBefore found also ⊎ GoesBefore also found)
before_or_same Itself Itself = inl refl
before_or_same Itself (PatternMatch from to) = inr (inl tt)
before_or_same (PatternMatch from to) Itself = inr (inr tt)
before_or_same (PatternMatch from to) (PatternMatch other_from other_to) = by_from (cases_order from other_from)
  where
    by_to : from ≡ other_from → ((to ≡ other_to) ⊎ ((to < other_to) ⊎ (other_to < to))) → (PatternMatch from to ≡ PatternMatch other_from other_to) ⊎ (GoesBefore (PatternMatch from to) (PatternMatch other_from other_to) ⊎ GoesBefore (PatternMatch other_from other_to) (PatternMatch from to))
    by_to e (inl s) = inl cc
    by_to e (inr (inl l)) = inr (inl (inr (e, l)))
    by_to e (inr (inr l)) = inr (inr (inr (sym e, l)))

    by_from : ((from ≡ other_from) ⊎ ((from < other_from) ⊎ (other_from < from))) → (PatternMatch from to ≡ PatternMatch other_from other_to) ⊎ (GoesBefore (PatternMatch from to) (PatternMatch other_from other_to) ⊎ GoesBefore (PatternMatch other_from other_to) (PatternMatch from to))
    by_from (inl e) = by_to e (cases_order to other_to)
    by_from (inr (inl l)) = inr (inr (inl l))
    by_from (inr (inr l)) = inr (inl (inl l))

pub before_through : (a b c : KeyMatch) → GoesBefore a b → GoesBefore b c → GoesBefore a c
before_through Itself b (PatternMatch h j) x y = tt
before_through Itself Itself Itself x y = absurd x
before_through Itself (PatternMatch d e) Itself x y = absurd y
before_through (PatternMatch f t) Itself c x y = absurd x
before_through (PatternMatch f t) (PatternMatch d e) Itself x y = absurd y
before_through (PatternMatch f t) (PatternMatch d e) (PatternMatch h j) (inl x) (inl y) = inl (omega arith)
before_through (PatternMatch f t) (PatternMatch d e) (PatternMatch h j) (inl x) (inr y) = inl (omega arith)
before_through (PatternMatch f t) (PatternMatch d e) (PatternMatch h j) (inr x) (inl y) = inl (omega arith)
before_through (PatternMatch f t) (PatternMatch d e) (PatternMatch h j) (inr x) (inr y) = inr (omega arith, omega arith)

pub never_before_itself : (a : KeyMatch) → GoesBefore a a → ⊥
never_before_itself Itself x = x
never_before_itself (PatternMatch f t) (inl x) = omega arith
never_before_itself (PatternMatch f t) (inr x) = omega arith

total_order : (asked key other : List ℕ) (found also : KeyMatch) → Matches asked key found → Matches asked other also → (found ≡ also) ⊎ (GoesBefore found also ⊎ GoesBefore also found) → (key ≡ other) ⊎ (Precedes key other ⊎ Precedes other key)
total_order asked key other found also m n (inl e) = inl (same_key asked key other found also m n e)
total_order asked key other found also m n (inr (inl b)) = inr (inl (before_precedes asked key other found also m n b))
total_order asked key other found also m n (inr (inr b)) = inr (inr (before_precedes asked other key also found n m b))

pub keys_are_in_order : KeysAreInOrder
keys_are_in_order = record {
  total = λ asked key other found also m n. total_order asked key other found also m n (before_or_same found also);
  through = λ asked key middle other found between also m b n p q.
      before_precedes asked key other found also m n
      (before_through found between also (precedes_before asked key middle found between m b p) (precedes_before asked middle other between also b n q));
  never_itself = λ asked key found m p. never_before_itself found (precedes_before asked key key found found m m p);
}
