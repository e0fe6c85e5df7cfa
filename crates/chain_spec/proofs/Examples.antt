-- The worked examples, by computation.
use Rattle.std.proofs.Common.{◌≡◌, [], ◌∷◌, ℕ, zero, suc, Bool, true, false, List, Some, refl, subst, ap, ◌∙◌, sym}
use Rattle.std.specs.Prelude.{slice_get, nat_eq, not, ◌&&◌, ◌||◌}
use Prim.Native.String.{String}
use Rattle.std.specs.List.{list_any, list_all}
use Rattle.std.proofs.lemmas.Bool.{and_parts, eqb-true}
use Rattle.chain_spec.specs.Chains.{Asker, by_page, by_module}
use Rattle.chain_spec.specs.Laws.{IsTried}
use Rattle.chain_spec.specs.Trying.{shortest_within}
use Rattle.chain_spec.specs.WorkedExamples.{Site, targets_of, is_at, Chained, Unreached, WorkedExamples}
use Rattle.chain_spec.proofs.ChainLaws.{tried_is_shortest, none_among}

chained : (site : Site) (path : String) (numbers : List ℕ) (most : ℕ)
    → shortest_within (targets_of site) (is_at site path) most ≡ Some numbers → Chained site path numbers
chained site path numbers most e = record {
  is = subst (IsTried (targets_of site) (is_at site path) most) e (tried_is_shortest (targets_of site) (is_at site path) most);
}

-- ---- modules among which everything stays

module _ (site : Site) (path : String) (among : List ℕ) where
  abbrev is_one : ℕ → Bool
  is_one m = list_any (λ other. nat_eq m other) among

  abbrev is_among : Asker ℕ → Bool
  is_among by_page = true
  is_among (by_module m) = is_one m

  abbrev stays : Asker ℕ → Bool
  stays asker = not (is_at site path asker) && list_all is_one (targets_of site asker)

  abbrev all_stay : Bool
  all_stay = stays by_page && list_all (λ m. stays (by_module m)) among

  all_at : (test : ℕ → Bool) (xs : List ℕ) (number m : ℕ) → list_all test xs ≡ true → slice_get xs number ≡ Some m
      → test m ≡ true
  all_at test [] number m e f = absurd (cc)
  all_at test (x ∷ xs) zero m e f =
      let same : x ≡ m = cc in ap test (sym same) ∙ (and_parts (test x) (list_all test xs) e).0
  all_at test (x ∷ xs) (suc number) m e f = all_at test xs number m (and_parts (test x) (list_all test xs) e).1 f

  in_all : (test : ℕ → Bool) (m : ℕ) (xs : List ℕ) → list_any (λ other. nat_eq m other) xs ≡ true → list_all test xs ≡ true
      → test m ≡ true
  in_all test m [] e f = absurd (cc)
  in_all test m (x ∷ xs) e f =
      by (nat_eq m x) refl e (λ g. in_all test m xs g (and_parts (test x) (list_all test xs) f).1)
    where
      by : (b : Bool) → nat_eq m x ≡ b → (b || list_any (λ other. nat_eq m other) xs) ≡ true
          → (list_any (λ other. nat_eq m other) xs ≡ true → test m ≡ true) → test m ≡ true
      by true here g rest = ap test (eqb-true m x here) ∙ (and_parts (test x) (list_all test xs) f).0
      by false here g rest = rest g

  all_among : all_stay ≡ true → (asker : Asker ℕ) → is_among asker ≡ true → stays asker ≡ true
  all_among e by_page f = (and_parts (stays by_page) (list_all (λ m. stays (by_module m)) among) e).0
  all_among e (by_module m) f =
      in_all (λ n. stays (by_module n)) m among f (and_parts (stays by_page) (list_all (λ n. stays (by_module n)) among) e).1

  not_wanted : (b : Bool) → not b ≡ true → b ≡ false
  not_wanted true e = sym e
  not_wanted false e = refl

  parts : (asker : Asker ℕ) → stays asker ≡ true
      → (not (is_at site path asker) ≡ true) × (list_all is_one (targets_of site asker) ≡ true)
  parts asker e = and_parts (not (is_at site path asker)) (list_all is_one (targets_of site asker)) e

  unreached : all_stay ≡ true → Unreached site path
  unreached e = record {
    is = none_among (targets_of site) (is_at site path) is_among refl
        (λ from number m f g. all_at is_one (targets_of site from) number m (parts from (all_among e from f)).1 g)
        (λ asker f. not_wanted (is_at site path asker) (parts asker (all_among e asker f)).0);
  }

pub worked_examples : WorkedExamples
worked_examples = record {
  inner = chained _ _ _ 3 refl;
  other_file = unreached _ _ (0 ∷ 1 ∷ 2 ∷ 3 ∷ 4 ∷ []) refl;
  page = chained _ _ _ 0 refl;
  entry = chained _ _ _ 1 refl;
  last_request = chained _ _ _ 2 refl;
  least_of_two = chained _ _ _ 3 refl;
  second_side = chained _ _ _ 2 refl;
  shorter_first = chained _ _ _ 2 refl;
  by_first_entry = chained _ _ _ 2 refl;
  either_suffix = chained _ _ _ 2 refl;
  without_suffix = unreached _ _ (0 ∷ 1 ∷ 2 ∷ 3 ∷ []) refl;
  round = chained _ _ _ 3 refl;
  not_round = chained _ _ _ 1 refl;
  nobody_asks = unreached _ _ (0 ∷ 1 ∷ 2 ∷ []) refl;
  asked_twice = chained _ _ _ 2 refl;
  entry_twice = chained _ _ _ 1 refl;
  second_entry = chained _ _ _ 1 refl;
  third_entry = chained _ _ _ 1 refl;
  of_two_entries = chained _ _ _ 2 refl;
  page_before_module = chained _ _ _ 0 refl;
  no_entry = unreached _ _ [] refl;
}
