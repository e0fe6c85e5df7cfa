-- What the function comes to the search comes to, and so the worked examples, by computation.
use Rattle.std.proofs.Common.{◌≡◌, ◌<◌, ◌+◌, ◌++◌, [], ◌∷◌, ℕ, zero, suc, Bool, true, false, List, Option, Some, None, refl, sym, ap, ◌∙◌, subst, arith}
use Rattle.std.specs.Prelude.{slice_get, nat_eq}
use Rattle.std.proofs.lemmas.Bool.{cond_both, true≢false}
use Prim.Native.String.{String}
use Rattle.chain_spec.specs.Chains.{Targets}
use Rattle.chain_spec.specs.WorkedExamples.{Site, targets_of, is_at}
use Rattle.chain_search.specs.Laws.{the_start, is_goal}
use Rattle.chain_search.specs.PlainSearch.{first_goal, ended_by, search, ComesTo, SearchExamples}
use Rattle.chain_search.specs.Searches.{Place, fresh, FirstGoal, NoGoal, Searched, ends, hits, goes}

module _ {M : Type 0} (targets : Targets M) (is_same : M → M → Bool) (is_one : M → Bool) where
  record FirstFrom (start : ℕ) (modules : List M) (number : ℕ) : Type 0 where
    offset : ℕ
    is : number ≡ start + offset
    first : FirstGoal is_one modules offset

  abbrev IsFirst : ℕ → List M → Option ℕ → Type 0
  IsFirst start modules None = NoGoal is_one modules
  IsFirst start modules (Some number) = FirstFrom start modules number

  none_of : (m : M) (modules : List M) → is_one m ≡ false → NoGoal is_one modules → NoGoal is_one (m ∷ modules)
  none_of m modules here none zero n e = let same : m ≡ n = cc in ap is_one (sym same) ∙ here
  none_of m modules here none (suc number) n e = none number n e

  none_before : (m : M) (modules : List M) (number : ℕ) → is_one m ≡ false → FirstGoal is_one modules number
      → (other : ℕ) (n : M) → slice_get (m ∷ modules) other ≡ Some n → is_one n ≡ true → other < suc number → ⊥
  none_before m modules number here first zero n e wanted less =
      let same : m ≡ n = cc in absurd (true≢false (sym wanted ∙ (ap is_one (sym same) ∙ here)))
  none_before m modules number here first (suc other) n e wanted less =
      first.first other n e wanted (omega (arith, less))

  behind : (start : ℕ) (m : M) (modules : List M) (out : Option ℕ) → is_one m ≡ false → IsFirst (suc start) modules out
      → IsFirst start (m ∷ modules) out
  behind start m modules None here none = none_of m modules here none
  behind start m modules (Some number) here found =
      let is = found.is in
      record {
        offset = suc found.offset;
        is = omega (arith, is);
        first = record {
          goal = found.first.goal;
          there = found.first.there;
          is = found.first.is;
          first = none_before m modules found.offset here found.first;
        };
      }

  first_is : (start : ℕ) (modules : List M) → IsFirst start modules (first_goal is_one start modules)
  first_is start [] = λ number m e. absurd (cc)
  first_is start (m ∷ modules) =
      cond_both (is_one m) (Some start) (first_goal is_one (suc start) modules) (IsFirst start (m ∷ modules))
      (λ here. record {
        offset = 0;
        is = omega arith;
        first = record { goal = m; there = refl; is = here; first = λ other n e wanted less. absurd (omega (arith, less)) };
      })
      (λ other. behind start m modules (first_goal is_one (suc start) modules) other (first_is (suc start) modules))

  stepped : (done rest : List (Place M)) (place : Place M) (first : Option ℕ) (on : Option (Option (List ℕ)))
      → (out : Option (List ℕ)) → IsFirst 0 (targets place.at) first
      → (on ≡ Some out → Searched targets is_same is_one (done ++ place ∷ [])
      (rest ++ fresh is_same (done ++ place ∷ rest) place.back 0 (targets place.at)) out)
      → ended_by place.back first on ≡ Some out → Searched targets is_same is_one done (place ∷ rest) out
  stepped done rest place None on out none further e = goes done rest place out none (further e)
  stepped done rest place (Some number) on out found further e =
      let came : Some (number ∷ place.back) ≡ out = cc in
      let is = found.is in
      let itself : found.offset ≡ number = omega (arith, is) in
      subst (Searched targets is_same is_one done (place ∷ rest)) came
      (hits done rest place number (subst (FirstGoal is_one (targets place.at)) itself found.first))

  pub searched : (most : ℕ) (done rest : List (Place M)) (out : Option (List ℕ))
      → search targets is_same is_one most done rest ≡ Some out → Searched targets is_same is_one done rest out
  searched zero done rest out e = absurd (cc)
  searched (suc most) done [] out e =
      let came : None ≡ out = cc in subst (Searched targets is_same is_one done []) came (ends done)
  searched (suc most) done (place ∷ rest) out e =
      stepped done rest place (first_goal is_one 0 (targets place.at))
      (search targets is_same is_one most (done ++ place ∷ [])
      (rest ++ fresh is_same (done ++ place ∷ rest) place.back 0 (targets place.at)))
      out (first_is 0 (targets place.at))
      (searched most (done ++ place ∷ []) (rest ++ fresh is_same (done ++ place ∷ rest) place.back 0 (targets place.at)) out)
      e

comes_to : (site : Site) (path : String) (out : Option (List ℕ)) (most : ℕ)
    → search (targets_of site) nat_eq (is_goal (is_at site path)) most [] the_start ≡ Some out → ComesTo site path out
comes_to site path out most e = record {
  is = searched (targets_of site) nat_eq (is_goal (is_at site path)) most [] the_start out e;
}

pub search_examples : SearchExamples
search_examples = record {
  inner = comes_to _ _ _ 9 refl;
  other_file = comes_to _ _ _ 9 refl;
  last_request = comes_to _ _ _ 9 refl;
  least_of_two = comes_to _ _ _ 9 refl;
  shorter_first = comes_to _ _ _ 9 refl;
  round = comes_to _ _ _ 9 refl;
  nobody_asks = comes_to _ _ _ 9 refl;
  asked_twice = comes_to _ _ _ 9 refl;
}
