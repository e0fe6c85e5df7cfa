-- Where chains lead.
use Rattle.std.proofs.Common.{◌≡◌, ◌++◌, [], ◌∷◌, ℕ, Bool, true, List, Option, Some, None, refl, ap, ◌∙◌, subst}
use Rattle.std.specs.Prelude.{slice_get}
use Rattle.chain_spec.specs.Chains.{Asker, by_page, by_module, Targets, then_on, end_of, IsReached, page, asks}

module _ {M : Type 0} (targets : Targets M) where
  -- one request more
  pub one_more : (from : Asker M) (numbers : List ℕ) (number : ℕ) (middle : Asker M) (m : M)
      → end_of targets from numbers ≡ Some middle → slice_get (targets middle) number ≡ Some m
      → end_of targets from (numbers ++ number ∷ []) ≡ Some (by_module m)
  one_more from [] number middle m e f =
      let same : from ≡ middle = cc in
      ap (λ found. then_on found (λ n. Some (by_module n))) (ap (λ asker. slice_get (targets asker) number) same ∙ f)
  one_more from (first ∷ numbers) number middle m e f = by_first (slice_get (targets from) first) e
      (λ n g. one_more (by_module n) numbers number middle m g f)
    where
      by_first : (found : Option M)
          → then_on found (λ n. end_of targets (by_module n) numbers) ≡ Some middle
          → ((n : M) → end_of targets (by_module n) numbers ≡ Some middle
          → end_of targets (by_module n) (numbers ++ number ∷ []) ≡ Some (by_module m))
          → then_on found (λ n. end_of targets (by_module n) (numbers ++ number ∷ [])) ≡ Some (by_module m)
      by_first None g rest = absurd (cc)
      by_first (Some n) g rest = rest n g

  -- what a request leads to, and then the others
  pub record Goes (from : Asker M) (number : ℕ) (more : List ℕ) (last : Asker M) : Type 0 where
    pub m : M
    pub there : slice_get (targets from) number ≡ Some m
    pub on : end_of targets (by_module m) more ≡ Some last

  pub goes : (from : Asker M) (number : ℕ) (more : List ℕ) (last : Asker M) → end_of targets from (number ∷ more) ≡ Some last
      → Goes from number more last
  goes from number more last e = by_found (slice_get (targets from) number) refl e
    where
      by_found : (found : Option M) → slice_get (targets from) number ≡ found
          → then_on found (λ m. end_of targets (by_module m) more) ≡ Some last → Goes from number more last
      by_found None f g = absurd (cc)
      by_found (Some m) f g = record { m = m; there = f; on = g }

  pub goes_on : (from : Asker M) (number : ℕ) (more : List ℕ) (m : M) (end : Option (Asker M))
      → slice_get (targets from) number ≡ Some m → end_of targets (by_module m) more ≡ end
      → end_of targets from (number ∷ more) ≡ end
  goes_on from number more m end e f = ap (λ found. then_on found (λ n. end_of targets (by_module n) more)) e ∙ f

  pub reached_from : (from : Asker M) (numbers : List ℕ) (last : Asker M) → IsReached targets from
      → end_of targets from numbers ≡ Some last → IsReached targets last
  reached_from from [] last reached e = let same : from ≡ last = cc in subst (IsReached targets) same reached
  reached_from from (number ∷ more) last reached e =
      let way = goes from number more last e in
      reached_from (by_module way.m) more last (asks from number way.m reached way.there) way.on

  pub record ChainTo (asker : Asker M) : Type 0 where
    pub numbers : List ℕ
    pub leads : end_of targets by_page numbers ≡ Some asker

  pub chain_to : (asker : Asker M) → IsReached targets asker → ChainTo asker
  chain_to _ page = record { numbers = []; leads = refl }
  chain_to _ (asks from number m reached e) =
      let before = chain_to from reached in
      record {
        numbers = before.numbers ++ number ∷ [];
        leads = one_more by_page before.numbers number from m before.leads e;
      }

  -- all that is reached stands among those that hold what they ask for
  pub among : (is_among : Asker M → Bool) → is_among by_page ≡ true
      → ((from : Asker M) (number : ℕ) (m : M) → is_among from ≡ true → slice_get (targets from) number ≡ Some m
      → is_among (by_module m) ≡ true)
      → (asker : Asker M) → IsReached targets asker → is_among asker ≡ true
  among is_among first on _ page = first
  among is_among first on _ (asks from number m reached e) = on from number m (among is_among first on from reached) e
