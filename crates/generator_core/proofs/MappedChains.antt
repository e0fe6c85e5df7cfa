-- Chains of two graphs, of which one is the other seen through a map of its modules.
use Rattle.std.proofs.Common.{◌≡◌, ℕ, Bool, List, [], ◌∷◌, Option, Some, None, map, refl, sym, ap, ◌∙◌, subst}
use Rattle.std.specs.Prelude.{◌↔◌, ⊤, option_map, slice_get}
use Rattle.std.proofs.lemmas.Option.{slice_get-map}
use Rattle.chain_spec.specs.Chains.{Asker, by_page, by_module, Targets, then_on, end_of, IsChain, IsShortest}

module _ {M N : Type 0} (f : M → N) where
  abbrev pub lift : Asker M → Asker N
  lift by_page = by_page
  lift (by_module m) = by_module (f m)

  abbrev pub AllOf : (M → Type 0) → Asker M → Type 0
  AllOf Good by_page = ⊤
  AllOf Good (by_module m) = Good m

-- where an asker is good, the map leads its targets to those of what it is mapped to; they are good, and an asker is
-- wanted where what it is mapped to is
pub record AreMapped {M N : Type 0} (f : M → N) (Good : M → Type 0) (targets : Targets M) (others : Targets N)
    (is_wanted : Asker M → Bool) (is_other : Asker N → Bool) : Type 0 where
  pub commute : (a : Asker M) → AllOf f Good a → map f (targets a) ≡ others (lift f a)
  pub stay : (a : Asker M) (number : ℕ) (m : M) → AllOf f Good a → slice_get (targets a) number ≡ Some m → Good m
  pub wanted : (a : Asker M) → AllOf f Good a → is_wanted a ≡ is_other (lift f a)

module _ {M N : Type 0} (f : M → N) (Good : M → Type 0) (targets : Targets M) (others : Targets N) (is_wanted : Asker M → Bool) (is_other : Asker N → Bool) (are : AreMapped f Good targets others is_wanted is_other) where
  pub target_at : (from : Asker M) (number : ℕ) → AllOf f Good from → option_map f (slice_get (targets from) number) ≡ slice_get (others (lift f from)) number
  target_at from number good =
      sym (slice_get-map f (targets from) number) ∙ ap (λ ns. slice_get ns number) (are.commute from good)

  -- where requests lead here they lead there
  end_same : (from : Asker M) (numbers : List ℕ) → AllOf f Good from → option_map (lift f) (end_of targets from numbers) ≡ end_of others (lift f from) numbers
  end_same from [] good = refl
  end_same from (number ∷ more) good =
      by (slice_get (targets from) number) refl (λ m e. end_same (by_module m) more (are.stay from number m good e))
      ∙ ap (λ found. then_on found (λ n. end_of others (by_module n) more)) (target_at from number good)
    where
      by : (found : Option M) → slice_get (targets from) number ≡ found
          → ((m : M) → slice_get (targets from) number ≡ Some m → option_map (lift f) (end_of targets (by_module m) more) ≡ end_of others (by_module (f m)) more)
          → option_map (lift f) (then_on found (λ m. end_of targets (by_module m) more))
          ≡ then_on (option_map f found) (λ n. end_of others (by_module n) more)
      by None e rest = refl
      by (Some m) e rest = rest m e

  last_good : (from : Asker M) (numbers : List ℕ) (last : Asker M) → AllOf f Good from → end_of targets from numbers ≡ Some last → AllOf f Good last
  last_good from [] last good e = let same : from ≡ last = cc in subst (AllOf f Good) same good
  last_good from (number ∷ more) last good e =
      by (slice_get (targets from) number) refl e (λ m g h. last_good (by_module m) more last (are.stay from number m good g) h)
    where
      by : (found : Option M) → slice_get (targets from) number ≡ found
          → then_on found (λ m. end_of targets (by_module m) more) ≡ Some last
          → ((m : M) → slice_get (targets from) number ≡ Some m → end_of targets (by_module m) more ≡ Some last → AllOf f Good last)
          → AllOf f Good last
      by None g h rest = absurd (cc)
      by (Some m) g h rest = rest m g h

  there : (numbers : List ℕ) → IsChain targets is_wanted numbers → IsChain others is_other numbers
  there numbers is = record {
    last = lift f is.last;
    leads = sym (end_same by_page numbers tt) ∙ ap (option_map (lift f)) is.leads;
    wanted = sym (are.wanted is.last (last_good by_page numbers is.last tt is.leads)) ∙ is.wanted;
  }

  back : (numbers : List ℕ) → IsChain others is_other numbers → IsChain targets is_wanted numbers
  back numbers is = by (end_of targets by_page numbers) refl (end_same by_page numbers tt ∙ is.leads)
    where
      by : (found : Option (Asker M)) → end_of targets by_page numbers ≡ found → option_map (lift f) found ≡ Some is.last → IsChain targets is_wanted numbers
      by None e g = absurd (cc)
      by (Some last) e g =
          let same : lift f last ≡ is.last = cc in
          record {
            last = last;
            leads = e;
            wanted = are.wanted last (last_good by_page numbers last tt e) ∙ (ap is_other same ∙ is.wanted);
          }

  pub same_chains : (numbers : List ℕ) → IsChain targets is_wanted numbers ↔ IsChain others is_other numbers
  same_chains numbers = (there numbers, back numbers)

  pub same_shortest : (numbers : List ℕ) → IsShortest targets is_wanted numbers → IsShortest others is_other numbers
  same_shortest numbers is = record {
    is_chain = there numbers is.is_chain;
    first = λ more chain. is.first more (back more chain);
  }
