-- The laws of chains.
use Rattle.std.proofs.Common.{◌≡◌, ◌<◌, ◌⊎◌, [], ◌∷◌, ℕ, Bool, true, false, List, Some, refl, sym, ap, ◌∙◌, subst, inl, inr, length, arith}
use Rattle.std.proofs.lemmas.Bool.{true≢false}
use Rattle.chain_spec.specs.Chains.{Asker, by_page, by_module, Targets, end_of, IsChain, GoesBefore, of_modules, page}
use Rattle.chain_spec.specs.Laws.{OneShortest, SomeShortest, ChainsReach, ChainWhereReached, OneGoesBefore, PageItself, TriedIsShortest, NoneAmong}
use Rattle.chain_spec.specs.Trying.{shortest_within}
use Rattle.chain_spec.proofs.Orders.{one_before, not_both, not_itself}
use Rattle.chain_spec.proofs.Tries.{tried, some_found}
use Rattle.chain_spec.proofs.Ways.{goes, reached_from, chain_to, among}
use Rattle.chain_spec.specs.Laws.{ChainsOfModules, ShortestOfModules}

pub one_shortest : {M : Type 0} → OneShortest M
one_shortest targets is_wanted one other is also =
    elim (is.first other also.is_chain) [
      | inl same ↦ same
      | inr before ↦ elim (also.first one is.is_chain) [
        | inl same ↦ sym same
        | inr behind ↦ absurd (not_both one other before behind)
      ]
    ]

pub some_shortest : {M : Type 0} → SomeShortest M
some_shortest targets is_wanted numbers chain =
    some_found targets is_wanted numbers chain (shortest_within targets is_wanted (length numbers))
    (tried targets is_wanted (length numbers))

pub chains_reach : {M : Type 0} → ChainsReach M
chains_reach targets asker = (
  (λ led. reached_from targets by_page led.0 asker page led.1),
  (λ reached. let chain = chain_to targets asker reached in (chain.numbers, chain.leads)),
)

pub chain_where_reached : {M : Type 0} → ChainWhereReached M
chain_where_reached targets is_wanted = (
  (λ led. (led.1.last, reached_from targets by_page led.0 led.1.last page led.1.leads, led.1.wanted)),
  (λ reached.
      let chain = chain_to targets reached.0 reached.1 in
      (chain.numbers, record { last = reached.0; leads = chain.leads; wanted = reached.2 })),
)

pub one_goes_before : OneGoesBefore
one_goes_before one other = (one_before one other, not_both one other, not_itself one)

pub page_itself : {M : Type 0} → PageItself M
page_itself targets is_wanted wanted = record {
  is_chain = record { last = by_page; leads = refl; wanted = wanted };
  first = λ others chain. none_before others;
}
  where
    none_before : (others : List ℕ) → ([] ≡ others) ⊎ GoesBefore [] others
    none_before [] = inl refl
    none_before (number ∷ more) = inr (inl (omega arith))

pub tried_is_shortest : {M : Type 0} → TriedIsShortest M
tried_is_shortest targets is_wanted most = tried targets is_wanted most

pub none_among : {M : Type 0} → NoneAmong M
none_among targets is_wanted is_among first on none numbers chain =
    let reached = reached_from targets by_page numbers chain.last page chain.leads in
    true≢false (sym chain.wanted ∙ none chain.last (among targets is_among first on chain.last reached))

-- ---- without the page

module _ {M : Type 0} (targets : Targets M) (is_wanted : Asker M → Bool) where
  of_wanted : (asker : Asker M) → of_modules is_wanted asker ≡ true → is_wanted asker ≡ true
  of_wanted by_page e = absurd (true≢false (sym e))
  of_wanted (by_module m) e = e

  -- behind a request there stands a module
  module_of : (from : Asker M) (number : ℕ) (more : List ℕ) (last : Asker M)
      → end_of targets from (number ∷ more) ≡ Some last → is_wanted last ≡ true → of_modules is_wanted last ≡ true
  module_of from number more last e wanted =
      let gone = goes targets from number more last e in
      behind gone.m more gone.on
    where
      behind : (m : M) (numbers : List ℕ) → end_of targets (by_module m) numbers ≡ Some last
          → of_modules is_wanted last ≡ true
      behind m [] f =
          let same : by_module m ≡ last = cc in
          subst (λ asker. of_modules is_wanted asker ≡ true) same (ap is_wanted same ∙ wanted)
      behind m (next ∷ numbers) f =
          let gone = goes targets (by_module m) next numbers last f in
          behind gone.m numbers gone.on

  with_page : (numbers : List ℕ) → IsChain targets (of_modules is_wanted) numbers → IsChain targets is_wanted numbers
  with_page numbers chain = record { last = chain.last; leads = chain.leads; wanted = of_wanted chain.last chain.wanted }

  some_request : (numbers : List ℕ) → IsChain targets (of_modules is_wanted) numbers → 0 < length numbers
  some_request [] chain =
      let leads = chain.leads in
      let same : chain.last ≡ by_page = cc in
      absurd (true≢false (sym chain.wanted ∙ ap (of_modules is_wanted) same))
  some_request (number ∷ more) chain = omega arith

  without_page : (numbers : List ℕ) → IsChain targets is_wanted numbers → 0 < length numbers
      → IsChain targets (of_modules is_wanted) numbers
  without_page [] chain some = absurd (omega (arith, some))
  without_page (number ∷ more) chain some = record {
    last = chain.last;
    leads = chain.leads;
    wanted = module_of by_page number more chain.last chain.leads chain.wanted;
  }

  asks_some : is_wanted by_page ≡ false → (numbers : List ℕ) → IsChain targets is_wanted numbers
      → IsChain targets (of_modules is_wanted) numbers
  asks_some none [] chain =
      let leads = chain.leads in
      let same : chain.last ≡ by_page = cc in
      absurd (true≢false (sym chain.wanted ∙ (ap is_wanted same ∙ none)))
  asks_some none (number ∷ more) chain = without_page (number ∷ more) chain (omega arith)

pub chains_of_modules : {M : Type 0} → ChainsOfModules M
chains_of_modules targets is_wanted numbers = (
  (λ chain. (with_page targets is_wanted numbers chain, some_request targets is_wanted numbers chain)),
  (λ both. without_page targets is_wanted numbers both.0 both.1),
)

pub shortest_of_modules : {M : Type 0} → ShortestOfModules M
shortest_of_modules targets is_wanted numbers none = (
  (λ is. record {
    is_chain = with_page targets is_wanted numbers is.is_chain;
    first = λ others chain. is.first others (asks_some targets is_wanted none others chain);
  }),
  (λ is. record {
    is_chain = asks_some targets is_wanted none numbers is.is_chain;
    first = λ others chain. is.first others (with_page targets is_wanted others chain);
  }),
)
