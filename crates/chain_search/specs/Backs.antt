-- Chains from their ends: the numbers of the requests, the last one first.
--     LeadsTo targets back at       they lead from the page there
--     Before back other             the order of chains, by their ends
--     UpTo back other               the same, or the two are one
use Rattle.std.specs.Prelude.{◌≡◌, ◌<◌, ◌⊎◌, ℕ, List, [], ◌∷◌, slice_get, Some}
use Rattle.chain_spec.specs.Chains.{Asker, by_page, by_module, Targets}

pub data LeadsTo {M : Type 0} (targets : Targets M) : List ℕ → Asker M → Type 0 where
  at_page : LeadsTo targets [] by_page
  asks :
      (number : ℕ) (back : List ℕ) (from : Asker M) (m : M) → LeadsTo targets back from
      → slice_get (targets from) number ≡ Some m → LeadsTo targets (number ∷ back) (by_module m)

abbrev pub Before : List ℕ → List ℕ → Type 0
Before back [] = ⊥
Before [] (number ∷ other) = Unit {0}
Before (first ∷ back) (number ∷ other) = Before back other ⊎ ((back ≡ other) × (first < number))

abbrev pub UpTo : List ℕ → List ℕ → Type 0
UpTo back other = (back ≡ other) ⊎ Before back other
