-- The shortest chain by trying all chains of no requests, of one, up to a number (own). It computes on examples.
--     least_of targets is_wanted size from      of the chains of this size from there the least
--     shortest_within targets is_wanted most    the shortest chain, of at most so many requests
use Rattle.std.specs.Prelude.{ℕ, zero, suc, Bool, List, [], ◌∷◌, Option, Some, None, if◌then◌else◌}
use Rattle.chain_spec.specs.Chains.{Asker, by_page, by_module, Targets}

abbrev pub onto : ℕ → Option (List ℕ) → Option (List ℕ) → Option (List ℕ)
onto number None other = other
onto number (Some numbers) other = Some (number ∷ numbers)

abbrev pub or_else : Option (List ℕ) → Option (List ℕ) → Option (List ℕ)
or_else None other = other
or_else (Some numbers) other = Some numbers

abbrev pub first_of : {M : Type 0} → (M → Option (List ℕ)) → ℕ → List M → Option (List ℕ)
first_of tried number [] = None
first_of tried number (m ∷ more) = onto number (tried m) (first_of tried (suc number) more)

abbrev pub least_of : {M : Type 0} → Targets M → (Asker M → Bool) → ℕ → Asker M → Option (List ℕ)
least_of targets is_wanted zero from = if is_wanted from then Some [] else None
least_of targets is_wanted (suc size) from =
    first_of (λ m. least_of targets is_wanted size (by_module m)) 0 (targets from)

abbrev pub tried_from : {M : Type 0} → Targets M → (Asker M → Bool) → ℕ → ℕ → Option (List ℕ)
tried_from targets is_wanted zero size = None
tried_from targets is_wanted (suc more) size =
    or_else (least_of targets is_wanted size by_page) (tried_from targets is_wanted more (suc size))

abbrev pub shortest_within : {M : Type 0} → Targets M → (Asker M → Bool) → ℕ → Option (List ℕ)
shortest_within targets is_wanted most = tried_from targets is_wanted (suc most) 0
