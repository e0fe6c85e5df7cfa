-- The laws of chains, for all types of modules.
use Rattle.std.specs.Prelude.{◌≡◌, ◌<◌, ◌⊎◌, ◌↔◌, ℕ, Bool, true, false, List, [], length, slice_get, Option, Some, None}
use Rattle.chain_spec.specs.Chains.{Asker, by_page, by_module, Targets, end_of, IsChain, GoesBefore, IsShortest}
use Rattle.chain_spec.specs.Chains.{of_modules, IsReached}
use Rattle.chain_spec.specs.Trying.{shortest_within}

-- own law: one shortest chain at most
abbrev pub OneShortest : Type 0 → Type 0
OneShortest M =
    (targets : Targets M) (is_wanted : Asker M → Bool) (one other : List ℕ) → IsShortest targets is_wanted one
    → IsShortest targets is_wanted other → one ≡ other

-- own law: and one where there is any chain
abbrev pub SomeShortest : Type 0 → Type 0
SomeShortest M =
    (targets : Targets M) (is_wanted : Asker M → Bool) (numbers : List ℕ) → IsChain targets is_wanted numbers
    → (shortest : List ℕ) × IsShortest targets is_wanted shortest

-- own law: requests lead from the page to exactly those that are reached
abbrev pub ChainsReach : Type 0 → Type 0
ChainsReach M =
    (targets : Targets M) (asker : Asker M)
    → ((numbers : List ℕ) × (end_of targets by_page numbers ≡ Some asker)) ↔ IsReached targets asker

-- own law: so there is a chain exactly where one that is wanted is reached
abbrev pub ChainWhereReached : Type 0 → Type 0
ChainWhereReached M =
    (targets : Targets M) (is_wanted : Asker M → Bool)
    → ((numbers : List ℕ) × IsChain targets is_wanted numbers)
    ↔ ((asker : Asker M) × IsReached targets asker × (is_wanted asker ≡ true))

-- own law: of two lists of numbers that differ one goes before the other, and not both
abbrev pub OneGoesBefore : Type 0
OneGoesBefore =
    (one other : List ℕ)
    → ((one ≡ other) ⊎ (GoesBefore one other ⊎ GoesBefore other one))
    × (GoesBefore one other → GoesBefore other one → ⊥)
    × (GoesBefore one one → ⊥)

-- own law: where the page itself is wanted, the shortest chain has no request
abbrev pub PageItself : Type 0 → Type 0
PageItself M =
    (targets : Targets M) (is_wanted : Asker M → Bool) → is_wanted by_page ≡ true → IsShortest targets is_wanted []

-- own law: where the page is left out, chains are those of at least one request
abbrev pub ChainsOfModules : Type 0 → Type 0
ChainsOfModules M =
    (targets : Targets M) (is_wanted : Asker M → Bool) (numbers : List ℕ)
    → IsChain targets (of_modules is_wanted) numbers ↔ (IsChain targets is_wanted numbers × (0 < length numbers))

-- own law: where the page isn't wanted, leaving it out changes nothing
abbrev pub ShortestOfModules : Type 0 → Type 0
ShortestOfModules M =
    (targets : Targets M) (is_wanted : Asker M → Bool) (numbers : List ℕ) → is_wanted by_page ≡ false
    → IsShortest targets (of_modules is_wanted) numbers ↔ IsShortest targets is_wanted numbers

abbrev pub IsTried : {M : Type 0} → Targets M → (Asker M → Bool) → ℕ → Option (List ℕ) → Type 0
IsTried targets is_wanted most None = (numbers : List ℕ) → IsChain targets is_wanted numbers → most < length numbers
IsTried targets is_wanted most (Some numbers) = IsShortest targets is_wanted numbers

-- own law: what trying all chains of at most so many requests finds is the shortest chain; else all are longer
abbrev pub TriedIsShortest : Type 0 → Type 0
TriedIsShortest M =
    (targets : Targets M) (is_wanted : Asker M → Bool) (most : ℕ)
    → IsTried targets is_wanted most (shortest_within targets is_wanted most)

-- own law: where all that is asked for stays among modules that aren't wanted, there is no chain
abbrev pub NoneAmong : Type 0 → Type 0
NoneAmong M =
    (targets : Targets M) (is_wanted is_among : Asker M → Bool) → is_among by_page ≡ true
    → ((from : Asker M) (number : ℕ) (m : M) → is_among from ≡ true → slice_get (targets from) number ≡ Some m
    → is_among (by_module m) ≡ true)
    → ((asker : Asker M) → is_among asker ≡ true → is_wanted asker ≡ false)
    → (numbers : List ℕ) → IsChain targets is_wanted numbers → ⊥
