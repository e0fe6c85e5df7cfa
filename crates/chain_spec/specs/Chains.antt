-- Chains of requests (own): a request of the page, then one of the module that it leads to, and so on.
--     Asker M                          who asks: the page, or a module
--     Targets M                        the modules that an asker's requests lead to, in text order
--     end_of targets from numbers      who asks behind the requests with these numbers, one after another, each counted
--                                      from 0 among those of its asker; none where one of them isn't there
--     Leads targets is_wanted from numbers      they lead from this asker to one that is wanted
--     IsChain targets is_wanted numbers         they lead there from the page
--     Less numbers others              the first number at which they differ is less
--     GoesBefore numbers others        it is shorter, or as long and less
--     IsShortest targets is_wanted numbers      a chain that goes before each other one
--     of_modules is_wanted asker       a module that is wanted, and never the page
--     IsReached targets asker          the page, and each module that a request of a reached one leads to
use Rattle.std.specs.Prelude.{◌≡◌, ◌<◌, ◌⊎◌, ℕ, Bool, true, false, List, [], ◌∷◌, length, slice_get, Option, Some, None}

pub data Asker (M : Type 0) : Type 0 where
  by_page : Asker M
  by_module : M → Asker M

abbrev pub Targets : Type 0 → Type 0
Targets M = Asker M → List M

abbrev pub then_on : {M X : Type 0} → Option M → (M → Option X) → Option X
then_on None next = None
then_on (Some m) next = next m

abbrev pub end_of : {M : Type 0} → Targets M → Asker M → List ℕ → Option (Asker M)
end_of targets from [] = Some from
end_of targets from (number ∷ more) =
    then_on (slice_get (targets from) number) (λ m. end_of targets (by_module m) more)

pub record Leads {M : Type 0} (targets : Targets M) (is_wanted : Asker M → Bool) (from : Asker M) (numbers : List ℕ)
    : Type 0 where
  pub last : Asker M
  pub leads : end_of targets from numbers ≡ Some last
  pub wanted : is_wanted last ≡ true

abbrev pub IsChain : {M : Type 0} → Targets M → (Asker M → Bool) → List ℕ → Type 0
IsChain targets is_wanted numbers = Leads targets is_wanted by_page numbers

abbrev pub Less : List ℕ → List ℕ → Type 0
Less [] others = ⊥
Less (number ∷ more) [] = ⊥
Less (number ∷ more) (other ∷ others) = (number < other) ⊎ ((number ≡ other) × Less more others)

abbrev pub GoesBefore : List ℕ → List ℕ → Type 0
GoesBefore numbers others =
    (length numbers < length others) ⊎ ((length numbers ≡ length others) × Less numbers others)

pub record IsShortest {M : Type 0} (targets : Targets M) (is_wanted : Asker M → Bool) (numbers : List ℕ) : Type 0 where
  pub is_chain : IsChain targets is_wanted numbers
  pub first : (others : List ℕ) → IsChain targets is_wanted others → (numbers ≡ others) ⊎ GoesBefore numbers others

abbrev pub of_modules : {M : Type 0} → (Asker M → Bool) → Asker M → Bool
of_modules is_wanted by_page = false
of_modules is_wanted (by_module m) = is_wanted (by_module m)

pub data IsReached {M : Type 0} (targets : Targets M) : Asker M → Type 0 where
  page : IsReached targets by_page
  asks :
      (from : Asker M) (number : ℕ) (m : M) → IsReached targets from → slice_get (targets from) number ≡ Some m
      → IsReached targets (by_module m)
