-- The laws of the search.
--     the_start                        the page, behind no request
--     is_goal is_wanted m              the module is wanted
--     IsFound targets is_wanted out    the shortest chain, from its end; or none where there is none
use Rattle.std.specs.Prelude.{◌≡◌, Bool, List, [], ◌∷◌, ℕ, Option, Some, None, reverse}
use Rattle.std.specs.Bool.{Decides}
use Rattle.chain_spec.specs.Chains.{Asker, by_page, by_module, Targets, IsChain, IsShortest, of_modules}
use Rattle.chain_search.specs.Searches.{Place, Searched}

abbrev pub the_start : {M : Type 0} → List (Place M)
the_start = record { at = by_page; back = [] } ∷ []

abbrev pub IsFound : {M : Type 0} → Targets M → (Asker M → Bool) → Option (List ℕ) → Type 0
IsFound targets is_wanted None = (numbers : List ℕ) → IsChain targets is_wanted numbers → ⊥
IsFound targets is_wanted (Some back) = IsShortest targets is_wanted (reverse back)

abbrev pub is_goal : {M : Type 0} → (Asker M → Bool) → M → Bool
is_goal is_wanted m = is_wanted (by_module m)

-- own law: what a search for modules finds is the shortest chain to one; where it finds none, there is none
abbrev pub FindsShortest : Type 0 → Type 0
FindsShortest M =
    (targets : Targets M) (is_same : M → M → Bool) (is_wanted : Asker M → Bool) (out : Option (List ℕ))
    → ((one other : M) → Decides (is_same one other) (one ≡ other))
    → Searched targets is_same (is_goal is_wanted) [] the_start out → IsFound targets (of_modules is_wanted) out

-- own law: a search comes to one thing at most
abbrev pub OneFound : Type 0 → Type 0
OneFound M =
    (targets : Targets M) (is_same : M → M → Bool) (is_wanted : Asker M → Bool) (one other : Option (List ℕ))
    → ((m n : M) → Decides (is_same m n) (m ≡ n)) → Searched targets is_same (is_goal is_wanted) [] the_start one
    → Searched targets is_same (is_goal is_wanted) [] the_start other → one ≡ other
