-- The search as a function, for at most so many askers. It computes on examples.
--     first_goal is_goal number modules     the number of the first one that is looked for
--     search targets is_same is_goal most done rest      what the search comes to from these places; none where it goes
--                                                        on behind so many
--     SearchExamples                        what it comes to on sites
use Rattle.std.specs.Prelude.{◌++◌, ℕ, zero, suc, Bool, List, [], ◌∷◌, Option, Some, None, if◌then◌else◌, nat_eq}
use Prim.Native.String.{String}
use Rattle.chain_spec.specs.Chains.{Targets}
use Rattle.chain_spec.specs.WorkedExamples.{Site, targets_of, is_at, ordinary, diamond, longer_with_less, cycle, twice}
use Rattle.chain_search.specs.Laws.{the_start, is_goal}
use Rattle.chain_search.specs.Searches.{Place, fresh, Searched}

abbrev pub first_goal : {M : Type 0} → (M → Bool) → ℕ → List M → Option ℕ
first_goal is_goal number [] = None
first_goal is_goal number (m ∷ more) = if is_goal m then Some number else first_goal is_goal (suc number) more

abbrev pub ended_by : List ℕ → Option ℕ → Option (Option (List ℕ)) → Option (Option (List ℕ))
ended_by back None on = on
ended_by back (Some number) on = Some (Some (number ∷ back))

abbrev pub search : {M : Type 0} → Targets M → (M → M → Bool) → (M → Bool) → ℕ → List (Place M) → List (Place M)
    → Option (Option (List ℕ))
search targets is_same is_goal zero done rest = None
search targets is_same is_goal (suc most) done [] = Some None
search targets is_same is_goal (suc most) done (place ∷ rest) =
    ended_by place.back (first_goal is_goal 0 (targets place.at))
    (search targets is_same is_goal most (done ++ place ∷ [])
    (rest ++ fresh is_same (done ++ place ∷ rest) place.back 0 (targets place.at)))

-- the numbers from the end of the chain
pub record ComesTo (site : Site) (path : String) (out : Option (List ℕ)) : Type 0 where
  pub is : Searched (targets_of site) nat_eq (is_goal (is_at site path)) [] the_start out

pub record SearchExamples : Type 0 where
  pub inner : ComesTo ordinary "/node_modules/ui/node_modules/@ui/core/lib/index.mjs" (Some (0 ∷ 0 ∷ 0 ∷ []))
  pub other_file : ComesTo ordinary "/node_modules/ui/n.js" None
  pub last_request : ComesTo ordinary "/src/style.js" (Some (2 ∷ 0 ∷ []))
  pub least_of_two : ComesTo diamond "/d.mjs" (Some (0 ∷ 0 ∷ 0 ∷ []))
  pub shorter_first : ComesTo longer_with_less "/c.mjs" (Some (2 ∷ 0 ∷ []))
  pub round : ComesTo cycle "/c.mjs" (Some (1 ∷ 1 ∷ 0 ∷ []))
  pub nobody_asks : ComesTo cycle "/d.mjs" None
  pub asked_twice : ComesTo twice "/b.mjs" (Some (0 ∷ 0 ∷ []))
