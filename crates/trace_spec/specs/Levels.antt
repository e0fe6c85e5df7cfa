-- What a trace holds, where the targets of each referrer are known.
--     Levels M same targets seen level more      the modules behind a level, level by level
--     Reached M targets referrer                 the least set that holds the page and, with each member, its targets
use Rattle.std.specs.Prelude.{◌≡◌, Bool, List, [], ◌∷◌, ◌++◌, map, flat_map, Contains}
use Rattle.trace_spec.specs.Walking.{Referrer, the_page, a_module, new_modules}

-- own: each further level has the targets of the one before that stand in no earlier level, in the order in which they
-- are first asked for
pub data Levels (M : Type 0) (same : M → M → Bool) (targets : Referrer M → List M) : List M → List (Referrer M)
    → List M → Type 0 where
  last_level : {seen : List M} {level : List (Referrer M)} → new_modules same seen (flat_map targets level) ≡ []
      → Levels M same targets seen level []
  next_level : {seen : List M} {level : List (Referrer M)} {first : M} {others more : List M}
      → new_modules same seen (flat_map targets level) ≡ first ∷ others
      → Levels M same targets (seen ++ first ∷ others) (map a_module (first ∷ others)) more
      → Levels M same targets seen level ((first ∷ others) ++ more)

pub data Reached (M : Type 0) (targets : Referrer M → List M) : Referrer M → Type 0 where
  page : Reached M targets the_page
  requested : {referrer : Referrer M} {target : M} → Reached M targets referrer → Contains (targets referrer) target
      → Reached M targets (a_module target)
