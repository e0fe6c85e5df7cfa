-- Askings whose questions are looks at paths.
--     Sights                    what stands at each path
--     LookAsking X              looks at paths one after another, goes on by what stands there, and comes to an `X`
--     look_at path              what stands at a path
--     look_at_each paths        looks at these paths, one after another
--     looks sights asking       the paths at which an asking looks, in order
--     is_seen path paths        the path is one of these
--     with_seen paths path      these paths, and the path behind them unless it is one of them
--     noted seen paths          the same with one path after another
--     footprint sights asking   the paths at which an asking looks, each once, in the order of first looks
use Rattle.std.specs.Prelude.{ℕ, Bool, List, [], ◌∷◌, ◌++◌, bytes_eq, Option, if◌then◌else◌}
use Rattle.std.specs.List.{list_any}
use Rattle.asking_spec.specs.Askings.{Asking, answered, ask, questions}
use Rattle.tree_spec.specs.declared.Entry.{Entry}

-- own: as a tree's `get`, or any other function of paths
abbrev pub Sights : Type 0
Sights = List ℕ → Option Entry

abbrev pub LookAsking : Type 0 → Type 0
LookAsking X = Asking (List ℕ) (λ path. Option Entry) X

abbrev pub look_at : List ℕ → LookAsking (Option Entry)
look_at path = ask path answered

abbrev pub look_at_each : List (List ℕ) → LookAsking (Unit {0})
look_at_each [] = answered tt
look_at_each (path ∷ more) = ask path (λ found. look_at_each more)

abbrev pub looks : {X : Type 0} → Sights → LookAsking X → List (List ℕ)
looks sights asking = questions sights asking

-- ---- each path once

abbrev pub is_seen : List ℕ → List (List ℕ) → Bool
is_seen path paths = list_any (λ seen. bytes_eq seen path) paths

abbrev pub with_seen : List (List ℕ) → List ℕ → List (List ℕ)
with_seen paths path = if is_seen path paths then paths else paths ++ path ∷ []

abbrev pub noted : List (List ℕ) → List (List ℕ) → List (List ℕ)
noted seen [] = seen
noted seen (path ∷ more) = noted (with_seen seen path) more

-- own: what decides an asking's outcome, and is all of a tree that does
abbrev pub footprint : {X : Type 0} → Sights → LookAsking X → List (List ℕ)
footprint sights asking = noted [] (looks sights asking)
