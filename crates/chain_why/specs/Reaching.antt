-- What the search keeps of the places that it reached.
--     is_same one other              two of them are of one slot
--     Shows targets keys places      what is kept of these places; the first of them is the page
--     Expands keys from asked new    the places that are fresh among those asked for by the asker there are put behind
--     IsSearched view roots path keys found      what the search comes to, with the place that it was found from
--     AreInOrder keys                each was reached from a place before its own
--     Traces keys goal steps         the steps lead from the page to the goal
use Rattle.std.specs.Prelude.{◌≡◌, ◌≤◌, ◌++◌, ◌&&◌, ℕ, Bool, List, [], ◌∷◌, nat_eq, reverse}
use Rattle.std.specs.Prelude.{slice_get, Option, Some, None}
use Rattle.std.specs.Ordering.{on, eq_of_both}
use Rattle.slot_arena.specs.Slots as arena
use Rattle.slot_arena.specs.declared.slot.Slot.{Slot}
use Rattle.module_graph.specs.declared.module.Module.{Module}
use Rattle.chain_spec.specs.Chains.{by_page, by_module, Targets}
use Rattle.chain_search.specs.Searches.{Place, fresh, Searched}
use Rattle.chain_search.specs.Laws.{the_start, is_goal}
use Rattle.chain_why.specs.declared.reached.Reached.{Reached}
use Rattle.chain_why.specs.Shown.{targets_in, is_at}
use Rattle.chain_why.specs.Answers.{GoesBy, numbers_of}

abbrev pub is_slot : Slot → Slot → Bool
is_slot one other = nat_eq one.index other.index && nat_eq one.generation other.generation

abbrev pub is_same : Reached → Reached → Bool
is_same = eq_of_both (on (λ reached. reached.slot.index) nat_eq) (on (λ reached. reached.slot.generation) nat_eq)

abbrev pub place_of : Reached → Place Slot → Place Slot
place_of reached from = record { at = by_module reached.slot; back = reached.number ∷ from.back }

pub data Shows (targets : Targets Slot) : List Reached → List (Place Slot) → Type 0 where
  start : Shows targets [] the_start
  more :
      (keys : List Reached) (places : List (Place Slot)) (reached : Reached) (from : Place Slot)
      → Shows targets keys places → slice_get places reached.from ≡ Some from
      → slice_get (targets from.at) reached.number ≡ Some reached.slot
      → Shows targets (keys ++ reached ∷ []) (places ++ place_of reached from ∷ [])

abbrev pub Expands : List Reached → ℕ → List Slot → List Reached → Type 0
Expands keys number asked new =
    (targets : Targets Slot) (places : List (Place Slot)) (from : Place Slot) → Shows targets keys places
    → slice_get places number ≡ Some from → targets from.at ≡ asked
    → Shows targets new (places ++ fresh is_slot places from.back 0 asked)

-- the goal is led to from a place that was reached
pub record IsGoal (targets : Targets Slot) (keys : List Reached) (goal : Reached) (back : List ℕ) : Type 0 where
  pub places : List (Place Slot)
  pub shows : Shows targets keys places
  pub from : Place Slot
  pub there : slice_get places goal.from ≡ Some from
  pub leads : slice_get (targets from.at) goal.number ≡ Some goal.slot
  pub is : back ≡ goal.number ∷ from.back

abbrev pub ComesTo : List (arena.Place Module) → List Slot → List ℕ → Option (List ℕ) → Type 0
ComesTo view roots path out = Searched (targets_in view roots) is_slot (is_goal (is_at view path)) [] the_start out

pub record IsFoundGoal (view : List (arena.Place Module)) (roots : List Slot) (path : List ℕ) (keys : List Reached)
    (goal : Reached) : Type 0 where
  pub back : List ℕ
  pub goal_is : IsGoal (targets_in view roots) keys goal back
  pub searched : ComesTo view roots path (Some back)

abbrev pub IsSearched : List (arena.Place Module) → List Slot → List ℕ → List Reached → Option Reached → Type 0
IsSearched view roots path keys None = ComesTo view roots path None
IsSearched view roots path keys (Some goal) = IsFoundGoal view roots path keys goal

abbrev pub AreInOrder : List Reached → Type 0
AreInOrder keys = (index : ℕ) (reached : Reached) → slice_get keys index ≡ Some reached → reached.from ≤ index

abbrev pub Traces : List Reached → Reached → List (ℕ × Slot) → Type 0
Traces keys goal steps =
    (targets : Targets Slot) (back : List ℕ) → IsGoal targets keys goal back
    → (numbers_of steps ≡ reverse back) × GoesBy targets by_page steps
