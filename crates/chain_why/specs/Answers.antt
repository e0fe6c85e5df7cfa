-- What `why` answers (own).
--     GoesBy targets from steps      each step's request leads to its slot, from this asker on
--     IsAnswer places roots path steps     the shortest chain to the path, with the slots that it comes by
--     Answers places roots path found      that chain; or none, where none leads there
use Rattle.std.specs.Prelude.{◌≡◌, ⊤, ℕ, List, [], ◌∷◌, map, slice_get, Option, Some, None}
use Rattle.slot_arena.specs.Slots.{Place}
use Rattle.slot_arena.specs.declared.slot.Slot.{Slot}
use Rattle.module_graph.specs.declared.module.Module.{Module}
use Rattle.chain_spec.specs.Chains.{Asker, by_page, by_module, Targets, IsChain, IsShortest}
use Rattle.chain_why.specs.Shown.{targets_in, is_at}

abbrev pub GoesBy : Targets Slot → Asker Slot → List (ℕ × Slot) → Type 0
GoesBy targets from [] = ⊤
GoesBy targets from (step ∷ more) =
    (slice_get (targets from) step.0 ≡ Some step.1) × GoesBy targets (by_module step.1) more

abbrev pub numbers_of : List (ℕ × Slot) → List ℕ
numbers_of steps = map (λ step. step.0) steps

pub record IsAnswer (places : List (Place Module)) (roots : List Slot) (path : List ℕ) (steps : List (ℕ × Slot))
    : Type 0 where
  pub shortest : IsShortest (targets_in places roots) (is_at places path) (numbers_of steps)
  pub slots : GoesBy (targets_in places roots) by_page steps

abbrev pub Answers : List (Place Module) → List Slot → List ℕ → Option (List (ℕ × Slot)) → Type 0
Answers places roots path None =
    (numbers : List ℕ) → IsChain (targets_in places roots) (is_at places path) numbers → ⊥
Answers places roots path (Some steps) = IsAnswer places roots path steps
