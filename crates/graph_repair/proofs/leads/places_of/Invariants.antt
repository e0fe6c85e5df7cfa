use Rattle.std.proofs.Common.{◌≡◌, ◌<◌, ◌-◌, ℕ, length, get_or, Some}
use Rattle.std.specs.Prelude.{All, slice_get}
use Rattle.slot_arena.specs.declared.slot.Slot.{Slot}
use Rattle.graph_repair.specs.Leads.{HasOwnIndexes}
use Rattle.graph_repair.proofs.leads.places_of.Given as goal

-- the slots before this one have their places in the table, and there is room for each
abbrev pub invariant-loop-place : goal.invariant-loop-place
invariant-loop-place l = record {
  within : All (λ s. s.index < length l.places.items) l.slots;
  placed : HasOwnIndexes l.slots → (i : ℕ) (t : Slot) → i < l.place → slice_get l.slots i ≡ Some t → get_or l.places.items t.index 0 ≡ i;
}

abbrev pub decreases-loop-place : goal.decreases-loop-place
decreases-loop-place l = length l.slots - l.place
