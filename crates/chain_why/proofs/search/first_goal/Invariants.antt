use Rattle.std.proofs.Common.{◌≡◌, ◌<◌, ◌-◌, ℕ, false, length, Some}
use Rattle.std.specs.Prelude.{slice_get}
use Rattle.slot_arena.specs.declared.slot.Slot.{Slot}
use Rattle.chain_search.specs.Laws.{is_goal}
use Rattle.chain_why.specs.Shown.{is_at}
use Rattle.chain_why.specs.Askers.{asks}
use Rattle.chain_why.proofs.search.first_goal.Given as goal

-- none before it leads there
abbrev pub invariant-loop-number : goal.invariant-loop-number
invariant-loop-number l =
    (other : ℕ) (slot : Slot) → slice_get (asks l.asker) other ≡ Some slot → other < l.number
    → is_goal (is_at l.view l.path) slot ≡ false

abbrev pub decreases-loop-number : goal.decreases-loop-number
decreases-loop-number l = length (asks l.asker) - l.number
