use Rattle.std.proofs.Common.{◌≡◌, ◌-◌, ◌++◌, List, length, Some}
use Rattle.std.specs.Prelude.{slice_get}
use Rattle.slot_arena.specs.declared.slot.Slot.{Slot}
use Rattle.chain_spec.specs.Chains.{Targets}
use Rattle.chain_search.specs.Searches.{Place, fresh}
use Rattle.chain_why.specs.Askers.{asks}
use Rattle.chain_why.specs.Reaching.{is_slot, Shows}
use Rattle.chain_why.proofs.Kept.{IsMidway}
use Rattle.chain_why.proofs.search.expand.Given as goal

-- with those that are still to be looked at, the places come to what they are to be
abbrev pub invariant-loop-number : goal.invariant-loop-number
invariant-loop-number l =
    (targets : Targets Slot) (places : List (Place Slot)) (asker : Place Slot) → Shows targets l.fn.reached.keys places
    → slice_get places l.from ≡ Some asker → targets asker.at ≡ asks l.asker
    → IsMidway targets l.reached.keys l.from l.number (asks l.asker) asker (places ++ fresh is_slot places asker.back 0 (asks l.asker))

abbrev pub decreases-loop-number : goal.decreases-loop-number
decreases-loop-number l = length (asks l.asker) - l.number
