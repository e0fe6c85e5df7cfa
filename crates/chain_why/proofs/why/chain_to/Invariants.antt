use Rattle.std.proofs.Common.{◌≤◌, ℕ, List, length}
use Rattle.slot_arena.specs.declared.slot.Slot.{Slot}
use Rattle.chain_spec.specs.Chains.{Targets}
use Rattle.chain_why.specs.Reaching.{IsGoal}
use Rattle.chain_why.proofs.Finding.{IsHalfway}
use Rattle.chain_why.proofs.why.chain_to.Given as goal

abbrev pub invariant-loop-from : goal.invariant-loop-from
invariant-loop-from l = record {
  within : l.from ≤ length l.reached.keys;
  leads :
      (targets : Targets Slot) (back : List ℕ) → IsGoal targets l.reached.keys l.fn.goal back
      → IsHalfway targets l.reached.keys back l.from l.steps.items;
}

abbrev pub decreases-loop-from : goal.decreases-loop-from
decreases-loop-from l = l.from
