-- How faults are counted.
--     IsCounted before result after          the count rose where the call failed, and is as it was where it didn't
--     IsFaultCounted before fault after      it rose where a look failed, and is as it was where memory was wanting
use Rattle.std.specs.Prelude.{◌≡◌, ◌≢◌, ◌≤◌, ℕ, Result, OnOk, OnErr}
use Rattle.tree_spec.specs.Counts.{Rose}
use Rattle.tree_spec.specs.declared.LookFault.{LookFault}
use Rattle.tree_spec.specs.declared.LookFault.TheVariants.{Failed}

-- own: a call's failure is counted
pub record IsCounted {A E : Type 0} (before : ℕ) (result : Result A E) (after : ℕ) : Type 0 where
  pub failed : OnErr result (Rose before after)
  pub quiet : OnOk result (after ≡ before)
  pub later : before ≤ after

-- own: a look's fault is counted, unless it is want of memory
pub record IsFaultCounted (before : ℕ) (fault : LookFault) (after : ℕ) : Type 0 where
  pub failed : fault ≡ Failed → Rose before after
  pub quiet : fault ≢ Failed → after ≡ before
  pub later : before ≤ after
