use Rattle.std.proofs.Common.{◌≡◌, take}
use Rattle.edit_session.proofs.entries.copy_of.Given as goal

abbrev pub invariant-loop-entry : goal.invariant-loop-entry
invariant-loop-entry l = l.copy ≡ take l.entry-index l.entries
