use Rattle.std.proofs.Common.{length}
use Rattle.package_lookup.specs.Lookups.{state_of, IsSameLookup}
use Rattle.kept_answers.proofs.LookingAgain.{Again}
use Rattle.kept_answers.proofs.looks.look_by_look.Given as goal

abbrev pub invariant-loop-look : goal.invariant-loop-look
invariant-loop-look g l = record {
  again : Again (state_of g.F.Folder.state l.fn.lookup) l.fn.looks (state_of g.F.Folder.state l.lookup) l.rest;
  same : IsSameLookup l.fn.lookup l.lookup;
}

abbrev pub decreases-loop-look : goal.decreases-loop-look
decreases-loop-look g l = length l.rest
