use Rattle.std.proofs.Common.{length}
use Rattle.package_lookup.specs.Lookups.{state_of, IsSameLookup}
use Rattle.kept_answers.proofs.LookingAgain.{SoFar}
use Rattle.kept_answers.proofs.looks.looks_at.Given as goal

abbrev pub invariant-loop-path : goal.invariant-loop-path
invariant-loop-path g l = record {
  far : SoFar (state_of g.F.Folder.state l.fn.lookup) l.fn.paths (state_of g.F.Folder.state l.lookup) l.rest l.looks;
  same : IsSameLookup l.fn.lookup l.lookup;
}

abbrev pub decreases-loop-path : goal.decreases-loop-path
decreases-loop-path g l = length l.rest
