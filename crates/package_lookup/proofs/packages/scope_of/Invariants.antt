use Rattle.std.proofs.Common.{length}
use Rattle.node_spec.specs.LookupPackageScope.{package_scope}
use Rattle.package_lookup.specs.Lookups.{state_of, IsSameLookup}
use Rattle.package_lookup.proofs.Questions.{Left}
use Rattle.package_lookup.proofs.packages.scope_of.Given as goal

abbrev pub invariant-up : goal.invariant-up
invariant-up g l = record {
  left : Left (state_of g.F.Folder.state l.fn.lookup) (package_scope l.fn.from) (state_of g.F.Folder.state l.lookup)
      (package_scope l.at);
  same : IsSameLookup l.fn.lookup l.lookup;
}

abbrev pub decreases-up : goal.decreases-up
decreases-up g l = length l.at
