use Rattle.std.proofs.Common.{length}
use Rattle.tree_spec.specs.Paths.{IsPath}
use Rattle.node_spec.specs.Nearest.{nearest}
use Rattle.node_spec.specs.PackageResolve.{packages}
use Rattle.package_lookup.specs.Lookups.{state_of, IsSameLookup}
use Rattle.package_lookup.proofs.Questions.{Left}
use Rattle.package_lookup.proofs.packages.find_package.Given as goal

abbrev pub invariant-up : goal.invariant-up
invariant-up g l = record {
  left : Left (state_of g.F.Folder.state l.fn.lookup) (nearest (packages l.fn.name) l.fn.from)
      (state_of g.F.Folder.state l.lookup) (nearest (packages l.fn.name) l.at);
  is_path : IsPath l.at;
  same : IsSameLookup l.fn.lookup l.lookup;
}

abbrev pub decreases-up : goal.decreases-up
decreases-up g l = length l.at
