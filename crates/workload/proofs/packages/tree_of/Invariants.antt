use Rattle.std.proofs.Common.{◌≡◌, ◌-◌}
use Rattle.tree_model.specs.Entries.{tree_of as tree_in}
use Rattle.workload_spec.specs.Packages.{packages, with_files, tree_of}
use Rattle.workload.specs.Putting.{rest_of, fresh}
use Rattle.workload.proofs.packages.tree_of.Given as goal

-- with the packages that are left the tree is whole
abbrev pub invariant-loop-number : goal.invariant-loop-number
invariant-loop-number l =
    (with_files (tree_in l.folder.entries) (packages l.number (l.fn.count - l.number)) ≡ tree_of l.fn.count)
    × (rest_of l.folder ≡ fresh)
