use Rattle.std.proofs.Common.{◌≡◌, drop}
use Rattle.node_spec.specs.PackageTargets.{has_index_key}
use Rattle.ordered_json.specs.Lists.{pairs_of}
use Rattle.ordered_json.specs.Shown.{members_of}
use Rattle.condition_match.proofs.index_keys.has_index_key.Given as goal

abbrev pub invariant-loop-index : goal.invariant-loop-index
invariant-loop-index l = has_index_key (members_of (drop l.index (pairs_of l.fn.members))) ≡ has_index_key (members_of (pairs_of l.fn.members))
