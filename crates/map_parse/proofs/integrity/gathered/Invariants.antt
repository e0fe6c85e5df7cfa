use Rattle.std.proofs.Common.{◌≡◌, length, reverse}
use Rattle.import_map_spec.specs.Parsing.{integrity_onto, normalized_integrity}
use Rattle.ordered_json.specs.Lists.{pairs_of}
use Rattle.ordered_json.specs.Shown.{members_of}
use Rattle.map_parse.proofs.integrity.gathered.Given as goal

-- what is left, put onto what is there, gives the whole
abbrev pub invariant-loop-key : goal.invariant-loop-key
invariant-loop-key l = normalized_integrity l.base (members_of (pairs_of l.fn.members)) ≡ integrity_onto l.base l.digests (members_of (reverse l.pairs.items))

abbrev pub decreases-loop-key : goal.decreases-loop-key
decreases-loop-key l = length l.pairs.items
