use Rattle.std.proofs.Common.{◌≡◌, length, reverse}
use Rattle.import_map_spec.specs.Parsing.{addresses_onto, normalized_addresses}
use Rattle.ordered_json.specs.Lists.{pairs_of}
use Rattle.ordered_json.specs.Shown.{members_of}
use Rattle.map_parse.proofs.addresses.gathered_from.Given as goal

-- what is left, put onto what is there, gives the whole
abbrev pub invariant-loop-key : goal.invariant-loop-key
invariant-loop-key l = normalized_addresses l.base (members_of (pairs_of l.fn.members)) ≡ addresses_onto l.base l.addresses (members_of (reverse l.pairs.items))

abbrev pub decreases-loop-key : goal.decreases-loop-key
decreases-loop-key l = length l.pairs.items
