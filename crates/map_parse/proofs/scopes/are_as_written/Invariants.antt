use Rattle.std.proofs.Common.{length}
use Rattle.ordered_json.specs.Shown.{members_of}
use Rattle.map_parse.proofs.PlainNames.{ArePlain}
use Rattle.map_parse.proofs.scopes.are_as_written.Given as goal

-- where what is left has no array index, the whole has none
abbrev pub invariant-loop-pair : goal.invariant-loop-pair
invariant-loop-pair l = ArePlain (members_of l.rest) → ArePlain (members_of l.fn.pairs)

abbrev pub decreases-loop-pair : goal.decreases-loop-pair
decreases-loop-pair l = length l.rest
