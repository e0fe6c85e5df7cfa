use Rattle.std.proofs.Common.{◌≡◌, length, reverse}
use Rattle.std.specs.FinMap.{empty}
use Rattle.import_map_spec.specs.Parsing.{scopes_onto}
use Rattle.ordered_json.specs.Lists.{pairs_of}
use Rattle.ordered_json.specs.Shown.{members_of}
use Rattle.map_parse.proofs.scopes.gathered_from.Given as goal

-- what is left, put onto what is there, gives the whole
abbrev pub invariant-loop-key : goal.invariant-loop-key
invariant-loop-key l = scopes_onto l.base empty (members_of (pairs_of l.fn.members)) ≡ scopes_onto l.base l.scopes (members_of (reverse l.pairs.items))

abbrev pub decreases-loop-key : goal.decreases-loop-key
decreases-loop-key l = length l.pairs.items
