use Rattle.std.proofs.Common.{◌≡◌, length}
use Rattle.import_map_spec.specs.Parsing.{member}
use Rattle.ordered_json.specs.Lists.{pairs_of}
use Rattle.ordered_json.specs.Shown.{members_of}
use Rattle.project_file.proofs.parts.member.Given as goal

-- the members that were passed have other names
abbrev pub invariant-loop-pair : goal.invariant-loop-pair
invariant-loop-pair l = member l.name (members_of (pairs_of l.members)) ≡ member l.name (members_of l.rest)

abbrev pub decreases-loop-pair : goal.decreases-loop-pair
decreases-loop-pair l = length l.rest
