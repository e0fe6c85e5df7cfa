use Rattle.std.proofs.Common.{◌≡◌, ℕ, List, ◌++◌}
use Rattle.ordered_json.specs.declared.value.Value.{Value}
use Rattle.ordered_json.specs.Lists.{pairs_of}
use Rattle.ordered_json.specs.Shown.{members_of}
use Rattle.package_record.specs.Fields.{HoldsFields}
use Rattle.package_record.proofs.fields.fields_of.Given as goal

-- the members that were looked at stand behind those that are left
abbrev pub invariant-loop-key : goal.invariant-loop-key
invariant-loop-key l = (seen : List (List ℕ × Value)) × (pairs_of l.fn.members ≡ l.pairs.items ++ seen) × HoldsFields l.fields (members_of seen)

abbrev pub decreases-loop-key : goal.decreases-loop-key
decreases-loop-key l = goal.left-loop-key l
