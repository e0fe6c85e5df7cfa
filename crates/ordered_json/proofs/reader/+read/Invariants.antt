use Rattle.std.proofs.Common.{map, ◌+◌, ◌*◌, ◌≤◌, length}
use Rattle.json_spec.specs.Grammar.{after_space, Reads}
use Rattle.json_spec.specs.Value.{settled}
use Rattle.ordered_json.specs.Shown.{json_of, members_of}
use Rattle.ordered_json.proofs.GrammarLemmas.{AwaitsItem, AwaitsMember}
use Rattle.ordered_json.proofs.reader.+read.Given as goal

abbrev pub decreases-read_items : goal.decreases-read_items
decreases-read_items l = 2 * l.depth + 1

abbrev pub decreases-read_members : goal.decreases-read_members
decreases-read_members l = 2 * l.depth + 1

abbrev pub decreases-read_value : goal.decreases-read_value
decreases-read_value l = 2 * l.depth

abbrev pub invariant-read_items-loop-values : goal.invariant-read_items-loop-values
invariant-read_items-loop-values l = record { awaits : AwaitsItem (Reads l.fn.depth) (after_space l.fn.bytes) (map json_of l.values.items) l.rest; shorter : length l.rest ≤ length l.fn.bytes }

abbrev pub decreases-read_items-loop-values : goal.decreases-read_items-loop-values
decreases-read_items-loop-values l = length l.rest

abbrev pub invariant-read_members-loop-written : goal.invariant-read_members-loop-written
invariant-read_members-loop-written l = record { awaits : AwaitsMember (Reads l.fn.depth) (after_space l.fn.bytes) (settled (members_of l.written.items)) l.rest; shorter : length l.rest ≤ length l.fn.bytes }

abbrev pub decreases-read_members-loop-written : goal.decreases-read_members-loop-written
decreases-read_members-loop-written l = length l.rest
