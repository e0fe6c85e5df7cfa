use Rattle.std.proofs.Common.{◌≤◌, length}
use Rattle.ordered_json.proofs.StringsLemmas.{Completes}
use Rattle.ordered_json.proofs.strings.read_characters.Given as goal

-- `found` is what completes the string, and `shorter` that nothing is put back
abbrev pub invariant-loop-text : goal.invariant-loop-text
invariant-loop-text l = record { found : Completes l.fn.bytes l.text.items l.rest; shorter : length l.rest ≤ length l.fn.bytes }

abbrev pub decreases-loop-text : goal.decreases-loop-text
decreases-loop-text l = length l.rest
