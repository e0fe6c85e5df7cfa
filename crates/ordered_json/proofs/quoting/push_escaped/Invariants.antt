use Rattle.std.proofs.Common.{◌≡◌, ◌++◌, take}
use Rattle.json_spec.specs.PrintedString.{escaped}
use Rattle.ordered_json.proofs.quoting.push_escaped.Given as goal

abbrev pub invariant-loop-byte : goal.invariant-loop-byte
invariant-loop-byte l = l.into.items ≡ l.fn.into.items ++ escaped (take l.byte-index l.bytes)
