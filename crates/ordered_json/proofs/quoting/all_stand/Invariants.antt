use Rattle.std.proofs.Common.{◌≡◌, take, IsTrue}
use Rattle.json_spec.specs.PrintedString.{escaped}
use Rattle.ordered_json.proofs.quoting.all_stand.Given as goal

abbrev pub invariant-loop-byte : goal.invariant-loop-byte
invariant-loop-byte l = IsTrue l.all → escaped (take l.byte-index l.bytes) ≡ take l.byte-index l.bytes
