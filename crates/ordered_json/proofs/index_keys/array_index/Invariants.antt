use Rattle.std.proofs.Common.{drop}
use Rattle.ordered_json.proofs.IndexKeys.{StandsFor}
use Rattle.ordered_json.proofs.index_keys.array_index.Given as goal

abbrev pub invariant-loop-byte : goal.invariant-loop-byte
invariant-loop-byte l = StandsFor l.fn.text (drop l.byte-index l.fn.text) l.number
