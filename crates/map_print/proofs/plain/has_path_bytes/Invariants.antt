use Rattle.std.proofs.Common.{◌≡◌, length}
use Rattle.std.specs.List.{list_all}
use Rattle.map_print.specs.PlainRests.{is_path_byte}
use Rattle.map_print.proofs.plain.has_path_bytes.Given as goal

abbrev pub invariant-loop-first : goal.invariant-loop-first
invariant-loop-first l = list_all is_path_byte l.fn.text ≡ list_all is_path_byte l.rest

abbrev pub decreases-loop-first : goal.decreases-loop-first
decreases-loop-first l = length l.rest
