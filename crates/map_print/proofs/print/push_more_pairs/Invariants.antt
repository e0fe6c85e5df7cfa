use Rattle.std.proofs.Common.{drop}
use Rattle.json_spec.specs.PrintedValue.{printed_members}
use Rattle.map_print.specs.PrintedLists.{pairs_members}
use Rattle.ordered_json.proofs.Appends.{Completes}
use Rattle.map_print.proofs.print.push_more_pairs.Given as goal

abbrev pub invariant-loop-pair : goal.invariant-loop-pair
invariant-loop-pair l = Completes l.fn.out.items l.out.items (printed_members l.fn.level (pairs_members l.fn.values l.fn.folder l.fn.pairs)) (printed_members l.fn.level (pairs_members l.fn.values l.fn.folder (drop l.pair-index l.fn.pairs)))
