use Rattle.json_spec.specs.PrintedValue.{line}
use Rattle.ordered_json.specs.Appending.{Appends}
use Rattle.map_print.proofs.print.push_line.Given as goal

abbrev pub invariant-loop : goal.invariant-loop
invariant-loop l = Appends l.fn.out.items l.out.items (line l.counter)
