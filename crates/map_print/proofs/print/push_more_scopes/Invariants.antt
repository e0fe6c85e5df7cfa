use Rattle.std.proofs.Common.{drop}
use Rattle.json_spec.specs.PrintedValue.{printed_members}
use Rattle.map_print.specs.PrintedLists.{scopes_members}
use Rattle.ordered_json.proofs.Appends.{Completes}
use Rattle.map_print.proofs.print.push_more_scopes.Given as goal

abbrev pub invariant-loop-scope : goal.invariant-loop-scope
invariant-loop-scope l = Completes l.fn.out.items l.out.items (printed_members 2 (scopes_members l.fn.folder l.fn.scopes)) (printed_members 2 (scopes_members l.fn.folder (drop l.scope-index l.fn.scopes)))
