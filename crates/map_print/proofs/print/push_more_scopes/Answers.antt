use Rattle.layout_spec.specs.ShortForms.{short}
use Rattle.map_print.specs.PrintedLists.{mappings_value}
use Rattle.map_print.specs.declared.print.Values.TheVariants.{Addresses}
use Rattle.map_print.proofs.PrintedParts.{all_members}
use Rattle.map_print.proofs.print.push_more_scopes.Goals as goal

pub returns : goal.returns
returns c = all_members (λ scope. short c.args.folder.now scope.0) (λ scope. mappings_value Addresses c.args.folder.now scope.1) 2 c.loop-scope.scope-index c.args.scopes.now c.loop-scope-test.false c.loop-scope.invariant
