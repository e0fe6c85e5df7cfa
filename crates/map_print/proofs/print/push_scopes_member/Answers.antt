use Rattle.std.proofs.Common.{rules, ap, ℕ, List, ◌++◌}
use Rattle.std.specs.Prelude.{codes}
use Rattle.std.proofs.lemmas.Result.{on_ok_weaker}
use Rattle.layout_spec.specs.ShortForms.{short}
use Rattle.map_print.specs.PrintedLists.{mappings_value}
use Rattle.map_print.specs.declared.print.Values.TheVariants.{Addresses}
use Rattle.map_print.proofs.PrintedParts.{part}
use Rattle.map_print.proofs.print.push_scopes_member.Goals as goal

pub returns : goal.returns
returns c = on_ok_weaker c.push_scopes.result (part (λ scope. short c.args.folder.now scope.0) (λ scope. mappings_value Addresses c.args.folder.now scope.1) (codes "scopes") c.as_slice.result.now c.args.scopes.now (search rules) (λ rest. ap (λ (xs : List ℕ). xs ++ rest) c.as_slice.ensures) (search rules)) c.push_scopes.ensures
