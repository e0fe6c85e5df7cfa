use Rattle.std.proofs.Common.{rules, refl}
use Rattle.std.proofs.lemmas.Result.{on_ok_weaker}
use Rattle.layout_spec.specs.ShortForms.{short}
use Rattle.map_print.specs.PrintedLists.{mappings_value}
use Rattle.map_print.specs.declared.print.Values.TheVariants.{Addresses}
use Rattle.map_print.proofs.PrintedParts.{object}
use Rattle.map_print.proofs.print.push_scopes.Goals as goal

pub returns : goal.returns
returns c =
    on_ok_weaker c.push_close.result
    (object (λ scope. short c.args.folder.now scope.0) (λ scope. mappings_value Addresses c.args.folder.now scope.1) 1 2 c.in-Some.first.now c.in-Some.more.now c.args.scopes.now refl (search rules) (search rules) (c.in_ok-push_scope.ensures) (c.in_ok-push_more_scopes.ensures))
    c.push_close.ensures
