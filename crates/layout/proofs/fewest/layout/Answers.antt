use Rattle.std.proofs.Common.{sym, subst}
use Rattle.std.proofs.lemmas.Result.{err_from_is_err_and}
use Rattle.fewest_spec.specs.Wishes.{HasTooManyChoices}
use Rattle.place_nodes.specs.Rows.{IsTable}
use Rattle.layout.specs.Laid.{laid_map}
use Rattle.layout.specs.Layouts.{HasFewest}
use Rattle.layout.proofs.Ways.{table_of, too_many_too, back_again, needs_laid, needs_few}
use Rattle.layout.proofs.fewest.layout.Goals as goal

pub lay_rows-requires : goal.lay_rows-requires
lay_rows-requires c = subst IsTable (sym c.as_slice.ensures.value) (table_of c.args.needs.now c.in_ok-rows.rows.items c.in_ok-rows.ensures.same c.len-apart.ensures.no_clash c.in_ok-rows.ensures.order)

pub returns-in_err-laid-clause-many : goal.returns-in_err-laid-clause-many
returns-in_err-laid-clause-many c =
    let p = err_from_is_err_and c.from_residual-in_err-laid.result c.from_residual-in_err-laid.ensures.1 in
    rw (p.1, p.2) (λ same.
    too_many_too c.in_ok-rows.rows.items c.args.needs.now (back_again c.args.needs.now c.in_ok-rows.rows.items c.in_ok-rows.ensures.same) (subst HasTooManyChoices c.as_slice.ensures.value (c.in_err-laid.ensures.many same)))

pub returns-clause-fewest : goal.returns-clause-fewest
returns-clause-fewest c =
    needs_laid c.args.needs.now c.in_ok-rows.rows.items (laid_map c.in_ok-laid.laid) c.in_ok-into_layout.field-0 c.in_ok-rows.ensures.same
    (subst (λ ns. HasFewest ns (laid_map c.in_ok-laid.laid)) c.as_slice.ensures.value c.in_ok-laid.ensures.laid) c.in_ok-into_layout.ensures

pub returns-clause-few : goal.returns-clause-few
returns-clause-few c =
    needs_few c.args.needs.now c.in_ok-rows.rows.items (laid_map c.in_ok-laid.laid) c.in_ok-rows.ensures.same
    (subst (λ ns. HasFewest ns (laid_map c.in_ok-laid.laid)) c.as_slice.ensures.value c.in_ok-laid.ensures.laid)
