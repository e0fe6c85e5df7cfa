use Rattle.std.proofs.Common.{◌≡◌, ◌==◌, true, length, eqb-true, eq-eqb, ap, sym}
use Rattle.std.proofs.lemmas.List.{nil_from_length}
use Rattle.std.proofs.lemmas.Result.{err_from_is_err_and}
use Rattle.json_spec.proofs.BracketCount.{most_depth_is}
use Rattle.ordered_json.proofs.GrammarLemmas.{whole_fault, whole_value, more_than_value}
use Rattle.ordered_json.proofs.reader.read_whole.Goals as goal

pub returns-in_err-value : goal.returns-in_err-value
returns-in_err-value c =
    let p = err_from_is_err_and c.from_residual.result c.from_residual.ensures.1 in
    rw (p.1, p.2) (whole_fault 128 _ _ (sym most_depth_is) c.skip_space.ensures _ c.in_err-value.ensures.reads)

pub returns-then-is_empty : goal.returns-then-is_empty
returns-then-is_empty c =
    whole_value 128 _ _ _ _ _ (sym most_depth_is) c.skip_space.ensures c.in_ok-value.ensures.reads c.skip_space-rest.ensures
    (nil_from_length _ (eqb-true _ 0 (sym c.if-is_empty.ensures)))

pub returns-else-is_empty : goal.returns-else-is_empty
returns-else-is_empty c =
    more_than_value 128 _ _ _ _ _ (sym most_depth_is) c.skip_space.ensures c.in_ok-value.ensures.reads c.skip_space-rest.ensures
    (λ e. let t : (length c.skip_space-rest.result.now == 0) ≡ true = eq-eqb _ 0 (ap length e) in cc)
