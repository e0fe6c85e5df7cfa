use Rattle.std.proofs.Common.{ap, sym, ◌∙◌}
use Rattle.std.specs.Prelude.{length, map}
use Rattle.std.proofs.lemmas.Bool.{eqb-true, eqb-false}
use Rattle.std.proofs.lemmas.List.{nil_from_length}
use Rattle.json_spec.specs.Value.{a_list}
use Rattle.ordered_json.specs.Shown.{json_of, items_from}
use Rattle.ordered_json.proofs.ShownLemmas.{json_of_list}
use Rattle.condition_match.proofs.ReduceLemmas.{first_whole, back_whole}
use Rattle.condition_match.proofs.reducing.whole.Goals as goal

pub returns-then-is_empty : goal.returns-then-is_empty
returns-then-is_empty c = first_whole c.args.left (sym c.as_slice.ensures.value ∙ nil_from_length _ (eqb-true _ 0 (sym c.is_empty.ensures ∙ c.if-is_empty.true)))

pub returns : goal.returns
returns c =
    back_whole c.args.left _ (λ e. eqb-false _ 0 (sym c.is_empty.ensures ∙ c.if-is_empty.false) (ap length (c.as_slice.ensures.value ∙ e)))
    (λ none. json_of_list _ ∙ (ap (λ vs. a_list (items_from (map json_of vs))) c.in_ok-turned.ensures
    ∙ ap (λ js. a_list (items_from js)) (c.in_ok-back.ensures none)))
