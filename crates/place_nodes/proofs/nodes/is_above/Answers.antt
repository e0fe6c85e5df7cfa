use Rattle.std.proofs.Common.{rules, ◌≡◌, sym, subst}
use Rattle.std.proofs.lemmas.Bool.{true≢false}
use Rattle.std.specs.Prelude.{IfOk}
use Rattle.layout_spec.specs.Places.{is_folder}
use Rattle.place_nodes.proofs.Walking.{not_front, not_whole, free_front, folder_found}
use Rattle.place_nodes.proofs.nodes.is_above.Goals as goal

pub returns-in_default : goal.returns-in_default
returns-in_default c = (
  (λ f. absurd (true≢false (sym f))),
  (λ at. absurd (not_front c.args.place.now c.args.node.now.place (search rules) at)),
)

pub returns-then-is_empty : goal.returns-then-is_empty
returns-then-is_empty c = (
  (λ f. absurd (true≢false (sym f))),
  (λ at. absurd (not_whole c.args.place.now c.args.node.now.place c.in-Some.rest.now (search rules) (search rules) at)),
)

pub returns-then-is_none : goal.returns-then-is_none
returns-then-is_none c =
    let some = c.requires (search rules) in (
      (λ t. free_front c.args.place.now c.args.node.now.place c.in-Some.rest.now some.0 (search rules) (search rules) some.1),
      (λ at. search rules),
    )

pub returns : goal.returns
returns c =
    folder_found _ c.args.place.now c.args.node.now.place c.in-Some.rest.now c.is_folder.result (search rules) (search rules)
    (search rules)
    (subst (λ text. IfOk c.is_folder.result (λ is. is ≡ is_folder text)) c.as_str-higher.ensures c.is_folder.ensures)
