use Rattle.std.proofs.Common.{rules, ◌≡◌, sym, subst, Some, None}
use Rattle.std.specs.Prelude.{option_copied, OnOk}
use Rattle.place_nodes.specs.Building.{IsRowAdded}
use Rattle.place_nodes.specs.Growing.{IsGrown}
use Rattle.place_nodes.proofs.Finding.{row_first}
use Rattle.place_nodes.proofs.build.add_row.Goals as goal

pub returns-in-None : goal.returns-in-None
returns-in-None c =
    let none : option_copied c.args.last ≡ None = search rules in
    let name : c.as_str.result.now ≡ c.args.row.now.referrer = search rules in
    subst (λ o. OnOk c.add_places.result (IsRowAdded c.args.targets.now c.args.nodes.now.items o c.args.row.now c.add_places.new.nodes.items)) (sym none)
    (row_first _ c.args.targets.now c.args.nodes.now.items c.add_places.new.nodes.items c.args.row.now c.in-Some.own c.add_places.result (search rules)
    (subst (λ r. OnOk c.add_places.result (IsGrown c.args.nodes.now.items r c.in-Some.own c.add_places.new.nodes.items)) name c.add_places.ensures))

pub returns-in-Some-last : goal.returns-in-Some-last
returns-in-Some-last c =
    let last : Some c.need.result.now ≡ option_copied c.args.last = search rules in
    subst (λ o. OnOk c.add_behind.result (IsRowAdded c.args.targets.now c.args.nodes.now.items o c.args.row.now c.add_behind.new.nodes.items)) last
    (subst (λ n. OnOk c.add_behind.result (IsRowAdded c.args.targets.now c.args.nodes.now.items (Some c.need.result.now) n c.add_behind.new.nodes.items)) c.need-need.ensures c.add_behind.ensures)
