use Rattle.std.proofs.Common.{rules, map, ◌≡◌, [], ◌∷◌, ◌++◌}
use Rattle.std.proofs.lemmas.List.Elements.{All-push}
use Rattle.scope_builder.specs.Keys.{InKeyOrder}
use Rattle.layout.specs.Grouped.{listed_scope}
use Rattle.layout.proofs.Ordered.{front_in_order, listed_in_order, next_listed}
use Rattle.layout.proofs.laid.listed.Goals as goal

pub push-requires : goal.push-requires
push-requires c =
    let whole : InKeyOrder (map listed_scope c.args.grouped.entries) = listed_in_order c.args.grouped.entries (search rules) in
    front_in_order _ (map listed_scope c.next.new.self) _
    (next_listed c.loop-place.scopes c.loop-place.place-iterator c.next.new.self c.in-Some.place c.in-Some.scope c.in_ok-from_map.field-0 (search rules) (search rules) (search rules))
    whole

pub returns-clause-in_order : goal.returns-clause-in_order
returns-clause-in_order c =
    let whole : InKeyOrder (map listed_scope c.args.grouped.entries) = listed_in_order c.args.grouped.entries (search rules) in
    (front_in_order _ (map listed_scope c.loop-place.place-iterator) _ (search rules) whole, search rules)

pub loop-place-preserved : goal.loop-place-preserved
loop-place-preserved c =
    let pushed : c.push.new.self ≡ c.loop-place.scopes ++ (c.in-Some.place, c.in_ok-from_map.field-0) ∷ [] = search rules in
    let each = All-push (λ scope. InKeyOrder scope.1) c.loop-place.scopes (c.in-Some.place, c.in_ok-from_map.field-0) (search rules) c.in_ok-from_map.ensures.in_order in (
      tt,
      tt,
      rw pushed (next_listed c.loop-place.scopes c.loop-place.place-iterator c.next.new.self c.in-Some.place c.in-Some.scope c.in_ok-from_map.field-0 (search rules) (search rules) (search rules)),
      rw pushed each,
    )
