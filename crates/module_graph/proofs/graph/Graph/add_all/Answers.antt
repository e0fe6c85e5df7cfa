use Rattle.std.proofs.Common.{◌≡◌, [], ◌∷◌, ◌++◌, Some, reverse, sym, ap, ◌∙◌, subst, arith, append-nil, append_assoc}
use Rattle.std.proofs.lemmas.List.{reverse-append}
use Rattle.std.proofs.lemmas.List.Elements.{All-pop}
use Rattle.module_graph.specs.Many.{AddsAll}
use Rattle.module_graph.specs.Modules.{IsModule}
use Rattle.module_graph.proofs.Many.{no_slots, spare_less, adds_none, adds_one}
use Rattle.module_graph.proofs.graph.Graph.add_all.Goals as goal

pub loop-module-init : goal.loop-module-init
loop-module-init c = record {
  added = [];
  slots = sym (append-nil c.args.slots.now.items);
  completes = λ new more adds. adds;
  spare = c.requires.spare;
  well_made = c.requires.well_made;
  room = c.requires.room;
}

pub add-requires-clause-spare : goal.add-requires-clause-spare
add-requires-clause-spare c = let count = c.in-Some.ensures.len in let room = c.loop-module.invariant.spare in omega (arith, count, room)

pub add-requires-clause-well_made : goal.add-requires-clause-well_made
add-requires-clause-well_made c = (All-pop IsModule c.loop-module.waiting.items c.pop.new.self.items (Some c.in-Some.module) c.in-Some.ensures.items c.loop-module.invariant.well_made).1

pub push_reserved-requires : goal.push_reserved-requires
push_reserved-requires c = let count = c.in-Some.ensures.len in let room = c.loop-module.invariant.room in omega (arith, count, room)

pub loop-module-preserved : goal.loop-module-preserved
loop-module-preserved c =
    let popped : c.loop-module.waiting.items ≡ c.pop.new.self.items ++ c.in-Some.module ∷ [] = c.in-Some.ensures.items in
    let order : reverse c.loop-module.waiting.items ≡ c.in-Some.module ∷ reverse c.pop.new.self.items = ap reverse popped ∙ reverse-append c.pop.new.self.items (c.in-Some.module ∷ []) in
    let count = c.in-Some.ensures.len in
    let before = c.loop-module.invariant in
    record {
      added = before.added ++ c.add.result ∷ [];
      slots = c.push_reserved.ensures.items ∙ (ap (λ slots. slots ++ c.add.result ∷ []) before.slots ∙ append_assoc c.args.slots.now.items before.added (c.add.result ∷ []));
      completes = λ new more adds.
          subst (AddsAll c.args.self.now new (reverse c.args.modules.items)) (sym (append_assoc before.added (c.add.result ∷ []) more))
          (before.completes new (c.add.result ∷ more)
          (subst (λ ms. AddsAll c.loop-module.self new ms (c.add.result ∷ more)) (sym order)
          (adds_one c.loop-module.self c.add.new.self new c.add.result c.in-Some.module (reverse c.pop.new.self.items) more c.add.ensures.fresh c.add.ensures.placed adds)));
      spare = (let less = spare_less c.loop-module.self c.add.new.self c.add.result c.in-Some.module c.add.ensures.fresh c.add.ensures.placed in let room = before.spare in omega (arith, count, less, room));
      well_made = (All-pop IsModule c.loop-module.waiting.items c.pop.new.self.items (Some c.in-Some.module) c.in-Some.ensures.items before.well_made).0;
      room = (let len = c.push_reserved.ensures.len in let capacity = c.push_reserved.ensures.capacity in let room = before.room in omega (arith, count, len, capacity, room));
    }

pub returns : goal.returns
returns c =
    let before = c.loop-module.invariant in (
      before.added,
      before.slots,
      subst (AddsAll c.args.self.now c.loop-module.self (reverse c.args.modules.items)) (append-nil before.added)
          (before.completes c.loop-module.self [] (subst (λ ms. AddsAll c.loop-module.self c.loop-module.self ms []) (ap reverse (sym (no_slots c.loop-module.waiting.items (let empty = c.in_default.ensures.cases.0 in let kept = c.loop-module.waiting.ok.0 in omega (arith, empty, kept))))) (adds_none c.loop-module.self))),
    )
