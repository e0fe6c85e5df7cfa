use Rattle.std.proofs.Common.{◌≡◌, ◌<◌, ◌∷◌, length, take, drop, map, sym, ap, ◌∙◌, subst, arith}
use Rattle.std.specs.Prelude.{All}
use Rattle.std.proofs.lemmas.List.Elements.{All-take, All-drop}
use Rattle.module_graph.specs.Many.{AreApart, AreLive, SetsAll, ConnectsAll, slot_in}
use Rattle.module_graph.proofs.Many.{no_slots, first_live, live_behind, connects_none, connects_one}
use Rattle.module_graph.proofs.graph.Graph.connect_all.Goals as goal

pub loop-from-init : goal.loop-from-init
loop-from-init c = record { completes = λ new connects. connects; live = c.requires.live; apart = c.requires.apart; within = c.requires.within }

pub loop-from-preserved : goal.loop-from-preserved
loop-from-preserved c =
    let is : c.loop-from.rest.now ≡ c.in-Some.from.now ∷ c.in-Some.more.now = c.in-Some.ensures.cases.0 in
    let live = first_live c.loop-from.self c.in-Some.from.now c.in-Some.more.now (length c.loop-from.left.now) (subst (λ slots. AreLive c.loop-from.self slots (length c.loop-from.left.now)) is c.loop-from.invariant.live) in
    let apart : AreApart (c.in-Some.from.now ∷ c.in-Some.more.now) = subst AreApart is c.loop-from.invariant.apart in
    let count : c.requests.result ≡ length live.first.requests.value = c.requests.ensures live.first live.here in
    let own : c.split_at.result.0.now ≡ take (length live.first.requests.value) c.loop-from.left.now = c.split_at.ensures.front ∙ ap (λ n. take n c.loop-from.left.now) count in
    let others : c.split_at.result.1.now ≡ drop (length live.first.requests.value) c.loop-from.left.now = c.split_at.ensures.back ∙ ap (λ n. drop n c.loop-from.left.now) count in
    let one : SetsAll c.loop-from.self c.set_all.new.self c.in-Some.from.now 0 (map (slot_in c.args.slots.now) (take (length live.first.requests.value) c.loop-from.left.now)) = subst (λ ls. SetsAll c.loop-from.self c.set_all.new.self c.in-Some.from.now 0 (map (slot_in c.args.slots.now) ls)) own c.set_all.ensures in
    record {
      completes = λ new connects.
          c.loop-from.invariant.completes new
          (subst (λ slots. ConnectsAll c.loop-from.self new slots (map (slot_in c.args.slots.now) c.loop-from.left.now)) (sym is)
          (connects_one c.loop-from.self c.set_all.new.self new c.in-Some.from.now c.in-Some.more.now (slot_in c.args.slots.now) c.loop-from.left.now live.first live.here apart.0 one
          (subst (λ ls. ConnectsAll c.set_all.new.self new c.in-Some.more.now (map (slot_in c.args.slots.now) ls)) others connects)));
      live = live_behind c.loop-from.self c.set_all.new.self c.in-Some.from.now c.in-Some.more.now (length c.split_at.result.1.now) one.elsewhere apart.0
          (live.others (length c.split_at.result.1.now) (let back = c.split_at.ensures.back_len in omega (arith, back, count)));
      apart = apart.1;
      within = subst (All (λ lead. lead < length c.args.slots.now)) (sym c.split_at.ensures.back) (All-drop (λ lead. lead < length c.args.slots.now) c.requests.result c.loop-from.left.now c.loop-from.invariant.within);
    }

pub split_at-requires : goal.split_at-requires
split_at-requires c =
    let is : c.loop-from.rest.now ≡ c.in-Some.from.now ∷ c.in-Some.more.now = c.in-Some.ensures.cases.0 in
    let live = first_live c.loop-from.self c.in-Some.from.now c.in-Some.more.now (length c.loop-from.left.now) (subst (λ slots. AreLive c.loop-from.self slots (length c.loop-from.left.now)) is c.loop-from.invariant.live) in
    let count = c.requests.ensures live.first live.here in let few = live.few in omega (arith, count, few)

pub set_all-requires-clause-live : goal.set_all-requires-clause-live
set_all-requires-clause-live c =
    let is : c.loop-from.rest.now ≡ c.in-Some.from.now ∷ c.in-Some.more.now = c.in-Some.ensures.cases.0 in
    let live = first_live c.loop-from.self c.in-Some.from.now c.in-Some.more.now (length c.loop-from.left.now) (subst (λ slots. AreLive c.loop-from.self slots (length c.loop-from.left.now)) is c.loop-from.invariant.live) in
    let count = c.requests.ensures live.first live.here in let front = c.split_at.ensures.front_len in
    (live.first, live.here, omega (arith, count, front))

pub set_all-requires-clause-within : goal.set_all-requires-clause-within
set_all-requires-clause-within c = subst (All (λ lead. lead < length c.args.slots.now)) (sym c.split_at.ensures.front) (All-take (λ lead. lead < length c.args.slots.now) c.requests.result c.loop-from.left.now c.loop-from.invariant.within)

pub returns : goal.returns
returns c =
    c.loop-from.invariant.completes c.loop-from.self
    (subst (λ slots. ConnectsAll c.loop-from.self c.loop-from.self slots (map (slot_in c.args.slots.now) c.loop-from.left.now)) (sym (no_slots c.loop-from.rest.now c.in_default.ensures.cases)) (connects_none c.loop-from.self (map (slot_in c.args.slots.now) c.loop-from.left.now)))
