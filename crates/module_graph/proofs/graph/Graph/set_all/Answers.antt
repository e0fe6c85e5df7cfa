use Rattle.std.proofs.Common.{◌≡◌, ◌<◌, ◌+◌, ◌∷◌, length, map, drop, sym, ap, ◌∙◌, subst, arith}
use Rattle.std.specs.Prelude.{All}
use Rattle.std.proofs.lemmas.List.{drop_all}
use Rattle.std.proofs.lemmas.List.Elements.{All-head, All-drop}
use Rattle.std.proofs.lemmas.Option.{slice_get_within}
use Rattle.shared_types.proofs.ListSteps.{drop_at}
use Rattle.module_graph.specs.Many.{SetsAll, slot_in}
use Rattle.module_graph.proofs.Many.{sets_none, sets_one, still_live}
use Rattle.module_graph.proofs.graph.Graph.set_all.Goals as goal

pub loop-request-init : goal.loop-request-init
loop-request-init c = record { completes = λ new sets. sets; live = c.requires.live }

pub loop-request-preserved : goal.loop-request-preserved
loop-request-preserved c =
    let is = drop_at c.args.leads.now c.loop-request.request c.place_at.result c.place_at.ensures in
    let below = slice_get_within c.args.leads.now c.loop-request.request c.place_at.result c.place_at.ensures in
    let m = c.loop-request.invariant.live.0 in
    let here = c.loop-request.invariant.live.1 in
    let few = c.loop-request.invariant.live.2 in
    let targets : c.slot_at.result ∷ map (slot_in c.args.slots.now) (drop (c.loop-request.request + 1) c.args.leads.now) ≡ map (slot_in c.args.slots.now) (drop c.loop-request.request c.args.leads.now) = ap (λ t. t ∷ map (slot_in c.args.slots.now) (drop (c.loop-request.request + 1) c.args.leads.now)) c.slot_at.ensures ∙ ap (map (slot_in c.args.slots.now)) (sym is) in
    let still = still_live c.loop-request.self c.connect.new.self c.args.from c.slot_at.result c.loop-request.request c.connect.result m here (omega (arith, few, below)) c.connect.ensures in
    record {
      completes = λ new sets.
          c.loop-request.invariant.completes new
          (subst (λ ts. SetsAll c.loop-request.self new c.args.from c.loop-request.request ts) targets
          (sets_one c.loop-request.self c.connect.new.self new c.args.from c.slot_at.result c.loop-request.request (map (slot_in c.args.slots.now) (drop (c.loop-request.request + 1) c.args.leads.now)) c.connect.result m here (omega (arith, few, below)) c.connect.ensures sets));
      live = (still.0, still.1, (let same = still.2 in omega (arith, few, same)));
    }

pub slot_at-requires : goal.slot_at-requires
slot_at-requires c =
    All-head (λ lead. lead < length c.args.slots.now) c.place_at.result (drop (c.loop-request.request + 1) c.args.leads.now)
    (subst (All (λ lead. lead < length c.args.slots.now)) (drop_at c.args.leads.now c.loop-request.request c.place_at.result c.place_at.ensures) (All-drop (λ lead. lead < length c.args.slots.now) c.loop-request.request c.args.leads.now c.requires.within))

pub returns : goal.returns
returns c =
    let past = drop_all c.loop-request.request c.args.leads.now (omega (arith, c.loop-request-test.false)) in
    c.loop-request.invariant.completes c.loop-request.self
    (subst (λ ls. SetsAll c.loop-request.self c.loop-request.self c.args.from c.loop-request.request (map (slot_in c.args.slots.now) ls)) (sym past) (sets_none c.loop-request.self c.args.from c.loop-request.request))
