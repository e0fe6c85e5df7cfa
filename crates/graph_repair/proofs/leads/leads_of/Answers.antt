use Rattle.std.proofs.Common.{◌≡◌, ◌++◌, ◌∷◌, map, sym, ap, ◌∙◌, append-nil, append_assoc}
use Rattle.std.specs.Prelude.{flat_map}
use Rattle.std.proofs.lemmas.List.{map-append}
use Rattle.module_graph.proofs.Many.{no_slots}
use Rattle.graph_repair.specs.Leads.{place_in, AreByPlace, targets_under}
use Rattle.graph_repair.proofs.Led.{in_their_places}
use Rattle.graph_repair.proofs.leads.leads_of.Goals as goal
use Rattle.std.proofs.Common.{subst}

pub loop-slot-init : goal.loop-slot-init
loop-slot-init c =
    let lead = place_in c.in_ok-places.places.items in
    ap (λ front. front ++ map lead (flat_map (targets_under c.args.trace.now.graph) c.slots-rest.result.now)) c.new-leads.ensures.items
    ∙ ap (λ slots. map lead (flat_map (targets_under c.args.trace.now.graph) slots)) c.slots-rest.ensures.slots

pub loop-slot-preserved : goal.loop-slot-preserved
loop-slot-preserved c =
    let lead = place_in c.in_ok-places.places.items in
    let under = targets_under c.args.trace.now.graph in
    let is : c.loop-slot.rest.now ≡ c.in-Some.slot.now ∷ c.in-Some.more.now = c.in-Some.ensures.cases.0 in
    ap (λ front. front ++ map lead (flat_map under c.in-Some.more.now)) c.in_ok-add_leads.ensures
    ∙ (ap (λ g. (c.loop-slot.leads.items ++ map lead (targets_under g c.in-Some.slot.now)) ++ map lead (flat_map under c.in-Some.more.now)) c.view-view.ensures.graph
    ∙ (append_assoc c.loop-slot.leads.items (map lead (under c.in-Some.slot.now)) (map lead (flat_map under c.in-Some.more.now))
    ∙ (ap (λ back. c.loop-slot.leads.items ++ back) (sym (map-append lead (under c.in-Some.slot.now) (flat_map under c.in-Some.more.now)))
    ∙ (ap (λ rest. c.loop-slot.leads.items ++ map lead (flat_map under rest)) (sym is) ∙ c.loop-slot.invariant))))

pub returns : goal.returns
returns c =
    let lead = place_in c.in_ok-places.places.items in
    let under = targets_under c.args.trace.now.graph in
    in_their_places c.args.trace.now c.in_ok-places.places.items c.slots.ensures.linked
    (subst (λ slots. AreByPlace slots c.in_ok-places.places.items) c.slots.ensures.slots c.in_ok-places.ensures) c.loop-slot.leads.items
    (sym (append-nil c.loop-slot.leads.items)
    ∙ (ap (λ rest. c.loop-slot.leads.items ++ map lead (flat_map under rest)) (sym (no_slots c.loop-slot.rest.now c.in_default.ensures.cases)) ∙ c.loop-slot.invariant))
