use Rattle.std.proofs.Common.{◌<◌, ◌++◌, ◌∷◌, [], length, map, take, sym, ap, ◌∙◌, arith, append-nil, append_assoc}
use Rattle.std.proofs.lemmas.List.{take_all}
use Rattle.graph_repair.specs.Leads.{place_in}
use Rattle.graph_repair.proofs.Led.{next_lead}
use Rattle.graph_repair.proofs.leads.add_targets.Goals as goal

pub loop-request-init : goal.loop-request-init
loop-request-init c = sym (append-nil c.args.leads.now.items)

pub loop-request-preserved : goal.loop-request-preserved
loop-request-preserved c =
    let lead = place_in c.args.places.now.items in
    let targets = c.args.module.now.targets in
    let each = c.requests-request-end.ensures.well_made.one_each in
    let below : c.loop-request.request < length c.args.module.now.targets = omega (arith, each, c.requests-request-end.ensures.count, c.loop-request-test.true) in
    c.in_ok-push.ensures.items
    ∙ (ap (λ front. front ++ c.place_of.result ∷ []) c.loop-request.invariant
    ∙ (append_assoc c.args.leads.now.items (map lead (take c.loop-request.request targets)) (c.place_of.result ∷ [])
    ∙ (ap (λ p. c.args.leads.now.items ++ (map lead (take c.loop-request.request targets) ++ p ∷ [])) (c.place_of.ensures ∙ ap lead c.target.ensures)
    ∙ ap (λ back. c.args.leads.now.items ++ back) (sym (next_lead lead targets c.loop-request.request below)))))

pub returns : goal.returns
returns c =
    let each = c.requests-request-end.ensures.well_made.one_each in
    c.loop-request.invariant
    ∙ ap (λ ts. c.args.leads.now.items ++ map (place_in c.args.places.now.items) ts)
    (take_all c.loop-request.request c.args.module.now.targets (omega (arith, each, c.requests-request-end.ensures.count, c.loop-request-test.false)))
