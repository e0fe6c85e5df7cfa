use Rattle.std.proofs.Common.{◌≡◌, ◌<◌, length, map, reverse, sym, ap, ◌∙◌, subst, arith}
use Rattle.std.specs.Prelude.{All, vec_len}
use Rattle.std.proofs.lemmas.List.{length-map, length-reverse}
use Rattle.std.proofs.lemmas.List.Elements.{All-take, All-drop}
use Rattle.module_graph.specs.Modules.{IsModule}
use Rattle.module_graph.specs.Many.{slot_in}
use Rattle.trace_graph.proofs.Showing.{parts_whole, all_reversed, is_graph_of, is_linked}
use Rattle.trace_graph.proofs.trace_graph.TraceGraph.of.Goals as goal

pub invariant_of-result : goal.invariant_of-result
invariant_of-result c =
    let slots = c.in_ok-graph.slots.items in
    let firsts = c.split_at.result.0.now in
    let others = c.split_at.result.1.now in
    let count = c.in_ok-graph.ensures.count in
    let reversed = length-reverse c.args.modules.items in
    let kept = c.args.modules.ok.0 in
    let many : vec_len c.args.modules ≡ length slots = omega (arith, count, reversed, kept) in
    let within : All (λ lead. lead < length slots) c.args.leads.now = subst (λ n. All (λ lead. lead < n) c.args.leads.now) many c.requires.within in
    let back = c.split_at.ensures.back_len in
    let each = c.requires.each in
    is_linked c.in_ok-graph.graph slots c.in_ok-roots.roots.items (reverse c.args.modules.items) firsts others
    c.in_ok-graph.ensures (all_reversed IsModule c.args.modules.items c.requires.well_made) (omega (arith, back, each))
    (subst (All (λ lead. lead < length slots)) (sym c.split_at.ensures.front) (All-take (λ lead. lead < length slots) c.args.entries c.args.leads.now within))
    (subst (All (λ lead. lead < length slots)) (sym c.split_at.ensures.back) (All-drop (λ lead. lead < length slots) c.args.entries c.args.leads.now within))
    (c.in_ok-roots.ensures ∙ ap (λ ss. map (slot_in ss) firsts) c.deref.ensures.value)

pub returns-clause-graph : goal.returns-clause-graph
returns-clause-graph c =
    let slots = c.in_ok-graph.slots.items in
    let firsts = c.split_at.result.0.now in
    let others = c.split_at.result.1.now in
    let count = c.in_ok-graph.ensures.count in
    let reversed = length-reverse c.args.modules.items in
    let kept = c.args.modules.ok.0 in
    let many : vec_len c.args.modules ≡ length slots = omega (arith, count, reversed, kept) in
    let within : All (λ lead. lead < length slots) c.args.leads.now = subst (λ n. All (λ lead. lead < n) c.args.leads.now) many c.requires.within in
    let back = c.split_at.ensures.back_len in
    let each = c.requires.each in
    is_graph_of c.in_ok-graph.graph slots c.in_ok-roots.roots.items (reverse c.args.modules.items) firsts others
    c.in_ok-graph.ensures (all_reversed IsModule c.args.modules.items c.requires.well_made) (omega (arith, back, each))
    (subst (All (λ lead. lead < length slots)) (sym c.split_at.ensures.front) (All-take (λ lead. lead < length slots) c.args.entries c.args.leads.now within))
    (subst (All (λ lead. lead < length slots)) (sym c.split_at.ensures.back) (All-drop (λ lead. lead < length slots) c.args.entries c.args.leads.now within))
    (c.in_ok-roots.ensures ∙ ap (λ ss. map (slot_in ss) firsts) c.deref.ensures.value) c.args.leads.now
    (parts_whole c.args.entries c.args.leads.now firsts others c.split_at.ensures.front c.split_at.ensures.back) within

pub returns-clause-entries : goal.returns-clause-entries
returns-clause-entries c =
    let front = c.split_at.ensures.front_len in
    ap length c.in_ok-roots.ensures ∙ length-map c.split_at.result.0.now (slot_in _) ∙ omega (arith, front)
