use Rattle.std.proofs.Common.{◌≡◌, ◌∙◌, sym, subst, true≢false}
use Rattle.std.proofs.lemmas.Result.{IfOk-weaker}
use Rattle.std.proofs.lemmas.Slice.Eq.{bytes_eq-Decides}
use Rattle.chain_why.specs.Answers.{Answers}
use Rattle.generator_core.proofs.Explainings.{chain_reported, lost_reported, own_reported}
use Rattle.generator_core.proofs.LoadedBy.{all_set, steps_live}
use Rattle.generator_core.proofs.explaining.reported.Goals as goal

-- the view's slots have their targets
pub chain-requires : goal.chain-requires
chain-requires c = rw c.view-graph.ensures.graph (all_set c.args.trace.now.links c.view-graph.ensures.linked)

pub chain_report-requires : goal.chain_report-requires
chain_report-requires c =
    steps_live c.args.trace.now.links c.view-graph.ensures.linked c.args.path.now c.in-Some.found
    (rw (c.view-graph.ensures.graph, c.roots.ensures) at (subst (Answers c.view-graph.result c.roots.result.now c.args.path.now) c.in-Some.is c.in_ok-chain.ensures))

pub returns-then-eq : goal.returns-then-eq
returns-then-eq c =
    let same : c.as_str.result.now ≡ c.as_str-2.result.now = (bytes_eq-Decides c.as_str.result.now c.as_str-2.result.now).0 (sym c.eq.ensures ∙ c.if-eq.true) in
    let own = sym c.as_str.ensures.text ∙ (same ∙ (c.as_str-2.ensures.text ∙ c.page-page.ensures.page)) in
    IfOk-weaker c.page_report.result _ _
    (λ report is. record {
      shows = c.view-graph.ensures.shows;
      linked = c.view-graph.ensures.linked;
      modules = c.view-graph.ensures.modules;
      says = own_reported c.args.trace.now.links c.args.config.now c.args.path.now report own is.0 (rw c.page-page.ensures.page at is.1);
    })
    c.page_report.ensures

pub returns-in-None : goal.returns-in-None
returns-in-None c =
    let other = λ (own : c.args.path.now ≡ c.args.config.now.page).
    true≢false (sym ((bytes_eq-Decides c.as_str.result.now c.as_str-2.result.now).1 (c.as_str.ensures.text ∙ (own ∙ sym (c.as_str-2.ensures.text ∙ c.page-page.ensures.page)))) ∙ (sym c.eq.ensures ∙ c.if-eq.false)) in
    IfOk-weaker c.lost_report.result _ _
    (λ report is. record {
      shows = c.view-graph.ensures.shows;
      linked = c.view-graph.ensures.linked;
      modules = c.view-graph.ensures.modules;
      says = lost_reported c.args.trace.now.links c.args.config.now c.args.path.now report other
          (rw (c.view-graph.ensures.graph, c.roots.ensures) at (subst (Answers c.view-graph.result c.roots.result.now c.args.path.now) c.in-None.is c.in_ok-chain.ensures)) is.0 is.1;
    })
    c.lost_report.ensures

pub returns-in-Some : goal.returns-in-Some
returns-in-Some c =
    let other = λ (own : c.args.path.now ≡ c.args.config.now.page).
    true≢false (sym ((bytes_eq-Decides c.as_str.result.now c.as_str-2.result.now).1 (c.as_str.ensures.text ∙ (own ∙ sym (c.as_str-2.ensures.text ∙ c.page-page.ensures.page)))) ∙ (sym c.eq.ensures ∙ c.if-eq.false)) in
    IfOk-weaker c.chain_report.result _ _
    (λ report is. record {
      shows = c.view-graph.ensures.shows;
      linked = c.view-graph.ensures.linked;
      modules = c.view-graph.ensures.modules;
      says = chain_reported c.args.trace.now.links c.args.config.now c.args.path.now report other c.in-Some.found
          (rw (c.view-graph.ensures.graph, c.roots.ensures) at (subst (Answers c.view-graph.result c.roots.result.now c.args.path.now) c.in-Some.is c.in_ok-chain.ensures)) is.0 is.1;
    })
    c.chain_report.ensures
