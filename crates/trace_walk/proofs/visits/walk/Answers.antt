use Rattle.std.proofs.Common.{Result, Ok, Err, length, rules, sym, ap, subst, arith}
use Rattle.std.specs.Prelude.{OnOk}
use Rattle.std.proofs.lemmas.List.Elements.{All-nil}
use Rattle.trace_spec.specs.declared.TraceFault.{TraceFault}
use Rattle.trace_walk.specs.declared.tables.Tables.{Tables}
use Rattle.trace_spec.specs.Traces.{trace}
use Rattle.trace_spec.specs.Modules.{Module}
use Rattle.trace_walk.specs.declared.tables.Name.{Name}
use Rattle.trace_walk.specs.Meeting.{Met}
use Rattle.trace_walk.specs.Shown.{before_of, traced_of}
use Rattle.trace_walk.specs.Walking.{IsNamed, AllNamed, AreOfUrls}
use Rattle.trace_walk.proofs.FaultKinds.{handed}
use Rattle.trace_walk.proofs.Advancing.{walk_refused, counts_all}
use Rattle.trace_walk.proofs.Visiting.{begun_is, walk_unpaged, walk_paged, whole_by, nothing_beside}
use Rattle.trace_walk.proofs.UrlLemmas.{no_urls}
use Rattle.trace_walk.proofs.visits.walk.Goals as goal

pub visit_page-requires-clause-beside : goal.visit_page-requires-clause-beside
visit_page-requires-clause-beside g c = nothing_beside c.new-tables.result c.new-tables.ensures

pub returns-in_err-visit_page-clause-met : goal.returns-in_err-visit_page-clause-met
returns-in_err-visit_page-clause-met g c =
    let none : AllNamed c.args.config.now c.new-tables.result.modules.entries = subst (AllNamed c.args.config.now) (sym c.new-tables.ensures.modules) (All-nil (λ (x : Module × Name). IsNamed c.args.config.now x.0 x.1)) in
    let begins = begun_is c.new-tables.result c.new-tables.ensures.modules c.new-tables.ensures.sources c.new-tables.ensures.needs c.new-tables.ensures.spellings c.new-tables.ensures.targets in
    subst (λ v. Met (g.A.Answerer.state c.args.answerer.now) (trace c.args.config.now) (traced_of v) (g.A.Answerer.state c.visit_page.new.answerer)) (sym (handed c.from_residual.result c.in_err-visit_page.field-0.0 c.from_residual.ensures.1))
    (walk_unpaged _ _ c.args.config.now (before_of c.new-tables.result) c.in_err-visit_page.field-0.0 begins (c.in_err-visit_page.ensures.met none))

pub returns-in_err-visit_modules-clause-met : goal.returns-in_err-visit_modules-clause-met
returns-in_err-visit_modules-clause-met g c =
    let none : AllNamed c.args.config.now c.new-tables.result.modules.entries = subst (AllNamed c.args.config.now) (sym c.new-tables.ensures.modules) (All-nil (λ (x : Module × Name). IsNamed c.args.config.now x.0 x.1)) in
    let begins = begun_is c.new-tables.result c.new-tables.ensures.modules c.new-tables.ensures.sources c.new-tables.ensures.needs c.new-tables.ensures.spellings c.new-tables.ensures.targets in
    subst (λ v. Met (g.A.Answerer.state c.args.answerer.now) (trace c.args.config.now) (traced_of v) (g.A.Answerer.state c.visit_modules.new.answerer)) (sym (handed c.from_residual-in_err-visit_modules.result c.in_err-visit_modules.field-0.0 c.from_residual-in_err-visit_modules.ensures.1))
    (walk_paged _ _ _ c.args.config.now (before_of c.new-tables.result) (before_of c.visit_page.new.tables) (Err c.in_err-visit_modules.field-0.0) begins
    (c.in_ok-visit_page.ensures.met none) (c.in_err-visit_modules.ensures.met (c.in_ok-visit_page.ensures.walks.advances.grows.named none)))

pub returns-clause-met : goal.returns-clause-met
returns-clause-met g c =
    let none : AllNamed c.args.config.now c.new-tables.result.modules.entries = subst (AllNamed c.args.config.now) (sym c.new-tables.ensures.modules) (All-nil (λ (x : Module × Name). IsNamed c.args.config.now x.0 x.1)) in
    let begins = begun_is c.new-tables.result c.new-tables.ensures.modules c.new-tables.ensures.sources c.new-tables.ensures.needs c.new-tables.ensures.spellings c.new-tables.ensures.targets in
    walk_paged _ _ _ c.args.config.now (before_of c.new-tables.result) (before_of c.visit_page.new.tables) (Ok (before_of c.visit_modules.new.tables)) begins
    (c.in_ok-visit_page.ensures.met none) (c.in_ok-visit_modules.ensures.met (c.in_ok-visit_page.ensures.walks.advances.grows.named none))

pub returns-clause-walked : goal.returns-clause-walked
returns-clause-walked g c =
    let none : AllNamed c.args.config.now c.new-tables.result.modules.entries = subst (AllNamed c.args.config.now) (sym c.new-tables.ensures.modules) (All-nil (λ (x : Module × Name). IsNamed c.args.config.now x.0 x.1)) in
    let begun : AreOfUrls c.new-tables.result.needs = subst AreOfUrls (sym c.new-tables.ensures.needs) no_urls in
    let begins = ap length c.new-tables.ensures.targets in
    let page = c.in_ok-visit_page.ensures.walks.advances.steps in
    let few = c.in_ok-visit_page.ensures.walks.advances.grows.requests (omega (arith, begins)) in
    let all = c.in_ok-visit_modules.ensures.walks.bounded few in
    let counted = counts_all (length c.args.config.now.entries) c.new-tables.result c.visit_page.new.tables c.visit_modules.new.tables c.new-tables.ensures.sources c.new-tables.ensures.targets c.in_ok-visit_page.ensures.counts c.in_ok-visit_modules.ensures.counts in
    record {
      tables = record {
        named = c.in_ok-visit_modules.ensures.walks.advances.grows.named (c.in_ok-visit_page.ensures.walks.advances.grows.named none);
        whole = whole_by c.args.config.now c.new-tables.result c.visit_page.new.tables c.visit_modules.new.tables c.new-tables.ensures.modules c.new-tables.ensures.sources c.new-tables.ensures.needs c.new-tables.ensures.targets c.in_ok-visit_page.ensures.walks.advances.grows c.in_ok-visit_modules.ensures.walks.advances.grows
            (c.in_ok-visit_modules.ensures.walks.advances.urls (c.in_ok-visit_page.ensures.walks.advances.grows.named none) (c.in_ok-visit_page.ensures.walks.advances.urls tt begun))
            (omega (arith, counted));
        counted = counted;
        beside = c.in_ok-visit_modules.ensures.walks.advances.grows.beside;
      };
      steps = search rules;
      bounded = omega (arith, begins, page, all);
      kind = tt;
    }

pub returns-in_err-visit_page-clause-walked : goal.returns-in_err-visit_page-clause-walked
returns-in_err-visit_page-clause-walked g c =
    let begins = ap length c.new-tables.ensures.targets in
    let all = c.in_err-visit_page.ensures.walks.bounded (omega (arith, begins)) in
    walk_refused c.args.config.now _ _ c.in_err-visit_page.field-0.0 c.from_residual.result c.from_residual.ensures.1 (omega (arith, begins, all)) c.in_err-visit_page.ensures.walks.kind

pub returns-in_err-visit_modules-clause-walked : goal.returns-in_err-visit_modules-clause-walked
returns-in_err-visit_modules-clause-walked g c =
    let begins = ap length c.new-tables.ensures.targets in
    let page = c.in_ok-visit_page.ensures.walks.advances.steps in
    let few = c.in_ok-visit_page.ensures.walks.advances.grows.requests (omega (arith, begins)) in
    let all = c.in_err-visit_modules.ensures.walks.bounded few in
    walk_refused c.args.config.now _ _ c.in_err-visit_modules.field-0.0 c.from_residual-in_err-visit_modules.result c.from_residual-in_err-visit_modules.ensures.1 (omega (arith, begins, page, all)) c.in_err-visit_modules.ensures.walks.kind

pub returns-clause-ready : goal.returns-clause-ready
returns-clause-ready g c = c.in_ok-visit_modules.ensures.walks.advances.ready

pub returns-in_err-visit_page-clause-ready : goal.returns-in_err-visit_page-clause-ready
returns-in_err-visit_page-clause-ready g c =
    subst (λ (r : Result Tables TraceFault). OnOk r (g.A.Answerer.ready c.visit_page.new.answerer))
    (sym (handed c.from_residual.result c.in_err-visit_page.field-0.0 c.from_residual.ensures.1)) tt

pub returns-in_err-visit_modules-clause-ready : goal.returns-in_err-visit_modules-clause-ready
returns-in_err-visit_modules-clause-ready g c =
    subst (λ (r : Result Tables TraceFault). OnOk r (g.A.Answerer.ready c.visit_modules.new.answerer))
    (sym (handed c.from_residual-in_err-visit_modules.result c.in_err-visit_modules.field-0.0
    c.from_residual-in_err-visit_modules.ensures.1)) tt
