-- How it comes to be said why a file is loaded, step by step.
use Rattle.std.proofs.Common.{◌≡◌, ◌≢◌, ◌≤◌, ◌+◌, ◌++◌, ℕ, Bor, List, [], ◌∷◌, length, drop, Option, Some, None, Ok, Err, IfSome, refl, sym, ap, ◌∙◌, subst, inl, inr, append_assoc, arith}
use Rattle.std.proofs.lemmas.List.{append-nil, drop_all}
use Rattle.std.specs.FinMap.{get}
use Rattle.std.specs.List.{concat}
use Rattle.std.specs.Prelude.{get_or, option_copied, option_map, slice_get, unwrap_or}
use Rattle.std.proofs.lemmas.Bool.{cases_lt}
use Rattle.std.proofs.lemmas.Option.{slice_get-get_or, slice_get-map}
use Rattle.std.proofs.lemmas.List.Elements.{All-contains}
use Rattle.layout_spec.proofs.Contained.{contains_at}
use Rattle.module_spec.specs.declared.request.Request.{Request}
use Rattle.module_graph.specs.Modules.{asked_at, asked_by}
use Rattle.shared_types.proofs.ListSteps.{drop_at}
use Rattle.slot_arena.specs.Slots.{Place, value_at}
use Rattle.slot_arena.specs.declared.slot.Slot.{Slot}
use Rattle.module_graph.specs.declared.module.Module as vertex
use Rattle.module_graph.specs.Graphs.{AreModules}
use Rattle.tree_spec.specs.States.{FolderState, SinkState, OnlyLooks}
use Rattle.tree_spec.specs.Trees.{Tree}
use Rattle.tree_spec.proofs.ToldStates.{if_all, if_some, if_two, looks_as}
use Rattle.trace_graph.specs.Links.{Links, module_in, source_in, source_of, IsLinked, IsLive}
use Rattle.trace_spec.specs.Modules.{Config}
use Rattle.words_spec.specs.PlainWords.{explaining}
use Rattle.config_spec.specs.declared.Command.TheVariants.{Refresh, Why}
use Rattle.config_spec.specs.Projects.{IsConfigOf}
use Rattle.config_spec.specs.Words.{AsksWhy, IsCommandOf}
use Rattle.command_words.specs.Orders.{AsksWhyAt}
use Rattle.session_spec.specs.Openings.{refresh_words}
use Rattle.request_trace.specs.Showing.{Traced, Shows}
use Rattle.generation.specs.declared.stop.Stop.{Stop}
use Rattle.generation.specs.declared.stop.Stop.TheVariants.{Refused, ReadFault, Memory}
use Rattle.generation.specs.Generating.{Tracing}
use Rattle.generator_spec.specs.Asked.{IsConfigAt}
use Rattle.generator_spec.specs.Commands.{Opens as opens}
use Rattle.generator_spec.specs.Ending.{IsDone, IsDone as done, Says, Ends, EndsAs, Shaped as shaped, Says as says}
use Rattle.generator_spec.specs.Explaining.{request_line, SaysWhy, SaysWhy as says_why}
use Rattle.generator_spec.specs.Lines.{asks_line, from_page_line, not_reached_line}
use Rattle.generator_spec.proofs.Endings.{one_line_text}
use Rattle.chain_spec.specs.Chains.{IsChain}
use Rattle.chain_why.specs.Answers.{IsAnswer}
use Rattle.chain_why.specs.Shown.{targets_in, is_at}
use Rattle.generator_spec.specs.Outcome.{ComesTo as comes, Outcome}
use Rattle.generator_core.specs.declared.checking.Report.{Report}
use Rattle.generator_core.specs.Configuring.{FindsConfig}
use Rattle.generator_core.specs.Explaining.{AreLive, specifiers_of, step_lines, GraphSays as graph_says, IsReportOf, IsToldWhy}
use Rattle.generator_core.specs.Explaining.{IsExplained, ExplainsFile}
use Rattle.generator_core.proofs.Endings.{ends_as}
use Rattle.generator_core.proofs.Refreshed.{asks_command, takes_no_project, takes_project, why_takes}
use Rattle.generator_core.proofs.LoadedBy.{says_by_graph}
use Rattle.generator_core.proofs.ToldChains.{tells_chain}
use Rattle.generator_core.proofs.Preparings.{asks_few}

-- ---- the project as it stands

module _ (words : List (List ℕ)) (path : List ℕ) (is : AsksWhyAt words path) where
  pub why_command : IsCommandOf words Why
  why_command = asks_command words (explaining path) Why is.asks (why_takes path is.is_path)

  module _ (before after : FolderState) where
    pub explains_project : (config : Config) → FindsConfig refresh_words Refresh before (Ok config) after → FindsConfig words Why before (Ok config) after
    explains_project config at = takes_project words (explaining path) Why is.asks (why_takes path is.is_path) before after config at

    pub explains_no_project : (stop : Stop) → FindsConfig refresh_words Refresh before (Err stop) after → FindsConfig words Why before (Err stop) after
    explains_no_project stop at = takes_no_project words (explaining path) Why is.asks (why_takes path is.is_path) before after stop at

-- ---- the trace

module _ (path : List ℕ) (config : Config) (before after : FolderState) where
  pub trace_stops_why : (stop : Stop) → Tracing config before (Err stop) after → ExplainsFile path config before (Err stop) after
  trace_stops_why (Refused why) is = record {
    explained = tt;
    asked = asks_few Why config before.holds before.asked after (if_all before.holds (λ tree. opens.no_other_file)) is.asked is.footprint;
    stopped = record {
      refused = if_two before.holds (λ tree opened refuses_each. refuses_each Why opened) (if_all before.holds (λ tree. opens.no_other_file)) is.refused;
      kind = is.kind Why;
      looks = looks_as before after (λ e. absurd (cc)) (λ e. absurd (cc)) is.looks;
    };
  }
  trace_stops_why ReadFault is = record { explained = tt; asked = asks_few Why config before.holds before.asked after (if_all before.holds (λ tree. opens.no_other_file)) is.asked is.footprint; stopped = record { refused = tt; kind = tt; looks = looks_as before after (λ e. refl) (λ e. refl) is.looks } }
  trace_stops_why Memory is = record { explained = tt; asked = asks_few Why config before.holds before.asked after (if_all before.holds (λ tree. opens.no_other_file)) is.asked is.footprint; stopped = record { refused = tt; kind = tt; looks = looks_as before after (λ e. absurd (cc)) (λ e. absurd (cc)) is.looks } }

  module _ (trace : Traced) (is : Tracing config before (Ok trace.gathered) after) where
    quiet_looks : OnlyLooks before after ⊥
    quiet_looks = looks_as before after (λ e. absurd e) (λ e. absurd (cc)) is.looks

    pub no_report : ExplainsFile path config before (Err Memory) after
    no_report = record { explained = tt; asked = asks_few Why config before.holds before.asked after (if_all before.holds (λ tree. opens.no_other_file)) is.asked is.footprint; stopped = record { refused = tt; kind = tt; looks = looks_as before after (λ e. absurd (cc)) (λ e. absurd e) quiet_looks } }

    pub explains :
        Shows trace → IsLinked trace.links → AreModules trace.links.graph
        → length trace.links.roots ≡ length config.entries → (report : Report)
        → IsReportOf trace.links config path report → ExplainsFile path config before (Ok report) after
    explains shows linked modules roots report of = record {
      explained = record {
        lines = of.lines;
        text = of.text;
        tells = tells_chain trace.links config path roots report.status of.lines of.says;
        told = if_some before.holds (λ tree traces. record {
          all = trace.gathered;
          is_traced = traces;
          says = says_by_graph (get tree) config trace traces shows linked modules roots path report.status of.lines of.says;
        }) is.traces;
        looks = quiet_looks;
      };
      asked = asks_few Why config before.holds before.asked after (if_all before.holds (λ tree. opens.no_other_file)) is.asked is.footprint;
      stopped = tt;
    }

-- ---- the end

module _ (words : List (List ℕ)) (path : List ℕ) (config : Config) (before after : FolderState) (out out_after : SinkState) (result : ℕ) (report : Report) (asks : AsksWhy words path) (is_config : IsConfigAt words Why config before) (is : IsExplained path config before after report) where
  outcome_told : (held told : Option Tree) → told ≡ held → IfSome held (λ tree. IsConfigOf words tree Why config) → IfSome held (λ tree. IsToldWhy config tree path report.status is.lines)
      → IfSome held (λ tree. (later : Tree) × Outcome words tree report.status is.lines later × (told ≡ Some later))
  outcome_told None told same of traces = tt
  outcome_told (Some tree) told same of why =
      (tree, record { files = []; comes = comes.explained path config why.all asks of why.is_traced why.says refl; placed = refl }, same)

  why_says : Says words before after report.status is.lines
  why_says =
      says.outcome
      (shaped.explained (record { path = path; asks = asks; config = config; is_config = is_config.can; tells = is.tells }))
      (outcome_told before.holds after.holds is.looks.tree is_config.told is.told) (is.looks.quiet (λ e. e)) is.looks.writes

  -- with the status of success there is a chain
  loaded : (tree : Tree) (told : Option Tree) → told ≡ Some tree → IsConfigOf words tree Why config → (why : IsToldWhy config tree path report.status is.lines) → report.status ≡ 0 → IsDone words tree told
  loaded tree told same of why zero = by why.says
    where
      by : SaysWhy (get tree) config path report.status is.lines → IsDone words tree told
      by (says_why.reached numbers shortest s l) = done.explained (record { path = path; asks = asks; config = config; is_config = of; all = why.all; is_traced = why.is_traced; numbers = numbers; shortest = shortest }) same
      by (says_why.not_reached none s l) = absurd (omega (arith, s, zero))

  loaded_told : (held told : Option Tree) → told ≡ held → IfSome held (λ tree. IsConfigOf words tree Why config) → IfSome held (λ tree. IsToldWhy config tree path report.status is.lines) → report.status ≡ 0 → IfSome held (λ tree. IsDone words tree told)
  loaded_told None told same of why zero = tt
  loaded_told (Some tree) told same of why zero = loaded tree told same of why zero

  pub why_ends : Ends report.status report.text.items out out_after result → out.faults ≤ out_after.faults → EndsAs words before after out out_after result
  why_ends told more =
      ends_as words before after out out_after result report.status is.lines (λ none. is.looks.tree ∙ none) (loaded_told before.holds after.holds is.looks.tree is_config.told is.told) why_says
      (subst (λ text. Ends report.status text out out_after result) is.text told) is.looks.later (let w = is.looks.writes in omega (arith, w)) more

-- ---- what is said of the path

module _ (links : Links) (config : Config) (path : List ℕ) (report : Report) where
  pub own_reported : path ≡ config.page → report.status ≡ 0 → report.text.items ≡ from_page_line config.page → IsReportOf links config path report
  own_reported same status text = record { lines = from_page_line config.page ∷ []; says = graph_says.own_page same status refl; text = text ∙ sym (one_line_text (from_page_line config.page)) }

  pub lost_reported : path ≢ config.page → ((numbers : List ℕ) → IsChain (targets_in links.graph links.roots) (is_at links.graph path) numbers → ⊥) → report.status ≡ 10 → report.text.items ≡ not_reached_line path → IsReportOf links config path report
  lost_reported other none status text = record { lines = not_reached_line path ∷ []; says = graph_says.not_reached other none status refl; text = text ∙ sym (one_line_text (not_reached_line path)) }

  pub chain_reported : path ≢ config.page → (steps : List (ℕ × Slot)) → IsAnswer links.graph links.roots path steps → report.status ≡ 0 → report.text.items ≡ from_page_line config.page ++ concat (step_lines links.graph config.entries steps) → IsReportOf links config path report
  chain_reported other steps answer status text = record {
    lines = from_page_line config.page ∷ step_lines links.graph config.entries steps;
    says = graph_says.reached steps other answer status refl;
    text = text;
  }

-- ---- the lines of a chain

-- the lines that are left, from who asks next on, stand behind those that are there
abbrev pub lines_left : List (Place vertex.Module) → List (List ℕ) → Option Slot → List (ℕ × Slot) → ℕ → List ℕ
lines_left graph entries from steps index = concat (step_lines graph (specifiers_of graph entries from) (drop index steps))

pub next_step :
    (graph : List (Place vertex.Module)) (entries : List (List ℕ)) (steps : List (ℕ × Slot)) (index number : ℕ) (slot : Slot) (from : Option Slot) (whole old new : List ℕ)
    → slice_get steps index ≡ Some (number, slot) → whole ≡ old ++ lines_left graph entries from steps index
    → new ≡ old ++ request_line (specifiers_of graph entries from) number (module_in (value_at graph slot))
    → whole ≡ new ++ lines_left graph entries (Some slot) steps (index + 1)
next_step graph entries steps index number slot from whole old new at left pushed =
    let rest = drop_at steps index (number, slot) at in
    let asked = specifiers_of graph entries from in
    let line : List ℕ = request_line asked number (module_in (value_at graph slot)) in
    left
    ∙ (ap (λ some. old ++ concat (step_lines graph asked some)) rest
    ∙ (sym (append_assoc old line (lines_left graph entries (Some slot) steps (index + 1)))
    ∙ ap (λ text. text ++ lines_left graph entries (Some slot) steps (index + 1)) (sym pushed)))

pub no_step :
    (graph : List (Place vertex.Module)) (entries : List (List ℕ)) (steps : List (ℕ × Slot)) (index : ℕ) (from : Option Slot) (whole text : List ℕ)
    → length steps ≤ index → whole ≡ text ++ lines_left graph entries from steps index → text ≡ whole
no_step graph entries steps index from whole text over left =
    sym (append-nil text)
    ∙ (sym (ap (λ some. text ++ concat (step_lines graph (specifiers_of graph entries from) some)) (drop_all index steps over)) ∙ sym left)

-- ---- a step of a chain, as the code finds it

-- a step that is lent
abbrev pub lent : Bor ℕ × Bor Slot → ℕ × Slot
lent step = (step.0.now, step.1.now)

abbrev any_step : ℕ × Slot
any_step = (0, record { index = 0; generation = 0 })

pub step_found :
    (found : Option (Bor ℕ × Bor Slot)) (steps : List (ℕ × Slot)) (index : ℕ) (number : Bor ℕ) (slot : Bor Slot)
    → found ≡ Some (number, slot) → option_map lent found ≡ slice_get steps index
    → slice_get steps index ≡ Some (number.now, slot.now)
step_found found steps index number slot is lends = sym lends ∙ ap (option_map lent) is

pub past_steps :
    (found : Option (Bor ℕ × Bor Slot)) (steps : List (ℕ × Slot)) (index : ℕ)
    → found ≡ None → option_map lent found ≡ slice_get steps index → length steps ≤ index
past_steps found steps index none lends =
    elim (cases_lt index (length steps)) [
      | inl within ↦ (let wrong : None ≡ Some (get_or steps index any_step) = sym (ap (option_map lent) none) ∙ (lends ∙ slice_get-get_or steps index any_step within) in absurd (cc))
      | inr over ↦ over
    ]

pub step_alive :
    (graph : List (Place vertex.Module)) (steps : List (ℕ × Slot)) (index number : ℕ) (slot : Slot)
    → slice_get steps index ≡ Some (number, slot) → AreLive graph steps → IsLive graph slot
step_alive graph steps index number slot at alive =
    All-contains (λ (step : ℕ × Slot). IsLive graph step.1) steps (number, slot) alive (contains_at steps index (number, slot) at)

-- ---- how a request is spelled

-- the specifiers of a module are those of its requests
pub asked_is :
    (v : vertex.Module) (number : ℕ) → asked_at v number ≡ slice_get (source_of v).specifiers number
asked_is v number = by (slice_get v.requests.value number) ∙ sym (slice_get-map (λ (request : Request). request.text) v.requests.value number)
  where
    by : (found : Option Request) → asked_by found ≡ option_map (λ (request : Request). request.text) found
    by None = refl
    by (Some request) = refl

module _ (graph : List (Place vertex.Module)) (slot : Slot) (v : vertex.Module) (number : ℕ) (found : Option (Bor (List ℕ))) (here : value_at graph slot ≡ Some v) where
  asked_here : slice_get (source_of v).specifiers number ≡ slice_get (source_in (value_at graph slot)).specifiers number
  asked_here = ap (λ some. slice_get (source_in some).specifiers number) (sym here)

  pub asked_found : option_copied found ≡ asked_at v number → unwrap_or (option_copied found) [] ≡ unwrap_or (slice_get (source_in (value_at graph slot)).specifiers number) []
  asked_found lends = ap (λ some. unwrap_or some []) (lends ∙ (asked_is v number ∙ asked_here))

-- the line of a module is that of its slot
pub step_pushed :
    (graph : List (Place vertex.Module)) (entries : List (List ℕ)) (from : Option Slot) (number : ℕ) (slot : Slot) (v : vertex.Module) (old new specifier path suffix : List ℕ)
    → value_at graph slot ≡ Some v → specifier ≡ unwrap_or (slice_get (specifiers_of graph entries from) number) [] → path ≡ v.path → suffix ≡ v.suffix
    → new ≡ old ++ asks_line specifier (path ++ suffix)
    → new ≡ old ++ request_line (specifiers_of graph entries from) number (module_in (value_at graph slot))
step_pushed graph entries from number slot v old new specifier path suffix here spelled path_is suffix_is line =
    line
    ∙ ((λ i. old ++ asks_line (spelled i) (path_is i ++ suffix_is i))
    ∙ ap (λ found. old ++ request_line (specifiers_of graph entries from) number (module_in found)) (sym here))
