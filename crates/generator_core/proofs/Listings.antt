-- How a list comes to its report, step by step.
use Rattle.std.proofs.Common.{◌≡◌, ◌≤◌, ◌<◌, ◌+◌, ◌++◌, ℕ, zero, suc, List, [], ◌∷◌, length, drop, Option, Some, None, Ok, Err, IfSome, refl, sym, ap, ◌∙◌, subst, append_assoc, arith}
use Rattle.std.proofs.lemmas.List.{append-nil, drop_all}
use Rattle.std.specs.FinMap.{get}
use Rattle.std.specs.List.{concat}
use Rattle.std.specs.Prelude.{All, option_map, slice_get}
use Rattle.std.proofs.lemmas.List.Elements.{All-nil, All-cons}
use Rattle.module_graph.specs.declared.module.Module as vertex
use Rattle.shared_types.proofs.ListSteps.{drop_at}
use Rattle.trace_graph.specs.Links.{module_of, source_of}
use Rattle.trace_graph.proofs.Showing.{as_many_specifiers}
use Rattle.tree_spec.specs.States.{FolderState, SinkState, OnlyLooks}
use Rattle.tree_spec.specs.Trees.{Tree}
use Rattle.tree_spec.proofs.ToldStates.{if_all, if_two, looks_as}
use Rattle.trace_spec.specs.Checks.{Gathered}
use Rattle.trace_spec.specs.Modules.{Config, Module}
use Rattle.trace_spec.specs.Questions.{Source}
use Rattle.trace_spec.specs.Traces.{traced}
use Rattle.config_spec.specs.declared.Command.TheVariants.{List as ListModules}
use Rattle.config_spec.specs.Projects.{IsConfigOf}
use Rattle.generator_spec.specs.Commands.{Opens as opens}
use Rattle.generator_spec.specs.Lines.{module_line}
use Rattle.generator_spec.specs.Listing.{module_lines, list_lines}
use Rattle.generator_spec.specs.Outcome.{ComesTo as comes, Outcome}
use Rattle.generator_spec.specs.Ending.{IsDone, IsDone as done, IsModuleLine, Says, Ends, EndsAs, Shaped as shaped, Says as says}
use Rattle.generator_spec.specs.Asked.{IsConfigAt}
use Rattle.generation.specs.declared.stop.Stop.{Stop}
use Rattle.generation.specs.declared.stop.Stop.TheVariants.{Refused, ReadFault, Memory}
use Rattle.generation.specs.Generating.{Tracing}
use Rattle.generator_core.specs.declared.checking.Report.{Report}
use Rattle.generator_core.specs.Listing.{IsPushed, IsListed, Lists}
use Rattle.generator_core.proofs.Preparings.{asks_few}
use Rattle.generator_core.proofs.Endings.{ends_as}

-- ---- the text

same_some : {A : Type 0} (x y : A) → Some x ≡ Some y → x ≡ y
same_some x y same = cc

-- the module at a place, as a graph shows it
module _ (all : Gathered) (place : ℕ) (found : Option vertex.Module) (modules : option_map module_of found ≡ slice_get all.modules place) where
  pub no_line : (text : List ℕ) → found ≡ None → IsPushed all place text text
  no_line text none = λ m source at read. (let same : None ≡ Some m = sym (ap (option_map module_of) none) ∙ (modules ∙ at) in absurd (cc))

  pub line_pushed :
      (v : vertex.Module) (old new path suffix : List ℕ) (count : ℕ) → found ≡ Some v → option_map source_of found ≡ slice_get all.sources place → path ≡ v.path → suffix ≡ v.suffix
      → count ≡ length v.requests.value → new ≡ old ++ module_line (path ++ suffix) count → IsPushed all place old new
  line_pushed v old new path suffix count here sources path_is suffix_is count_is line = λ m source at read.
      let m_is = same_some (module_of v) m (sym (ap (option_map module_of) here) ∙ (modules ∙ at)) in
      let source_is = same_some (source_of v) source (sym (ap (option_map source_of) here) ∙ (sources ∙ read)) in
      let path_same = path_is ∙ ap (λ (n : Module). n.path) m_is in
      let suffix_same = suffix_is ∙ ap (λ (n : Module). n.suffix) m_is in
      let count_same = count_is ∙ (as_many_specifiers v ∙ ap (λ (s : Source). length s.specifiers) source_is) in
      line ∙ (λ i. old ++ module_line (path_same i ++ suffix_same i) (count_same i))

some_at : {A : Type 0} (xs : List A) (place : ℕ) → place < length xs → (x : A) × (slice_get xs place ≡ Some x)
some_at [] place below = absurd (omega (arith, below))
some_at (x ∷ xs) zero below = (x, refl)
some_at (x ∷ xs) (suc place) below = some_at xs place (omega (arith, below))

-- the lines that are left stand behind those that are there
abbrev pub lines_from : Gathered → ℕ → List ℕ
lines_from all place = concat (module_lines (drop place all.modules) (drop place all.sources))

pub next_module :
    (all : Gathered) (place : ℕ) (whole old new : List ℕ) → place < length all.modules → length all.modules ≡ length all.sources
    → whole ≡ old ++ lines_from all place → IsPushed all place old new → whole ≡ new ++ lines_from all (place + 1)
next_module all place whole old new below same left pushed =
    let m = some_at all.modules place below in
    let source = some_at all.sources place (omega (arith, below, same)) in
    let modules = drop_at all.modules place m.0 m.1 in
    let sources = drop_at all.sources place source.0 source.1 in
    let line : List ℕ = module_line (m.0.path ++ m.0.suffix) (length source.0.specifiers) in
    left
    ∙ ((λ i. old ++ concat (module_lines (modules i) (sources i)))
    ∙ (sym (append_assoc old line (lines_from all (place + 1))) ∙ ap (λ text. text ++ lines_from all (place + 1)) (sym (pushed m.0 source.0 m.1 source.1))))

pub no_module : (all : Gathered) (place : ℕ) (whole text : List ℕ) → length all.modules ≤ place → whole ≡ text ++ lines_from all place → text ≡ whole
no_module all place whole text over left =
    sym (append-nil text) ∙ (sym (ap (λ modules. text ++ concat (module_lines modules (drop place all.sources))) (drop_all place all.modules over)) ∙ sym left)

-- ---- the trace

module _ (config : Config) (before after : FolderState) where
  pub trace_stops_list : (stop : Stop) → Tracing config before (Err stop) after → Lists config before (Err stop) after
  trace_stops_list (Refused why) is = record {
    listed = tt;
    asked = asks_few ListModules config before.holds before.asked after (if_all before.holds (λ tree. opens.no_file)) is.asked is.footprint;
    stopped = record {
      refused = if_two before.holds (λ tree opened refuses_each. refuses_each ListModules opened) (if_all before.holds (λ tree. opens.no_file)) is.refused;
      kind = is.kind ListModules;
      looks = looks_as before after (λ e. absurd (cc)) (λ e. absurd (cc)) is.looks;
    };
  }
  trace_stops_list ReadFault is = record { listed = tt; asked = asks_few ListModules config before.holds before.asked after (if_all before.holds (λ tree. opens.no_file)) is.asked is.footprint; stopped = record { refused = tt; kind = tt; looks = looks_as before after (λ e. refl) (λ e. refl) is.looks } }
  trace_stops_list Memory is = record { listed = tt; asked = asks_few ListModules config before.holds before.asked after (if_all before.holds (λ tree. opens.no_file)) is.asked is.footprint; stopped = record { refused = tt; kind = tt; looks = looks_as before after (λ e. absurd (cc)) (λ e. absurd (cc)) is.looks } }

  module _ (all : Gathered) (is : Tracing config before (Ok all) after) where
    quiet_looks : OnlyLooks before after ⊥
    quiet_looks = looks_as before after (λ e. absurd e) (λ e. absurd (cc)) is.looks

    pub no_list : Lists config before (Err Memory) after
    no_list = record { listed = tt; asked = asks_few ListModules config before.holds before.asked after (if_all before.holds (λ tree. opens.no_file)) is.asked is.footprint; stopped = record { refused = tt; kind = tt; looks = looks_as before after (λ e. absurd (cc)) (λ e. absurd e) quiet_looks } }

    pub lists : (report : Report) → report.status ≡ 0 → report.text.items ≡ concat (list_lines all) → Lists config before (Ok report) after
    lists report status text = record {
      listed = record { all = all; status = status; text = text; told = is.traces; looks = quiet_looks };
      asked = asks_few ListModules config before.holds before.asked after (if_all before.holds (λ tree. opens.no_file)) is.asked is.footprint;
      stopped = tt;
    }

-- ---- the end

are_lines : (modules : List Module) (sources : List Source) → All IsModuleLine (module_lines modules sources)
are_lines [] sources = All-nil IsModuleLine
are_lines (m ∷ modules) [] = All-nil IsModuleLine
are_lines (m ∷ modules) (source ∷ sources) =
    All-cons IsModuleLine (module_line (m.path ++ m.suffix) (length source.specifiers)) (module_lines modules sources)
    (record { name = m.path ++ m.suffix; requests = length source.specifiers; says = refl }) (are_lines modules sources)

module _ (words : List (List ℕ)) (config : Config) (before after : FolderState) (out out_after : SinkState) (result : ℕ) (report : Report) (is_config : IsConfigAt words ListModules config before) (is : IsListed config before after report) where
  abbrev lines : List (List ℕ)
  lines = list_lines is.all

  outcome_told : (held told : Option Tree) → told ≡ held → IfSome held (λ tree. IsConfigOf words tree ListModules config) → IfSome held (λ tree. traced (get tree) config ≡ Ok is.all)
      → IfSome held (λ tree. (later : Tree) × Outcome words tree report.status lines later × (told ≡ Some later))
  outcome_told None told same of traces = tt
  outcome_told (Some tree) told same of traces =
      (tree, record { files = []; comes = comes.listed config is.all of traces is.status refl refl; placed = refl }, same)

  list_says : Says words before after report.status lines
  list_says =
      says.outcome
      (shaped.listed (record { config = config; is_config = is_config.can; are_modules = are_lines is.all.modules is.all.sources; ends = is.status }))
      (outcome_told before.holds after.holds is.looks.tree is_config.told is.told) (is.looks.quiet (λ e. e)) is.looks.writes

  listed_told : (held told : Option Tree) → told ≡ held → IfSome held (λ tree. IsConfigOf words tree ListModules config) → IfSome held (λ tree. traced (get tree) config ≡ Ok is.all) → IfSome held (λ tree. IsDone words tree told)
  listed_told None told same of traces = tt
  listed_told (Some tree) told same of traces = done.listed (record { config = config; is_config = of; all = is.all; is_traced = traces }) same

  pub list_ends : Ends report.status report.text.items out out_after result → out.faults ≤ out_after.faults → EndsAs words before after out out_after result
  list_ends told more =
      ends_as words before after out out_after result report.status lines (λ none. is.looks.tree ∙ none) (λ zero. listed_told before.holds after.holds is.looks.tree is_config.told is.told) list_says
      (subst (λ text. Ends report.status text out out_after result) is.text told) is.looks.later (let w = is.looks.writes in omega (arith, w)) more
