-- The tables of a walk as the parts of a trace.
--     moved                    one of a list more that is taken from the end of another
--     no_entries               nothing is left where nothing can be taken
--     inside_at                the literal of a request stands in the bytes
--     requests_counted         the requests of the modules
--     as_many                  as many modules as there were
--     tables_are               the parts are told as the tables
--     traces_lost              there is no memory for what was traced
--     as_trace, takes_trace    the trace that was made of the tables
use Rattle.std.proofs.Common.{◌≡◌, ◌≤◌, ◌+◌, ◌<◌, ◌++◌, ℕ, List, [], ◌∷◌, length, map, reverse, Some, Ok, Err, refl, sym, ap, ◌∙◌, subst, arith}
use Rattle.std.specs.Prelude.{flat_map, slice_get}
use Rattle.std.specs.Map.{keys_of}
use Rattle.std.proofs.lemmas.List.{append_assoc, map-append, length-map, length-append, length-reverse, reverse-append}
use Rattle.std.proofs.lemmas.Option.{slice_get_within, get_or_from_slice_get}
use Rattle.module_spec.specs.declared.request.Request.{Request}
use Rattle.module_graph.specs.declared.module.Module as vertex
use Rattle.module_graph.specs.Many.{requests_in}
use Rattle.module_sources.specs.Shown as walk
use Rattle.module_sources.specs.Shown.{AreInside}
use Rattle.package_lookup.proofs.Learnings.{learns_as}
use Rattle.package_lookup.specs.declared.known.Known.{Known}
use Rattle.trace_graph.specs.Building.{IsGraphOf}
use Rattle.trace_graph.specs.Links.{Links, module_of, source_of}
use Rattle.trace_spec.specs.declared.TraceFault.TheVariants.{Memory}
use Rattle.trace_spec.specs.Checks.{Gathered}
use Rattle.trace_spec.specs.Modules.{Config, Module}
use Rattle.trace_spec.specs.Questions.{Source}
use Rattle.tree_spec.proofs.ToldStates.{if_all}
use Rattle.tree_spec.specs.States.{FolderState}
use Rattle.trace_walk.specs.Shown as walked
use Rattle.trace_walk.specs.Shown.{before_of}
use Rattle.trace_walk.specs.Walking.{module_requests}
use Rattle.trace_walk.specs.declared.tables.Tables.{Tables}
use Rattle.request_trace.specs.Showing.{gathered_in}
use Rattle.request_trace.specs.Tracing.{IsOfFootprint, Traces, known_of}

-- ---- lists

module _ {X Y Z : Type 0} (f : X → Z) (h : Y → Z) where
  pub moved : (all rest : List X) (x : X) (done more : List Y) (y : Y) (whole : List Z) → all ≡ rest ++ x ∷ []
      → more ≡ done ++ y ∷ [] → h y ≡ f x → map f all ++ map h (reverse done) ≡ whole
      → map f rest ++ map h (reverse more) ≡ whole
  moved all rest x done more y whole popped pushed same is =
      ap (λ ys. map f rest ++ map h (reverse ys)) pushed
      ∙ (ap (λ ys. map f rest ++ map h ys) (reverse-append done (y ∷ []))
      ∙ (ap (λ z. map f rest ++ z ∷ map h (reverse done)) same
      ∙ (sym (append_assoc (map f rest) (f x ∷ []) (map h (reverse done)))
      ∙ (ap (λ front. front ++ map h (reverse done)) (sym (map-append f rest (x ∷ [])) ∙ ap (map f) (sym popped)) ∙ is))))

pub no_entries : {X : Type 0} (xs : List X) → (0 < length xs → ⊥) → xs ≡ []
no_entries [] none = refl
no_entries (x ∷ xs) none = absurd (none (omega arith))

pub nothing_left : {X : Type 0} (xs : List X) → length xs ≡ 0 → xs ≡ []
nothing_left [] none = refl
nothing_left (x ∷ xs) none = absurd (omega (arith, none))

-- ---- a module with its source

pub inside_at : (bytes : List ℕ) (requests : List Request) (i : ℕ) (r : Request) → AreInside bytes requests
    → slice_get requests i ≡ Some r → (r.from ≤ r.to) × (r.to ≤ length bytes)
inside_at bytes requests i r inside at =
    subst (λ (q : Request). (q.from ≤ q.to) × (q.to ≤ length bytes)) (get_or_from_slice_get requests i r r at)
    (inside i r (slice_get_within requests i r at))

-- ---- all of them

one_more : (source : Source) (sources : List Source)
    → module_requests (source ∷ sources) ≡ length source.specifiers + module_requests sources
one_more source sources = length-append source.specifiers (flat_map (λ (s : Source). s.specifiers) sources)

pub requests_counted : (modules : List vertex.Module) → module_requests (map source_of modules) ≡ requests_in modules
requests_counted [] = refl
requests_counted (v ∷ modules) =
    one_more (source_of v) (map source_of modules)
    ∙ ap (λ n. n + module_requests (map source_of modules)) (length-map v.requests.value (λ (r : Request). r.text))
    ∙ ap (λ n. length v.requests.value + n) (requests_counted modules)

pub as_many : (modules : List vertex.Module) (keys : List Module) → map module_of (reverse modules) ≡ keys
    → length modules ≡ length keys
as_many modules keys same =
    sym (length-map (reverse modules) module_of ∙ length-reverse modules) ∙ ap length same

module _ (tables : Tables) (modules : List vertex.Module) (l : Links)
    (shown : map module_of modules ≡ keys_of tables.modules.entries)
    (read : map source_of modules ≡ map walk.source_of tables.sources.items)
    (is : IsGraphOf modules tables.targets.items l) where
  pub tables_are : gathered_in l tables.needs tables.spellings.items ≡ before_of tables
  tables_are = λ i. record {
    modules = (is.modules_are ∙ shown) i;
    sources = (is.sources_are ∙ read) i;
    needs = tables.needs;
    spellings = tables.spellings.items;
    targets = (is.targets_are ∙ ap (λ ms. map (walked.module_at ms) tables.targets.items) shown) i;
  }

-- ---- the call

pub traces_lost : (config : Config) (before after : FolderState) (known later : Known) (found : Gathered)
    → Traces config before known (Ok found) after later → Traces config before known (Err Memory) after later
traces_lost config before after known later found traces = record {
  is = if_all before.holds (λ tree. λ sights sees told. absurd (told.1 refl));
  learns = learns_as (known_of before known) (known_of after later) _ _ (IsOfFootprint config before known)
      (IsOfFootprint config before known) (λ e. refl) (λ path of. of) traces.learns;
  looks = record {
    tree = traces.looks.tree;
    writes = traces.looks.writes;
    later = traces.looks.later;
    cause = λ e. absurd (cc);
    quiet = λ none. traces.looks.quiet (λ e. cc);
  };
  kind = tt;
}

pub as_trace : (config : Config) (before after : FolderState) (known later : Known) (found trace : Gathered) → trace ≡ found
    → Traces config before known (Ok found) after later → Traces config before known (Ok trace) after later
as_trace config before after known later found trace same traces =
    subst (λ t. Traces config before known (Ok t) after later) (sym same) traces

pub takes_trace : (tables : Tables) (trace : Gathered) (before after : ℕ) → trace ≡ before_of tables
    → after ≤ before + (length tables.sources.items + length tables.targets.items)
    → after ≤ before + (length trace.sources + length trace.targets)
takes_trace tables trace before after same few =
    let sources = ap (λ (t : Gathered). length t.sources) same ∙ length-map tables.sources.items walk.source_of in
    let targets =
    ap (λ (t : Gathered). length t.targets) same
    ∙ length-map tables.targets.items (walked.module_at (keys_of tables.modules.entries)) in
    omega (arith, sources, targets, few)
