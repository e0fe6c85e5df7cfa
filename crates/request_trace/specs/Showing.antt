-- A trace, as a contract sees it.
--     Traced                                  what was gathered, the graph of its modules, and where was looked for it
--     gathered_in l needs spellings           what is gathered in this graph, with these needs and spellings
--     traced_in l needs spellings footprint   the trace of these
--     gathered_of result                      what was gathered, or why it wasn't
--     bytes_at trace place                    the bytes of the module at a place
--     Shows trace                             the modules that were gathered, their sources, and where each request
--                                             leads, are those of the graph
--     IsTraceAt base names requests all       what was gathered is whole, these are the names of the modules at this
--                                             base, and that is the number of requests
use Rattle.std.specs.Prelude.{◌≡◌, ℕ, List, length, map, slice_get, Option, Some, option_map, Result, Ok, Err}
use Rattle.layout_spec.specs.declared.Need.{Need}
use Rattle.trace_graph.specs.Links.{Links, modules_of, sources_of, targets_of}
use Rattle.trace_spec.specs.Checks.{Gathered, Spelling}
use Rattle.trace_spec.specs.Modules.{Module}
use Rattle.trace_walk.specs.Walking.{IsWhole}
use Rattle.url_spec.specs.WebNames.{web}

pub record Traced : Type 0 where
  pub gathered : Gathered
  pub links : Links
  pub footprint : List (List ℕ)

abbrev pub gathered_in : Links → List Need → List Spelling → Gathered
gathered_in l needs spellings =
    record {
      modules = modules_of l;
      sources = sources_of l;
      needs = needs;
      spellings = spellings;
      targets = targets_of l;
    }

abbrev pub traced_in : Links → List Need → List Spelling → List (List ℕ) → Traced
traced_in l needs spellings footprint =
    record {
      gathered = gathered_in l needs spellings;
      links = l;
      footprint = footprint;
    }

abbrev pub gathered_of : {E : Type 0} → Result Traced E → Result Gathered E
gathered_of (Ok trace) = Ok trace.gathered
gathered_of (Err fault) = Err fault

abbrev pub bytes_at : Traced → ℕ → Option (List ℕ)
bytes_at trace place = option_map (λ source. source.bytes) (slice_get trace.gathered.sources place)

pub record Shows (trace : Traced) : Type 0 where
  pub modules_are : modules_of trace.links ≡ trace.gathered.modules
  pub sources_are : sources_of trace.links ≡ trace.gathered.sources
  pub targets_are : targets_of trace.links ≡ trace.gathered.targets

pub record IsTraceAt (base : List ℕ) (names : List (List ℕ)) (requests : ℕ) (all : Gathered) : Type 0 where
  pub whole : IsWhole all
  pub named : map (λ (m : Module). web base m.path m.suffix) all.modules ≡ map Some names
  pub counted : requests ≡ length all.targets
