-- Why a file is loaded: the shortest chain of requests from the page to it.
--     referrer_of asker                      who asks, as the trace knows it
--     asked_by sights config asker           the modules that Node answers for the requests of an asker, in text order
--     is_at config path asker                the page or a module at this path, with any suffix
--     chain_lines sights config from numbers     one line for each request of a chain from there
--     SaysWhy sights config path status lines    what is said of a path, and with which status
use Rattle.std.specs.Prelude.{◌≡◌, ℕ, Bool, List, [], ◌∷◌, ◌++◌, bytes_eq, slice_get, Option, Some, None, unwrap_or}
use Rattle.tree_spec.specs.LookAskings.{Sights}
use Rattle.chain_spec.specs.Chains.{Asker, by_page, by_module, Targets, IsChain, IsShortest}
use Rattle.trace_spec.specs.Modules.{Config, Module, path_of}
use Rattle.trace_spec.specs.Traces.{specifiers, targets}
use Rattle.trace_spec.specs.Walking.{Referrer, the_page, a_module}
use Rattle.generator_spec.specs.Lines.{from_page_line, asks_line, not_reached_line}
use Rattle.generator_spec.specs.Statuses.{done_status, not_reached_status}

abbrev pub referrer_of : Asker Module → Referrer Module
referrer_of by_page = the_page
referrer_of (by_module m) = a_module m

-- own: the page asks for its entries. Where there is a trace, Node answers each request with a module
abbrev pub asked_by : Sights → Config → Targets Module
asked_by sights config asker = targets sights config (referrer_of asker)

abbrev pub is_at : Config → List ℕ → Asker Module → Bool
is_at config path asker = bytes_eq (path_of config (referrer_of asker)) path

-- the line of the request with this number among these, which leads to this module
abbrev pub request_line : List (List ℕ) → ℕ → Module → List ℕ
request_line specifiers number m = asks_line (unwrap_or (slice_get specifiers number) []) (m.path ++ m.suffix)

abbrev pub lines_by : Option Module → (Module → List (List ℕ)) → List (List ℕ)
lines_by None next = []
lines_by (Some m) next = next m

abbrev pub chain_lines : Sights → Config → Asker Module → List ℕ → List (List ℕ)
chain_lines sights config from [] = []
chain_lines sights config from (number ∷ more) =
    lines_by
    (slice_get (asked_by sights config from) number)
    (λ m. request_line (specifiers sights config (referrer_of from)) number m
    ∷ chain_lines sights config (by_module m) more)

-- own: the page, and then the requests of the shortest chain, which for the page's own path has none; or that no chain
-- leads there
pub data SaysWhy (sights : Sights) (config : Config) (path : List ℕ) (status : ℕ) (lines : List (List ℕ))
    : Type 0 where
  reached :
      (numbers : List ℕ) → IsShortest (asked_by sights config) (is_at config path) numbers → status ≡ done_status
      → lines ≡ from_page_line config.page ∷ chain_lines sights config by_page numbers
      → SaysWhy sights config path status lines
  not_reached :
      ((numbers : List ℕ) → IsChain (asked_by sights config) (is_at config path) numbers → ⊥)
      → status ≡ not_reached_status → lines ≡ not_reached_line path ∷ [] → SaysWhy sights config path status lines
