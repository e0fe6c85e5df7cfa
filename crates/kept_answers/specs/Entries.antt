-- What a table keeps of an answer.
--     ModuleSeen                 the bytes and the requests of a module, and the looks that decided its source
--     module_seen source looks   the same of a source
--     source_seen kept           the source
--     Request                    a request: the path of its parent, and its specifier
--     is_request                 two are one request
use Rattle.std.specs.Prelude.{ℕ, Bool, List, map, bytes_eq}
use Rattle.std.specs.Ordering.{on, eq_of_both}
use Rattle.module_spec.specs.declared.request.Request as requests
use Rattle.module_sources.specs.declared.source.Source.{Source}
use Rattle.trace_spec.specs.Questions as spec
use Rattle.kept_spec.specs.Certificates.{LookSeen}

pub record ModuleSeen : Type 0 where
  pub bytes : List ℕ
  pub requests : List requests.Request
  pub looks : List LookSeen

abbrev pub module_seen : Source → List LookSeen → ModuleSeen
module_seen source looks = record { bytes = source.bytes.value; requests = source.requests.value; looks = looks }

abbrev pub source_seen : ModuleSeen → spec.Source
source_seen kept =
    record { bytes = kept.bytes; specifiers = map (λ (request : requests.Request). request.text) kept.requests }

pub record Request : Type 0 where
  pub parent : List ℕ
  pub specifier : List ℕ

abbrev pub is_request : Request → Request → Bool
is_request = eq_of_both (on (λ r. r.parent) bytes_eq) (on (λ r. r.specifier) bytes_eq)
