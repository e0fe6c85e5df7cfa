-- What the code's sources stand for.
--     source_of source          the bytes, and the specifiers of the requests
--     no_source_of why          why there is none
--     source_in found           a source, or why there is none
--     IsOfSource why            of the limits only those of a trace are passed
--     AreInside bytes requests  the literal of each request stands in these bytes
--     IsRead bytes              the bytes are a text that has an outline
--     IsSource found            a source that is read, whose requests are inside its bytes; or why there is none
--     FindsSource result        what a call finds is such
use Rattle.std.specs.Prelude.{◌≤◌, ℕ, List, All, length, map, ⊤, Result, Ok, Err, IfOk}
use Rattle.std.specs.Str.{IsUtf8}
use Rattle.module_spec.specs.declared.request.Request.{Request}
use Rattle.module_spec.specs.Outlines.{Outline, ReadsOutline}
use Rattle.trace_spec.specs.Kinds.{IsTraceLimit}
use Rattle.trace_spec.specs.Questions as spec
use Rattle.module_sources.specs.declared.source.Source.{Source}
use Rattle.module_sources.specs.declared.source.NoSource.{NoSource}
use Rattle.module_sources.specs.declared.source.NoSource.TheVariants.{NotModule, Above}

abbrev pub source_of : Source → spec.Source
source_of source =
    record {
      bytes = source.bytes.value;
      specifiers = map (λ (request : Request). request.text) source.requests.value;
    }

abbrev pub no_source_of : NoSource → spec.NoSource
no_source_of (NotModule reason) = spec.not_module reason
no_source_of (Above which) = spec.above which

abbrev pub source_in : Result Source NoSource → Result spec.Source spec.NoSource
source_in (Ok source) = Ok (source_of source)
source_in (Err why) = Err (no_source_of why)

abbrev pub IsOfSource : NoSource → Type 0
IsOfSource (NotModule reason) = ⊤
IsOfSource (Above which) = IsTraceLimit which

abbrev pub AreInside : List ℕ → List Request → Type 0
AreInside bytes requests = All (λ request. (request.from ≤ request.to) × (request.to ≤ length bytes)) requests

pub record IsRead (bytes : List ℕ) : Type 0 where
  pub utf8 : IsUtf8 bytes
  pub outline : Outline
  pub reads : ReadsOutline bytes (Ok outline)

abbrev pub IsSource : Result Source NoSource → Type 0
IsSource (Ok source) = AreInside source.bytes.value source.requests.value × IsRead source.bytes.value
IsSource (Err why) = IsOfSource why

abbrev pub FindsSource : {E : Type 0} → Result (Result Source NoSource) E → Type 0
FindsSource result = IfOk result IsSource
