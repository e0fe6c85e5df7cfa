-- What is kept of the digests of a trace's modules. None of it says which trace that was.
--     UrlBytes      a URL, and the bytes that were there
--     Paired      such modules, and the digests under their URLs
--     digests_of modules      the digest of the bytes under each URL; of the first ones, where a URL stands twice
--     named config modules sources      the URLs and bytes of a trace's modules, where they have URLs
--     with_named url bytes others      the others, and behind them the bytes under the URL, where there is one
--     IsNamed config all place before after      the module at a place was added there
--     HasUrlAt config modules kept place, HasUrls config modules kept      the module at that place has the URL that is
--                                                                          kept there, and so has each one
--     with_bytes modules place bytes      the module at the place has these bytes
--     turned modules sources      each module has the bytes of its source, where it has one
use Rattle.std.specs.FinMap.{empty, insert}
use Rattle.std.specs.Prelude.{◌≡◌, ◌<◌, ℕ, zero, suc, List, [], ◌∷◌, ◌++◌, length, slice_get}
use Rattle.std.specs.Prelude.{Option, Some, None, option_map}
use Rattle.import_map_spec.specs.ParsedMap.{Texts}
use Rattle.integrity_spec.specs.DigestTexts.{digest_text}
use Rattle.trace_spec.specs.Checks.{Gathered}
use Rattle.trace_spec.specs.Modules.{Config, Module, web_name}
use Rattle.trace_spec.specs.Questions.{Source}
use Rattle.trace_spec.specs.Walking.{a_module}

pub record UrlBytes : Type 0 where
  pub url : List ℕ
  pub bytes : List ℕ

pub record Paired : Type 0 where
  pub modules : List UrlBytes
  pub pairs : List (List ℕ × List ℕ)

abbrev pub digests_of : List UrlBytes → Texts (List ℕ)
digests_of [] = empty
digests_of (m ∷ more) = insert (digests_of more) m.url (digest_text m.bytes)

abbrev pub before_named : Option (List ℕ) → List ℕ → List UrlBytes → List UrlBytes
before_named None bytes others = others
before_named (Some url) bytes others = record { url = url; bytes = bytes } ∷ others

abbrev pub with_named : Option (List ℕ) → List ℕ → List UrlBytes → List UrlBytes
with_named None bytes others = others
with_named (Some url) bytes others = others ++ record { url = url; bytes = bytes } ∷ []

abbrev pub named : Config → List Module → List Source → List UrlBytes
named config [] sources = []
named config (m ∷ modules) [] = []
named config (m ∷ modules) (source ∷ sources) =
    before_named (web_name config (a_module m)) source.bytes (named config modules sources)

abbrev pub IsNamed : Config → Gathered → ℕ → List UrlBytes → List UrlBytes → Type 0
IsNamed config all place before after =
    (m : Module) (source : Source) → slice_get all.modules place ≡ Some m → slice_get all.sources place ≡ Some source
    → after ≡ with_named (web_name config (a_module m)) source.bytes before

abbrev pub HasUrlAt : Config → List Module → List UrlBytes → ℕ → Type 0
HasUrlAt config modules kept place =
    option_map (λ m. web_name config (a_module m)) (slice_get modules place)
    ≡ option_map (λ (k : UrlBytes). Some k.url) (slice_get kept place)

abbrev pub HasUrls : Config → List Module → List UrlBytes → Type 0
HasUrls config modules kept = (place : ℕ) → place < length kept → HasUrlAt config modules kept place

abbrev pub with_bytes : List UrlBytes → ℕ → List ℕ → List UrlBytes
with_bytes [] place bytes = []
with_bytes (m ∷ more) zero bytes = record { url = m.url; bytes = bytes } ∷ more
with_bytes (m ∷ more) (suc place) bytes = m ∷ with_bytes more place bytes

abbrev pub turned : List UrlBytes → List Source → List UrlBytes
turned [] sources = []
turned (m ∷ more) [] = m ∷ more
turned (m ∷ more) (source ∷ sources) = record { url = m.url; bytes = source.bytes } ∷ turned more sources
