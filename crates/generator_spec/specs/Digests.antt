-- The digests of a map, by which a browser knows the bytes of each module (HTML, import maps: integrity).
--     digests config modules sources      the URL of each module, with the digest of its bytes
--     with_digests config all layout      the layout of a trace, with the digests of its modules
--     with_digest url bytes others      the others, with the digest of the bytes under the URL, where there is one
use Rattle.std.specs.FinMap.{empty, insert}
use Rattle.std.specs.Prelude.{ℕ, List, [], ◌∷◌, Option, Some, None}
use Rattle.import_map_spec.specs.ParsedMap.{Texts, ParsedMap}
use Rattle.integrity_spec.specs.DigestTexts.{digest_text}
use Rattle.trace_spec.specs.Checks.{Gathered}
use Rattle.trace_spec.specs.Modules.{Config, Module, web_name}
use Rattle.trace_spec.specs.Questions.{Source}
use Rattle.trace_spec.specs.Walking.{a_module}

abbrev pub with_digest : Option (List ℕ) → List ℕ → Texts (List ℕ) → Texts (List ℕ)
with_digest None bytes others = others
with_digest (Some url) bytes others = insert others url (digest_text bytes)

-- own: a URL stands there once
abbrev pub digests : Config → List Module → List Source → Texts (List ℕ)
digests config [] sources = empty
digests config (m ∷ modules) [] = empty
digests config (m ∷ modules) (source ∷ sources) =
    with_digest (web_name config (a_module m)) source.bytes (digests config modules sources)

abbrev pub with_digests : Config → Gathered → ParsedMap → ParsedMap
with_digests config all layout =
    record {
      imports = layout.imports;
      scopes = layout.scopes;
      integrity = digests config all.modules all.sources;
    }
