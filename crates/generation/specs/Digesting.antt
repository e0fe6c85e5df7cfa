-- How digests are kept in memory.
--     kept_texts kept      the finite map of a map in memory
--     IsPut config all place before after      the digest of the module at a place was put there
use Rattle.std.specs.BTreeMap.{BTreeMap}
use Rattle.std.specs.FinMap.{from_entries}
use Rattle.std.specs.Prelude.{◌≡◌, ℕ, List, map, slice_get, Some}
use Rattle.import_map_spec.specs.ParsedMap.{Texts}
use Rattle.trace_spec.specs.Checks.{Gathered}
use Rattle.trace_spec.specs.Modules.{Config, Module, web_name}
use Rattle.trace_spec.specs.Questions.{Source}
use Rattle.trace_spec.specs.Walking.{a_module}
use Rattle.generator_spec.specs.Digests.{with_digest}

abbrev pub kept_texts : BTreeMap (List ℕ) (List ℕ) → Texts (List ℕ)
kept_texts kept = from_entries (map (λ e. (e.0, e.1)) kept.entries)

abbrev pub IsPut : Config → Gathered → ℕ → Texts (List ℕ) → Texts (List ℕ) → Type 0
IsPut config all place before after =
    (m : Module) (source : Source) → slice_get all.modules place ≡ Some m → slice_get all.sources place ≡ Some source
    → after ≡ with_digest (web_name config (a_module m)) source.bytes before
