-- Generation: the one map of a tree and a config.
--     map_base config      the URL of the page, against which a map is parsed
--     Generates tree config bytes      the bytes are the map's text for them
--     IsTooWide tree config      there would be a map for them, but some specifier has too many choices
--     IsTooLarge tree config      there would be one, but its text is too large
use Rattle.std.specs.Prelude.{◌≡◌, ◌≤◌, ◌<◌, ℕ, List, [], length, Some, Ok, false, unwrap_or}
use Rattle.std.specs.FinMap.{get}
use Rattle.tree_spec.specs.declared.LimitName.TheVariants.{Map}
use Rattle.tree_spec.specs.Limits.{limit_number}
use Rattle.tree_spec.specs.Trees.{Tree}
use Rattle.url_spec.specs.Specifiers.{ends_in_slash}
use Rattle.import_map_spec.specs.ParsedMap.{ParsedMap}
use Rattle.layout_spec.specs.PrintedMap.{map_text}
use Rattle.fewest_spec.specs.Fewest.{IsFewestLayout}
use Rattle.fewest_spec.specs.Wishes.{HasTooManyChoices}
use Rattle.trace_spec.specs.Walking.{the_page}
use Rattle.trace_spec.specs.Modules.{Config, web_name}
use Rattle.trace_spec.specs.Checks.{Gathered}
use Rattle.trace_spec.specs.Traces.{traced}
use Rattle.generator_spec.specs.Digests.{with_digests}

-- own: the page's web name is no folder's
abbrev pub PageIsFile : Config → Type 0
PageIsFile config = (name : List ℕ) → web_name config the_page ≡ Some name → ends_in_slash name ≡ false

-- HTML, import maps: an inline map is parsed against the URL of its page. own: where the page has none, nothing is
-- traced
abbrev pub map_base : Config → List ℕ
map_base config = unwrap_or (web_name config the_page) []

-- own: nothing is refused, no specifier has too many choices, and the bytes are the text of the layout with the fewest
-- mappings that serves the trace's needs, with the digests of its modules, written beside the page: at most 67,108,864
pub record Generates (tree : Tree) (config : Config) (bytes : List ℕ) : Type 0 where
  pub all : Gathered
  pub is_traced : traced (get tree) config ≡ Ok all
  pub few : HasTooManyChoices all.needs → ⊥
  pub layout : ParsedMap
  pub is_fewest : IsFewestLayout all.needs layout
  pub text : bytes ≡ map_text (map_base config) (with_digests config all layout)
  pub within : length bytes ≤ limit_number Map

-- own: nothing of the trace is refused, and some specifier has too many choices
pub record IsTooWide (tree : Tree) (config : Config) : Type 0 where
  pub all : Gathered
  pub is_traced : traced (get tree) config ≡ Ok all
  pub many : HasTooManyChoices all.needs

-- own: nothing of the trace is refused, no specifier has too many choices, and that text has more bytes
pub record IsTooLarge (tree : Tree) (config : Config) : Type 0 where
  pub all : Gathered
  pub is_traced : traced (get tree) config ≡ Ok all
  pub few : HasTooManyChoices all.needs → ⊥
  pub layout : ParsedMap
  pub is_fewest : IsFewestLayout all.needs layout
  pub large : limit_number Map < length (map_text (map_base config) (with_digests config all layout))
