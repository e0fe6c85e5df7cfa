-- What a written map promises.
--     Reachable tree config referrer    the page reaches it by requests
--     Leads tree config map referrer name specifier      HTML's resolution leads to the file that Node's gives
--     Serves tree config bytes          every request of whatever is reachable is led so through the map with this text
--     IsKnown tree config map m         the map has the digest of the module's file, under the module's URL
--     KnowsModules tree config bytes    the map with this text has that of each module that is reachable, and no other
--     IsSmallest tree config bytes      no map that serves without keys that end in `/` has fewer mappings than its map
use Rattle.std.specs.Prelude.{◌≡◌, ◌≤◌, ℕ, List, Some, Contains, Ok}
use Rattle.std.specs.FinMap.{get}
use Rattle.tree_spec.specs.declared.Entry.TheVariants.{Stored}
use Rattle.tree_spec.specs.Trees.{Tree}
use Rattle.url_spec.specs.WebNames.{web}
use Rattle.url_spec.specs.ServedPaths.{IsServed}
use Rattle.node_spec.specs.EsmResolve.{Resolves}
use Rattle.import_map_spec.specs.ParsedMap.{ParsedMap}
use Rattle.import_map_spec.specs.Parsing.{ParsesMap}
use Rattle.import_map_spec.specs.Resolving as html
use Rattle.layout_spec.specs.Counting.{mapping_count}
use Rattle.fewest_spec.specs.Laws.{NoFolderKeys}
use Rattle.integrity_spec.specs.DigestTexts.{digest_text}
use Rattle.trace_spec.specs.Walking.{Referrer, the_page, a_module}
use Rattle.trace_spec.specs.Modules.{Config, Module, path_of, web_name}
use Rattle.trace_spec.specs.Traces.{requests}

-- own: the page is reachable, and so is every module that Node answers for a request of something reachable
pub data Reachable (tree : Tree) (config : Config) : Referrer Module → Type 0 where
  page : Reachable tree config the_page
  requested :
      (referrer : Referrer Module) (specifiers : List (List ℕ)) (specifier : List ℕ) (target : Module)
      → Reachable tree config referrer → requests (get tree) config referrer ≡ Some specifiers
      → Contains specifiers specifier
      → Resolves tree config.conditions (path_of config referrer) specifier (Ok target)
      → Reachable tree config (a_module target)

-- own: Node answers a specifier with a file, HTML's resolution through the map ends at a URL, and this file is served
-- there
pub record Leads (tree : Tree) (config : Config) (map : ParsedMap) (referrer : Referrer Module)
    (name specifier : List ℕ) : Type 0 where
  pub target : Module
  pub url : List ℕ
  pub node : Resolves tree config.conditions (path_of config referrer) specifier (Ok target)
  pub web : web config.base target.path target.suffix ≡ Some url
  pub html : html.Resolves map name specifier (html.Resolved url)
  pub served : IsServed config.base url target.path

-- own: a referrer has its requests, and each of them is led to its file
pub record AllLead (tree : Tree) (config : Config) (map : ParsedMap) (referrer : Referrer Module) : Type 0 where
  pub name : List ℕ
  pub named : web_name config referrer ≡ Some name
  pub specifiers : List (List ℕ)
  pub asks : requests (get tree) config referrer ≡ Some specifiers
  pub leads : (specifier : List ℕ) → Contains specifiers specifier → Leads tree config map referrer name specifier

-- own: parsed at the page's URL, the text is a map through which each request of whatever is reachable finds its file
pub record Serves (tree : Tree) (config : Config) (bytes : List ℕ) : Type 0 where
  pub map_base : List ℕ
  pub named : web_name config the_page ≡ Some map_base
  pub map : ParsedMap
  pub parses : ParsesMap map_base bytes (Ok map)
  pub all_lead : (referrer : Referrer Module) → Reachable tree config referrer → AllLead tree config map referrer

-- HTML, import maps, integrity: the digest of the bytes that stand at the module's path
pub record IsKnown (tree : Tree) (config : Config) (map : ParsedMap) (m : Module) : Type 0 where
  pub url : List ℕ
  pub named : web_name config (a_module m) ≡ Some url
  pub bytes : List ℕ
  pub stands : get tree m.path ≡ Some (Stored bytes)
  pub digest : get map.integrity url ≡ Some (digest_text bytes)

-- own: a module that the page reaches has this URL
pub record IsNamedModule (tree : Tree) (config : Config) (url : List ℕ) : Type 0 where
  pub m : Module
  pub reachable : Reachable tree config (a_module m)
  pub named : web_name config (a_module m) ≡ Some url

-- own: parsed at the page's URL, the text is a map that has the digest of each module that the page reaches, and no
-- other
pub record KnowsModules (tree : Tree) (config : Config) (bytes : List ℕ) : Type 0 where
  pub map_base : List ℕ
  pub named : web_name config the_page ≡ Some map_base
  pub map : ParsedMap
  pub parses : ParsesMap map_base bytes (Ok map)
  pub each : (m : Module) → Reachable tree config (a_module m) → IsKnown tree config map m
  pub only : (url text : List ℕ) → get map.integrity url ≡ Some text → IsNamedModule tree config url

-- own: parsed at the page's URL, the text is a map; and the map of each text that serves has as many mappings in its
-- imports and scopes, or more, unless a key of these ends in `/`
pub record IsSmallest (tree : Tree) (config : Config) (bytes : List ℕ) : Type 0 where
  pub map_base : List ℕ
  pub named : web_name config the_page ≡ Some map_base
  pub map : ParsedMap
  pub parses : ParsesMap map_base bytes (Ok map)
  pub fewest :
      (text : List ℕ) (other : ParsedMap) → Serves tree config text → ParsesMap map_base text (Ok other)
      → NoFolderKeys other → mapping_count map ≤ mapping_count other
