-- The theorems of this project, and what they rest on.
--     NamesUrls need      referrer and target are URLs, and what is asked for stands for itself
--     MapsServe      a map that captures no need, and has no mappings but theirs, serves
--     HasDigests map      in the map's integrity stand texts under URLs
--     MapsReadBack      the text of such a map is read as that map
--     FewestMapsServe      the layout with the fewest mappings that serves the trace's needs, with the digests of its
--         modules, serves
--     NothingDiffers      checked over the same tree, its text has no difference
--     GeneratedReadsBack      what is generated is read as exactly the layout, with the digests of the trace's modules
--     WrittenMapsDifferNowhere      checked over the tree of which it was generated, a map that is written has no
--                           difference
--     NoMapServesAClash      of two requests that clash no map serves both
--     CheckedMapsServe      any text that is read as a map of which no need of the trace differs serves
--     Soundness      what is generated serves
--     GeneratedIsSmallest      no map that serves without keys that end in `/` has fewer mappings
--     ModulesAreKnown      what is generated has the digest of each module that the page reaches
--     MapsArePlain      what is generated holds no markup
--     OneMapInPage      a page into which it is put has it as its one map
--     SessionMapsServe      wherever a session stands that is opened on a tree, its map is generated and serves
use Rattle.std.specs.FinMap.{get}
use Rattle.std.specs.Prelude.{◌≡◌, ℕ, List, [], Some, Ok, Contains}
use Rattle.std.specs.Str.{IsUtf8}
use Rattle.tree_spec.specs.LookAskings.{Sights}
use Rattle.tree_spec.specs.Trees.{Tree}
use Rattle.url_spec.specs.Parsing.{IsUrl}
use Rattle.import_map_spec.specs.ParsedMap.{ParsedMap}
use Rattle.import_map_spec.specs.Parsing.{ParsesMap}
use Rattle.import_map_spec.specs.Resolving.{Resolved}
use Rattle.check_spec.specs.Differences.{differences, gets}
use Rattle.layout_spec.specs.Needs.{IsAsked}
use Rattle.layout_spec.specs.PrintedMap.{map_text}
use Rattle.layout_spec.specs.Serving.{NoCapture, OfNeeds}
use Rattle.layout_spec.specs.declared.Need.{Need}
use Rattle.fewest_spec.specs.Fewest.{IsFewestLayout}
use Rattle.page_spec.specs.ImportMaps.{IsOneMap}
use Rattle.page_spec.specs.Injection.{Injection}
use Rattle.page_spec.specs.Laws.{IsPlainMap}
use Rattle.trace_spec.specs.Checks.{Gathered}
use Rattle.trace_spec.specs.Laws.{IsClash}
use Rattle.trace_spec.specs.Modules.{Config, web_name}
use Rattle.trace_spec.specs.Traces.{traced}
use Rattle.trace_spec.specs.Walking.{the_page}
use Rattle.generator_spec.specs.Digests.{with_digests}
use Rattle.generator_spec.specs.Ending.{IsGenerated}
use Rattle.generator_spec.specs.Generation.{Generates, map_base}
use Rattle.generator_spec.specs.Serves.{IsSmallest, KnowsModules, Serves}
use Rattle.session_spec.specs.SessionRuns as sessions

-- own: in the map's integrity stand texts under URLs, whatever they are
abbrev pub HasDigests : ParsedMap → Type 0
HasDigests m = (url text : List ℕ) → get m.integrity url ≡ Some text → IsUrl url × IsUtf8 text

-- own law: the text of a map serves, wherever its mappings stand, where it captures none of the trace's needs and has
-- no mappings but theirs, whatever digests it has
abbrev pub MapsServe : Type 0
MapsServe =
    (tree : Tree) (config : Config) (all : Gathered) (m : ParsedMap) → traced (get tree) config ≡ Ok all
    → NoCapture all.needs m → OfNeeds all.needs m → HasDigests m
    → Serves tree config (map_text (map_base config) m)

-- own: referrer and target of the need are URLs, and what is asked for stands for itself and is no folder's
pub record NamesUrls (need : Need) : Type 0 where
  pub referrer : IsUrl need.referrer
  pub asked : IsAsked need.asked
  pub target : IsUrl need.target

-- own law: the text of a map that has no mappings but those of such needs, read against a map base, is that map: no
-- mapping and no digest is dropped, replaced or made null
abbrev pub MapsReadBack : Type 0
MapsReadBack =
    (base : List ℕ) (needs : List Need) (m : ParsedMap) → IsUrl base → OfNeeds needs m
    → ((need : Need) → Contains needs need → NamesUrls need) → HasDigests m → ParsesMap base (map_text base m) (Ok m)

-- own law: the text of the layout with the fewest mappings that serves the trace's needs, with the digests of its
-- modules, serves
abbrev pub FewestMapsServe : Type 0
FewestMapsServe =
    (tree : Tree) (config : Config) (all : Gathered) (layout : ParsedMap) → traced (get tree) config ≡ Ok all
    → IsFewestLayout all.needs layout
    → Serves tree config (map_text (map_base config) (with_digests config all layout))

-- own law: what that text is read as, against the page's URL, serves each of the trace's needs
abbrev pub NothingDiffers : Type 0
NothingDiffers =
    (tree : Tree) (config : Config) (all : Gathered) (layout parsed : ParsedMap) (base : List ℕ)
    → traced (get tree) config ≡ Ok all → IsFewestLayout all.needs layout
    → web_name config the_page ≡ Some base
    → ParsesMap base (map_text (map_base config) (with_digests config all layout)) (Ok parsed)
    → differences parsed all.needs ≡ []

-- own law: what is generated is read, against the page's URL, as exactly the layout of the trace's needs with the
-- digests of its modules
abbrev pub GeneratedReadsBack : Type 0
GeneratedReadsBack =
    (tree : Tree) (config : Config) (base bytes : List ℕ) (is : Generates tree config bytes)
    → web_name config the_page ≡ Some base → ParsesMap base bytes (Ok (with_digests config is.all is.layout))

-- own law: what the map of a command that writes one is read as, against the page's URL, serves each need of the trace
abbrev pub WrittenMapsDifferNowhere : Type 0
WrittenMapsDifferNowhere =
    (words : List (List ℕ)) (tree : Tree) (map line : List ℕ) (is : IsGenerated words tree map line) (base : List ℕ)
    (parsed : ParsedMap)
    → web_name is.config the_page ≡ Some base → ParsesMap base map (Ok parsed)
    → differences parsed is.generates.all.needs ≡ []

-- own law: of two requests of a trace that clash, no import map leads both to where Node leads them
abbrev pub NoMapServesAClash : Type 0
NoMapServesAClash =
    (sights : Sights) (config : Config) (referrer first first_to second second_to : List ℕ)
    (clash : IsClash sights config referrer first first_to second second_to) (map : ParsedMap)
    → gets map clash.need ≡ Resolved clash.need.target → gets map clash.other ≡ Resolved clash.other.target → ⊥

-- own law: a text serves, whoever wrote it, where what it is read as, against the page's URL, serves each of the
-- trace's needs
abbrev pub CheckedMapsServe : Type 0
CheckedMapsServe =
    (tree : Tree) (config : Config) (all : Gathered) (base bytes : List ℕ) (m : ParsedMap)
    → traced (get tree) config ≡ Ok all → web_name config the_page ≡ Some base → ParsesMap base bytes (Ok m)
    → differences m all.needs ≡ [] → Serves tree config bytes

-- own law: what is generated serves
abbrev pub Soundness : Type 0
Soundness = (tree : Tree) (config : Config) (bytes : List ℕ) → Generates tree config bytes → Serves tree config bytes

-- own law: and no map that serves has fewer mappings, unless one of its keys ends in `/`
abbrev pub GeneratedIsSmallest : Type 0
GeneratedIsSmallest =
    (tree : Tree) (config : Config) (bytes : List ℕ) → Generates tree config bytes → IsSmallest tree config bytes

-- own law: what is generated has, under the URL of each module that the page reaches, the digest of the file at the
-- module's path, and no other digest
abbrev pub ModulesAreKnown : Type 0
ModulesAreKnown =
    (tree : Tree) (config : Config) (bytes : List ℕ) → Generates tree config bytes → KnowsModules tree config bytes

-- own law: no tag of a page is read in what is generated
abbrev pub MapsArePlain : Type 0
MapsArePlain = (tree : Tree) (config : Config) (map : List ℕ) → Generates tree config map → IsPlainMap map

-- own law: put into a page, what is generated is the raw text of the page's one import map element
abbrev pub OneMapInPage : Type 0
OneMapInPage =
    (tree : Tree) (config : Config) (map page new : List ℕ) → Generates tree config map → Injection map page (Ok new)
    → IsOneMap map new

-- own law: wherever a session stands that is opened on a tree, whatever edits led there, its map is generated for the
-- tree and the config of its state, serves, has the digests of the modules, and is smallest
abbrev pub SessionMapsServe : Type 0
SessionMapsServe = (tree : Tree) (input : List ℕ) → sessions.StatesServe tree input
