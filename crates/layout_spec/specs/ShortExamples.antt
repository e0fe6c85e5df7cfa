-- Worked examples of short forms.
--     OfRootPage, OfFolderPage      URLs beside a page of the root, and of a folder
--     OddNames      URLs with marks that a parser could take for something else
--     OddBases      map bases that no page has
--     PrintedShort      printed maps
use Rattle.std.specs.Prelude.{codes, ◌≡◌, [], ◌∷◌, List, ℕ, map}
use Rattle.import_map_spec.specs.WorkedExamples.{to_url, scope, pair}
use Rattle.import_map_spec.specs.WrittenMaps.{Lists, map_of_lists}
use Rattle.layout_spec.specs.PrintedMap.{map_text}
use Rattle.layout_spec.specs.ShortForms.{folder_text, short}
use Rattle.layout_spec.specs.WorkedExamples.{lines}
use Prim.Native.String.{String}

-- beside this page the URL is written so
abbrev pub Shortens : String → String → String → Type 0
Shortens page url text = short (codes page) (codes url) ≡ codes text

abbrev pub StaysWhole : String → String → Type 0
StaysWhole page url = Shortens page url url

pub record OfRootPage : Type 0 where
  pub folder : folder_text (codes "https://app.test/index.html") ≡ codes "https://app.test/"
  pub file : Shortens "https://app.test/index.html" "https://app.test/app.mjs" "./app.mjs"
  pub deep : Shortens "https://app.test/index.html" "https://app.test/node_modules/ui/b.js" "./node_modules/ui/b.js"
  pub scope : Shortens "https://app.test/index.html" "https://app.test/a/" "./a/"
  -- the page is a folder itself
  pub page_is_root : Shortens "https://app.test/" "https://app.test/app.mjs" "./app.mjs"
  -- nothing is left of the root's own URL; no module has one that ends in `/`
  pub root : Shortens "https://app.test/index.html" "https://app.test/" "./"
  pub other_host : StaysWhole "https://app.test/index.html" "https://cdn.test/app.mjs"
  pub other_port : StaysWhole "https://app.test/index.html" "https://app.test:8080/app.mjs"
  pub other_scheme : StaysWhole "https://app.test/index.html" "http://app.test/app.mjs"
  pub builtin : StaysWhole "https://app.test/index.html" "node:fs"

pub record OfFolderPage : Type 0 where
  pub folder : folder_text (codes "https://app.test/docs/index.html") ≡ codes "https://app.test/docs/"
  pub below : Shortens "https://app.test/docs/index.html" "https://app.test/docs/a/b.mjs" "./a/b.mjs"
  -- no `../` is written
  pub above : StaysWhole "https://app.test/docs/index.html" "https://app.test/node_modules/ui/b.js"
  pub longer_name : StaysWhole "https://app.test/docs/index.html" "https://app.test/docs2/a.mjs"
  -- the web base has a path
  pub based : Shortens "https://app.test/app/index.html" "https://app.test/app/app/x.mjs" "./app/x.mjs"
  pub port : Shortens "http://localhost:8080/a/b/" "http://localhost:8080/a/b/c.mjs" "./c.mjs"

pub record OddNames : Type 0 where
  pub query : Shortens "https://app.test/index.html" "https://app.test/a.mjs?v=1&w=/2" "./a.mjs?v=1&w=/2"
  pub fragment : Shortens "https://app.test/index.html" "https://app.test/a.mjs#/x?y" "./a.mjs#/x?y"
  pub only_query : Shortens "https://app.test/index.html" "https://app.test/?a" "./?a"
  pub only_fragment : Shortens "https://app.test/index.html" "https://app.test/#a" "./#a"
  pub escapes : Shortens "https://app.test/index.html" "https://app.test/%23%3Fa%2E%25.mjs" "./%23%3Fa%2E%25.mjs"
  -- without its `./` this would be a URL of scheme `a`
  pub colon : Shortens "https://app.test/index.html" "https://app.test/a:b.mjs" "./a:b.mjs"
  pub like_a_url : Shortens "https://app.test/index.html" "https://app.test/https://x.test/a.mjs" "./https://x.test/a.mjs"
  -- without its `./` this would be a URL of the host `a.mjs`
  pub slashes : Shortens "https://app.test/index.html" "https://app.test///a.mjs" ".///a.mjs"
  pub inner_slashes : Shortens "https://app.test/index.html" "https://app.test/a//b.mjs" "./a//b.mjs"
  pub dot_name : Shortens "https://app.test/index.html" "https://app.test/.pnpm/a.mjs" "./.pnpm/a.mjs"
  pub three_dots : Shortens "https://app.test/index.html" "https://app.test/.../a.mjs" "./.../a.mjs"
  pub at_sign : Shortens "https://app.test/index.html" "https://app.test/@a/b.mjs" "./@a/b.mjs"

pub record OddBases : Type 0 where
  -- a `/` of the query ends no folder of the path
  pub query : StaysWhole "https://app.test/index.html?a/b" "https://app.test/index.html?a/c"
  pub opaque : StaysWhole "data:a" "data:ab"
  pub no_url : StaysWhole "app/index.html" "app/a.mjs"

abbrev pub only_imports : String → String → Lists
only_imports asked url = record { imports = to_url asked url ∷ []; scopes = []; integrity = [] }

-- the mapping of a file `m.mjs` under the web base `https://app.test/app/`
abbrev pub in_app : Lists
in_app =
    record {
      imports = [];
      scopes =
          scope "https://app.test/app/m.mjs" (to_url "https://app.test/app/x.mjs" "https://app.test/app/app/x.mjs" ∷ [])
          ∷ [];
      integrity = pair "https://app.test/app/m.mjs" "sha384-m" ∷ [];
    }

-- scopes of two hosts, which stand in the order of their URLs
abbrev pub two_hosts : Lists
two_hosts =
    record {
      imports = [];
      scopes =
          scope "https://app.test/x/" (to_url "c" "https://app.test/x/c.mjs" ∷ [])
          ∷ scope "https://a.test/x/" (to_url "c" "https://a.test/x/c.mjs" ∷ []) ∷ [];
      integrity = [];
    }

pub record PrintedShort : Type 0 where
  pub beside :
      map_text (codes "https://app.test/index.html") (map_of_lists (only_imports "ui" "https://app.test/node_modules/ui/b.js"))
      ≡ lines
      ("{"
      ∷ "  \"imports\": {"
      ∷ "    \"ui\": \"./node_modules/ui/b.js\""
      ∷ "  }"
      ∷ "}" ∷ [])
  -- a page in a folder of its own
  pub above :
      map_text (codes "https://app.test/docs/index.html") (map_of_lists (only_imports "ui" "https://app.test/node_modules/ui/b.js"))
      ≡ lines
      ("{"
      ∷ "  \"imports\": {"
      ∷ "    \"ui\": \"https://app.test/node_modules/ui/b.js\""
      ∷ "  }"
      ∷ "}" ∷ [])
  -- keys of mappings and of digests are whole, scope keys are short
  pub in_app :
      map_text (codes "https://app.test/app/index.html") (map_of_lists in_app)
      ≡ lines
      ("{"
      ∷ "  \"imports\": {},"
      ∷ "  \"scopes\": {"
      ∷ "    \"./m.mjs\": {"
      ∷ "      \"https://app.test/app/x.mjs\": \"./app/x.mjs\""
      ∷ "    }"
      ∷ "  },"
      ∷ "  \"integrity\": {"
      ∷ "    \"https://app.test/app/m.mjs\": \"sha384-m\""
      ∷ "  }"
      ∷ "}" ∷ [])
  pub two_hosts :
      map_text (codes "https://app.test/index.html") (map_of_lists two_hosts)
      ≡ lines
      ("{"
      ∷ "  \"imports\": {},"
      ∷ "  \"scopes\": {"
      ∷ "    \"https://a.test/x/\": {"
      ∷ "      \"c\": \"https://a.test/x/c.mjs\""
      ∷ "    },"
      ∷ "    \"./x/\": {"
      ∷ "      \"c\": \"./x/c.mjs\""
      ∷ "    }"
      ∷ "  }"
      ∷ "}" ∷ [])

abbrev pub ShortExamples : Type 0
ShortExamples = OfRootPage × OfFolderPage × OddNames × OddBases × PrintedShort
