-- Worked examples. The base is `https://app.test/`.
--     PlaceExamples      places of referrers
--     CountExamples, ClashExamples      needs counted once, needs that clash
--     ServingExamples      maps that serve needs, and maps that capture them
--     TextExamples      maps and their texts
--     lines written      a text of these lines
use Rattle.std.specs.Prelude.{codes, ◌≡◌, ◌++◌, ℕ, List, [], ◌∷◌, map}
use Rattle.import_map_spec.specs.WorkedExamples.{pair, to_url, to_null, scope}
use Rattle.import_map_spec.specs.WrittenMaps.{Lists, map_of_lists}
use Rattle.layout_spec.specs.Needs.{counted, NoClash}
use Rattle.layout_spec.specs.Places.{places}
use Rattle.layout_spec.specs.PrintedMap.{map_text}
use Rattle.layout_spec.specs.Serving.{NoCapture, OfNeeds}
use Rattle.layout_spec.specs.declared.Need.{Need}
use Prim.Native.String.{String}

abbrev pub need : String → String → String → Need
need referrer asked target = record { referrer = codes referrer; asked = codes asked; target = codes target }

-- the modules of a page and the file `pages/[id].mjs`, whose brackets its web name escapes
abbrev pub page_app : Need
page_app = need "https://app.test/index.html" "https://app.test/app.mjs" "https://app.test/app.mjs"

abbrev pub app_home : Need
app_home = need "https://app.test/app.mjs" "https://app.test/pages/home.mjs" "https://app.test/pages/home.mjs"

abbrev pub app_id : Need
app_id = need "https://app.test/app.mjs" "https://app.test/pages/[id].mjs" "https://app.test/pages/%5Bid%5D.mjs"

abbrev pub home_id : Need
home_id = need "https://app.test/pages/home.mjs" "https://app.test/pages/[id].mjs" "https://app.test/pages/%5Bid%5D.mjs"

-- one file under two spellings: `%62` is `b`
abbrev pub app_ab : Need
app_ab = need "https://app.test/app.mjs" "https://app.test/a%62.mjs" "https://app.test/ab.mjs"

-- under the base `https://app.test/app/` both `../app/x.mjs` and `./x.mjs` have the URL `https://app.test/app/x.mjs` in
-- the file `/m.mjs`, whose web name is `https://app.test/app/m.mjs`; the files are `/app/x.mjs` and `/x.mjs`
abbrev pub below_app : Need
below_app = need "https://app.test/app/m.mjs" "https://app.test/app/x.mjs" "https://app.test/app/app/x.mjs"

abbrev pub beside : Need
beside = need "https://app.test/app/m.mjs" "https://app.test/app/x.mjs" "https://app.test/app/x.mjs"

-- a need of another file in that folder, which wants no mapping
abbrev pub neighbor : Need
neighbor = need "https://app.test/app/n.mjs" "https://app.test/app/x.mjs" "https://app.test/app/x.mjs"

abbrev pub HasPlaces : String → List String → Type 0
HasPlaces referrer wanted = places (codes referrer) ≡ map codes wanted

pub record PlaceExamples : Type 0 where
  pub page : HasPlaces "https://app.test/index.html" ("https://app.test/index.html" ∷ "https://app.test/" ∷ "" ∷ [])
  -- `https://` ends in `/` and is no URL
  pub at_root : HasPlaces "https://app.test/" ("https://app.test/" ∷ "" ∷ [])
  pub deep :
      HasPlaces "https://app.test/a/b/m.mjs"
      ("https://app.test/a/b/m.mjs" ∷ "https://app.test/a/b/" ∷ "https://app.test/a/" ∷ "https://app.test/" ∷ "" ∷ [])
  -- a query has places too, but the text before it is none
  pub in_query :
      HasPlaces "https://app.test/m.mjs?x/y"
      ("https://app.test/m.mjs?x/y" ∷ "https://app.test/m.mjs?x/" ∷ "https://app.test/" ∷ "" ∷ [])
  -- the text of a URL doesn't have the port that its scheme has anyway
  pub no_own_text : HasPlaces "https://app.test:443/m.mjs" ("https://app.test:443/m.mjs" ∷ "" ∷ [])
  pub of_file : HasPlaces "file:///a/m.mjs" ("file:///a/m.mjs" ∷ "file:///a/" ∷ "file:///" ∷ "" ∷ [])
  pub of_none : HasPlaces "" ("" ∷ [])

-- a text of these lines, each with its end
abbrev pub lines : List String → List ℕ
lines [] = []
lines (line ∷ more) = codes line ++ (10 ∷ lines more)

-- the map base of the examples
abbrev pub the_base : List ℕ
the_base = codes "https://app.test/index.html"

pub record CountExamples : Type 0 where
  pub once : counted (app_id ∷ home_id ∷ app_id ∷ app_ab ∷ home_id ∷ []) ≡ app_id ∷ home_id ∷ app_ab ∷ []
  pub clashing : counted (below_app ∷ beside ∷ below_app ∷ []) ≡ below_app ∷ beside ∷ []

pub record ClashExamples : Type 0 where
  pub two_targets : NoClash (below_app ∷ beside ∷ []) → ⊥
  -- a module may be asked for by two referrers, and by one under two spellings
  pub none : NoClash (page_app ∷ app_home ∷ app_id ∷ home_id ∷ app_ab ∷ [])

-- a map in whose imports or scope of `https://app.test/app/` the specifier has these addresses
abbrev pub with_addresses : List String → List String → Lists
with_addresses on_top in_folder =
    record {
      imports = map (to_url "https://app.test/app/x.mjs") on_top;
      scopes = scope "https://app.test/app/" (map (to_url "https://app.test/app/x.mjs") in_folder) ∷ [];
      integrity = [];
    }

abbrev pub Captures : List Need → Lists → Type 0
Captures needs lists = NoCapture needs (map_of_lists lists) → ⊥

abbrev pub CapturesNone : List Need → Lists → Type 0
CapturesNone needs lists = NoCapture needs (map_of_lists lists)

abbrev pub x_below : String
x_below = "https://app.test/app/app/x.mjs"

abbrev pub x_itself : String
x_itself = "https://app.test/app/x.mjs"

pub record ServingExamples : Type 0 where
  -- a mapping serves a need from any place of the referrer
  pub in_folder : CapturesNone (below_app ∷ []) (with_addresses [] (x_below ∷ []))
  pub on_top : CapturesNone (below_app ∷ []) (with_addresses (x_below ∷ []) [])
  -- the longest place decides
  pub longest : CapturesNone (below_app ∷ []) (with_addresses (x_itself ∷ []) (x_below ∷ []))
  pub not_longest : Captures (below_app ∷ []) (with_addresses (x_below ∷ []) (x_itself ∷ []))
  -- a need that wants no mapping is captured by one that stands above it
  pub free : CapturesNone (neighbor ∷ []) (with_addresses [] [])
  pub free_captured : Captures (below_app ∷ neighbor ∷ []) (with_addresses [] (x_below ∷ []))
  -- a mapping that is no need's
  pub no_need : OfNeeds (neighbor ∷ []) (map_of_lists (with_addresses [] (x_below ∷ []))) → ⊥

abbrev pub nothing_mapped : Lists
nothing_mapped = record { imports = []; scopes = []; integrity = [] }

abbrev pub only_integrity : Lists
only_integrity = record { imports = []; scopes = []; integrity = pair "https://app.test/app.mjs" "sha384-x" ∷ [] }

abbrev pub several : Lists
several =
    record {
      imports = to_url "b" "https://app.test/b" ∷ to_null "a" ∷ [];
      scopes = scope "https://app.test/x/" (to_url "#<" "https://app.test/y" ∷ []) ∷ [];
      integrity = [];
    }

abbrev pub two_scopes : Lists
two_scopes =
    record {
      imports = [];
      scopes =
          scope "https://app.test/b/" (to_url "c" "https://app.test/b/c.mjs" ∷ [])
          ∷ scope "https://app.test/a/" (to_url "c" "https://app.test/a/c.mjs" ∷ []) ∷ [];
      integrity = [];
    }

pub record TextExamples : Type 0 where
  pub empty :
      map_text the_base (map_of_lists nothing_mapped)
      ≡ lines
      ("{"
      ∷ "  \"imports\": {}"
      ∷ "}" ∷ [])
  -- scopes stand in the order of their keys
  pub scoped :
      map_text the_base (map_of_lists two_scopes)
      ≡ lines
      ("{"
      ∷ "  \"imports\": {},"
      ∷ "  \"scopes\": {"
      ∷ "    \"./a/\": {"
      ∷ "      \"c\": \"./a/c.mjs\""
      ∷ "    },"
      ∷ "    \"./b/\": {"
      ∷ "      \"c\": \"./b/c.mjs\""
      ∷ "    }"
      ∷ "  }"
      ∷ "}" ∷ [])
  pub no_scopes :
      map_text the_base (map_of_lists only_integrity)
      ≡ lines
      ("{"
      ∷ "  \"imports\": {},"
      ∷ "  \"integrity\": {"
      ∷ "    \"https://app.test/app.mjs\": \"sha384-x\""
      ∷ "  }"
      ∷ "}" ∷ [])
  pub sorted :
      map_text the_base (map_of_lists several)
      ≡ lines
      ("{"
      ∷ "  \"imports\": {"
      ∷ "    \"a\": null,"
      ∷ "    \"b\": \"./b\""
      ∷ "  },"
      ∷ "  \"scopes\": {"
      ∷ "    \"./x/\": {"
      ∷ "      \"#\\u003c\": \"./y\""
      ∷ "    }"
      ∷ "  }"
      ∷ "}" ∷ [])

abbrev pub WorkedExamples : Type 0
WorkedExamples =
    PlaceExamples × CountExamples × ClashExamples × ServingExamples × TextExamples
