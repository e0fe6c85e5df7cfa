-- Small sites that are written out, with what must come of them, typed by hand.
--     tree_of files             the tree of these files
--     digest_line front bytes back rest      a line with the digest of these bytes between two texts, and the rest
--     based base asked          the config with this base and these entries, and the page `/index.html`
--     links base asked, injects, refreshes      the words of a command, of `link` with this base and these entries
--     project entries           the project's file of `https://app.test/` with these lines of entries
--     module_at path            the module of a file
--     spelled referrer specifier path      a need's spelling by what is shown so, which leads to the module of a file
--     source bytes asked        the source with these bytes, which asks for these specifiers
--     levels, spelling, site, kept, paged, missing, kept_missing, clashing      the sites
--     levels_all, spelling_all, site_all      the tables of their traces
--     spelling_map, site_map    the texts of their maps, which begin with spelling_imports, site_imports
--     paged_after               the files of a site whose page has its map
use Rattle.std.specs.Prelude.{ℕ, List, [], ◌∷◌, ◌++◌, codes}
use Prim.Native.String.{String}
use Rattle.tree_spec.specs.Trees.{Tree}
use Rattle.json_spec.specs.PrintedString.{quoted}
use Rattle.import_map_spec.specs.WrittenMaps.{map_of}
use Rattle.integrity_spec.specs.DigestTexts.{digest_text}
use Rattle.node_spec.specs.BuiltinNames.{texts}
use Rattle.node_spec.specs.NodeExamples.{Files, file, folder}
use Rattle.layout_spec.specs.WorkedExamples.{need, lines}
use Rattle.trace_spec.specs.Modules.{Config, Module}
use Rattle.trace_spec.specs.Questions.{Source}
use Rattle.trace_spec.specs.Checks.{Gathered, Spelling}
use Rattle.config_spec.specs.Projects.{link_conditions}

abbrev pub tree_of : Files → Tree
tree_of files = map_of files

-- a line of a map's integrity, with the digest of a file's bytes, and what follows it; and what stands behind the last
abbrev pub digest_line : String → List ℕ → String → List ℕ → List ℕ
digest_line front bytes back rest = codes front ++ (quoted (digest_text bytes) ++ (codes back ++ rest))

abbrev pub map_end : List ℕ
map_end = lines ("  }" ∷ "}" ∷ [])

abbrev pub based : String → List String → Config
based base asked = record {
  base = codes base;
  page = codes "/index.html";
  conditions = link_conditions;
  entries = texts asked;
}

abbrev pub links : String → List String → List (List ℕ)
links base asked = texts ("link" ∷ "--base" ∷ base ∷ asked)

abbrev pub injects : List (List ℕ)
injects = texts ("inject" ∷ [])

abbrev pub refreshes : List (List ℕ)
refreshes = texts ("refresh" ∷ [])

-- what `link` writes where there is no project
abbrev pub project : List String → List ℕ
project entries =
    lines
    ("{"
    ∷ "  \"base\": \"https://app.test/\","
    ∷ "  \"page\": \"/index.html\","
    ∷ "  \"conditions\": ["
    ∷ "    \"browser\","
    ∷ "    \"import\""
    ∷ "  ],"
    ∷ "  \"entries\": ["
    ∷ [])
    ++ (lines entries ++ lines ("  ]" ∷ "}" ∷ []))

abbrev pub app_project : List ℕ
app_project = project ("    \"./app.mjs\"" ∷ [])

abbrev pub two_project : List ℕ
two_project = project ("    \"./a.mjs\"," ∷ "    \"./b.mjs\"" ∷ [])

abbrev pub module_at : String → Module
module_at path = record { path = codes path; suffix = [] }

abbrev pub spelled : String → String → String → Spelling
spelled referrer specifier path =
    record { referrer = codes referrer; specifier = codes specifier; target = module_at path }

abbrev pub source : List ℕ → List String → Source
source bytes asked = record { bytes = bytes; specifiers = texts asked }

-- ---- a module of the second level is asked for again by one before it, behind a module of the third

abbrev pub app_text : List ℕ
app_text = codes "import \"./a.mjs\";import \"./b.mjs\";"

abbrev pub a_text : List ℕ
a_text = codes "import \"./c.mjs\";import \"./b.mjs\";"

abbrev pub levels : Files
levels = folder "/" ∷ file "/app.mjs" app_text ∷ file "/a.mjs" a_text ∷ file "/b.mjs" [] ∷ file "/c.mjs" [] ∷ []

abbrev pub levels_all : Gathered
levels_all = record {
  modules = module_at "/app.mjs" ∷ module_at "/a.mjs" ∷ module_at "/b.mjs" ∷ module_at "/c.mjs" ∷ [];
  sources =
      source app_text ("./a.mjs" ∷ "./b.mjs" ∷ [])
      ∷ source a_text ("./c.mjs" ∷ "./b.mjs" ∷ [])
      ∷ source [] []
      ∷ source [] []
      ∷ [];
  needs =
      need "https://app.test/index.html" "https://app.test/app.mjs" "https://app.test/app.mjs"
      ∷ need "https://app.test/app.mjs" "https://app.test/a.mjs" "https://app.test/a.mjs"
      ∷ need "https://app.test/app.mjs" "https://app.test/b.mjs" "https://app.test/b.mjs"
      ∷ need "https://app.test/a.mjs" "https://app.test/c.mjs" "https://app.test/c.mjs"
      ∷ need "https://app.test/a.mjs" "https://app.test/b.mjs" "https://app.test/b.mjs"
      ∷ [];
  spellings =
      spelled "/index.html" "./app.mjs" "/app.mjs"
      ∷ spelled "/app.mjs" "./a.mjs" "/a.mjs"
      ∷ spelled "/app.mjs" "./b.mjs" "/b.mjs"
      ∷ spelled "/a.mjs" "./c.mjs" "/c.mjs"
      ∷ spelled "/a.mjs" "./b.mjs" "/b.mjs"
      ∷ [];
  targets =
      module_at "/app.mjs"
      ∷ module_at "/a.mjs"
      ∷ module_at "/b.mjs"
      ∷ module_at "/c.mjs"
      ∷ module_at "/b.mjs"
      ∷ [];
}

-- ---- one file under two spellings: `%62` is `b`

abbrev pub spelled_text : List ℕ
spelled_text = codes "import \"./a%62.mjs\";"

abbrev pub spelling : Files
spelling = folder "/" ∷ file "/app.mjs" spelled_text ∷ file "/ab.mjs" [] ∷ []

abbrev pub spelling_all : Gathered
spelling_all = record {
  modules = module_at "/app.mjs" ∷ module_at "/ab.mjs" ∷ [];
  sources = source spelled_text ("./a%62.mjs" ∷ []) ∷ source [] [] ∷ [];
  needs =
      need "https://app.test/index.html" "https://app.test/app.mjs" "https://app.test/app.mjs"
      ∷ need "https://app.test/app.mjs" "https://app.test/a%62.mjs" "https://app.test/ab.mjs"
      ∷ [];
  spellings =
      spelled "/index.html" "./app.mjs" "/app.mjs" ∷ spelled "/app.mjs" "./a%62.mjs" "/ab.mjs" ∷ [];
  targets = module_at "/app.mjs" ∷ module_at "/ab.mjs" ∷ [];
}

abbrev pub spelling_imports : List ℕ
spelling_imports =
    lines
    ("{"
    ∷ "  \"imports\": {"
    ∷ "    \"https://app.test/a%62.mjs\": \"./ab.mjs\""
    ∷ "  },"
    ∷ "  \"integrity\": {"
    ∷ [])

abbrev pub spelling_map : List ℕ
spelling_map =
    spelling_imports
    ++ digest_line "    \"https://app.test/ab.mjs\": " [] ",\n"
    (digest_line "    \"https://app.test/app.mjs\": " spelled_text "\n" map_end)

-- ---- the same with its project, and with a page, without its map and with it

abbrev pub kept : Files
kept = spelling ++ file "/importmap.project.json" app_project ∷ []

abbrev pub paged_with : List ℕ → Files
paged_with page = kept ++ file "/index.html" page ∷ []

abbrev pub paged : Files
paged = paged_with (lines ("<head></head>" ∷ []))

abbrev pub paged_after : Files
paged_after =
    paged_with
    (codes "<head><script type=\"importmap\">" ++ (spelling_map ++ lines ("</script>" ∷ "</head>" ∷ [])))

-- ---- the site of the repository's examples: a URL escapes the name of a file

abbrev pub page_text : List ℕ
page_text =
    lines
    ("<!doctype html>"
    ∷ "<html lang=\"en\">"
    ∷ "<head>"
    ∷ "<meta charset=\"utf-8\">"
    ∷ "<title>A page of modules</title>"
    ∷ "</head>"
    ∷ "<body>"
    ∷ "<p>This page loads its modules as they lie on disk.</p>"
    ∷ "<script type=\"module\">import \"./app.mjs\";</script>"
    ∷ "</body>"
    ∷ "</html>"
    ∷ [])

abbrev pub site_app_text : List ℕ
site_app_text =
    lines
    ("import \"./lib/greet.mjs\";" ∷ "import \"./pages/home.mjs\";" ∷ "import \"./pages/[id].mjs\";" ∷ [])

abbrev pub greet_text : List ℕ
greet_text = lines ("import \"./words.mjs\";" ∷ [])

abbrev pub id_text : List ℕ
id_text = lines ("import \"../lib/greet.mjs\";" ∷ [])

abbrev pub home_text : List ℕ
home_text = lines ("import \"../lib/greet.mjs\";" ∷ "import \"./[id].mjs\";" ∷ [])

abbrev pub site : Files
site =
    folder "/"
    ∷ file "/index.html" page_text
    ∷ file "/app.mjs" site_app_text
    ∷ folder "/lib"
    ∷ file "/lib/greet.mjs" greet_text
    ∷ file "/lib/words.mjs" []
    ∷ folder "/pages"
    ∷ file "/pages/[id].mjs" id_text
    ∷ file "/pages/home.mjs" home_text
    ∷ []

abbrev pub site_all : Gathered
site_all = record {
  modules =
      module_at "/app.mjs"
      ∷ module_at "/lib/greet.mjs"
      ∷ module_at "/pages/home.mjs"
      ∷ module_at "/pages/[id].mjs"
      ∷ module_at "/lib/words.mjs"
      ∷ [];
  sources =
      source site_app_text ("./lib/greet.mjs" ∷ "./pages/home.mjs" ∷ "./pages/[id].mjs" ∷ [])
      ∷ source greet_text ("./words.mjs" ∷ [])
      ∷ source home_text ("../lib/greet.mjs" ∷ "./[id].mjs" ∷ [])
      ∷ source id_text ("../lib/greet.mjs" ∷ [])
      ∷ source [] []
      ∷ [];
  needs =
      need "https://app.test/index.html" "https://app.test/app.mjs" "https://app.test/app.mjs"
      ∷ need "https://app.test/app.mjs" "https://app.test/lib/greet.mjs" "https://app.test/lib/greet.mjs"
      ∷ need "https://app.test/app.mjs" "https://app.test/pages/home.mjs" "https://app.test/pages/home.mjs"
      ∷ need "https://app.test/app.mjs" "https://app.test/pages/[id].mjs" "https://app.test/pages/%5Bid%5D.mjs"
      ∷ need "https://app.test/lib/greet.mjs" "https://app.test/lib/words.mjs" "https://app.test/lib/words.mjs"
      ∷ need "https://app.test/pages/home.mjs" "https://app.test/lib/greet.mjs" "https://app.test/lib/greet.mjs"
      ∷ need "https://app.test/pages/home.mjs" "https://app.test/pages/[id].mjs" "https://app.test/pages/%5Bid%5D.mjs"
      ∷ need "https://app.test/pages/%5Bid%5D.mjs" "https://app.test/lib/greet.mjs" "https://app.test/lib/greet.mjs"
      ∷ [];
  spellings =
      spelled "/index.html" "./app.mjs" "/app.mjs"
      ∷ spelled "/app.mjs" "./lib/greet.mjs" "/lib/greet.mjs"
      ∷ spelled "/app.mjs" "./pages/home.mjs" "/pages/home.mjs"
      ∷ spelled "/app.mjs" "./pages/[id].mjs" "/pages/[id].mjs"
      ∷ spelled "/lib/greet.mjs" "./words.mjs" "/lib/words.mjs"
      ∷ spelled "/pages/home.mjs" "../lib/greet.mjs" "/lib/greet.mjs"
      ∷ spelled "/pages/home.mjs" "./[id].mjs" "/pages/[id].mjs"
      ∷ spelled "/pages/[id].mjs" "../lib/greet.mjs" "/lib/greet.mjs"
      ∷ [];
  targets =
      module_at "/app.mjs"
      ∷ module_at "/lib/greet.mjs"
      ∷ module_at "/pages/home.mjs"
      ∷ module_at "/pages/[id].mjs"
      ∷ module_at "/lib/words.mjs"
      ∷ module_at "/lib/greet.mjs"
      ∷ module_at "/pages/[id].mjs"
      ∷ module_at "/lib/greet.mjs"
      ∷ [];
}

abbrev pub site_imports : List ℕ
site_imports =
    lines
    ("{"
    ∷ "  \"imports\": {"
    ∷ "    \"https://app.test/pages/[id].mjs\": \"./pages/%5Bid%5D.mjs\""
    ∷ "  },"
    ∷ "  \"integrity\": {"
    ∷ [])

abbrev pub site_map : List ℕ
site_map =
    site_imports
    ++ digest_line "    \"https://app.test/app.mjs\": " site_app_text ",\n"
    (digest_line "    \"https://app.test/lib/greet.mjs\": " greet_text ",\n"
    (digest_line "    \"https://app.test/lib/words.mjs\": " [] ",\n"
    (digest_line "    \"https://app.test/pages/%5Bid%5D.mjs\": " id_text ",\n"
    (digest_line "    \"https://app.test/pages/home.mjs\": " home_text "\n" map_end))))

-- ---- what is refused

-- the second entry asks for a file that isn't there. The first asks for a text that can't be read, but the visit of
-- that one would come behind the second entry's
abbrev pub missing : Files
missing =
    folder "/"
    ∷ file "/a.mjs" (codes "import \"./c.mjs\";")
    ∷ file "/b.mjs" (codes "import \"./q.mjs\";")
    ∷ file "/c.mjs" (codes "import x")
    ∷ []

-- the same with a project of both entries
abbrev pub kept_missing : Files
kept_missing = missing ++ file "/importmap.project.json" two_project ∷ []

-- under the base `https://app.test/app/` both specifiers have the URL `https://app.test/app/x.mjs`, and Node leads them
-- to two files
abbrev pub clashing : Files
clashing =
    folder "/"
    ∷ file "/m.mjs" (codes "import \"../app/x.mjs\";import \"./x.mjs\";")
    ∷ file "/x.mjs" []
    ∷ folder "/app"
    ∷ file "/app/x.mjs" []
    ∷ []
