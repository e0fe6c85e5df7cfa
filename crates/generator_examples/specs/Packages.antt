-- A site with two packages, one inside the other: conditions, a pattern, a main file, a self reference and `imports`.
--     packages                  the site
--     packages_all              the tables of its trace
--     packages_map              the text of its map, which begins with packages_imports
use Rattle.std.specs.Prelude.{ℕ, List, [], ◌∷◌, ◌++◌, codes}
use Rattle.layout_spec.specs.WorkedExamples.{need, lines}
use Rattle.trace_spec.specs.Checks.{Gathered}
use Rattle.node_spec.specs.NodeExamples.{Files, folder, file}
use Rattle.generator_examples.specs.Sites.{digest_line, map_end, module_at, spelled, source}

abbrev pub own_record : List ℕ
own_record =
    lines
    ("{"
    ∷ "  \"name\": \"me\","
    ∷ "  \"type\": \"module\","
    ∷ "  \"exports\": { \"./own.js\": \"./own.js\" },"
    ∷ "  \"imports\": { \"#ui\": { \"node\": \"./own.js\", \"default\": \"ui\" } }"
    ∷ "}"
    ∷ [])

abbrev pub package_app_text : List ℕ
package_app_text =
    lines
    ("import { h } from \"ui\";"
    ∷ "import menu from 'ui/x/menu'; // import \"ui/y\""
    ∷ "import \"me/own.js\";"
    ∷ "export * from \"#ui\";"
    ∷ [])

abbrev pub ui_record : List ℕ
ui_record =
    lines
    ("{"
    ∷ "  \"name\": \"ui\","
    ∷ "  \"type\": \"module\","
    ∷ "  \"exports\": {"
    ∷ "    \".\": { \"types\": \"./i.d.ts\", \"browser\": \"./b.js\", \"default\": \"./n.js\" },"
    ∷ "    \"./x/*\": \"./x/*.js\""
    ∷ "  }"
    ∷ "}"
    ∷ [])

abbrev pub b_text : List ℕ
b_text = lines ("export { h } from \"@ui/core\";" ∷ [])

abbrev pub menu_text : List ℕ
menu_text = lines ("import { h } from \"@ui/core\"; export default h;" ∷ [])

abbrev pub core_record : List ℕ
core_record = lines ("{ \"name\": \"@ui/core\", \"main\": \"lib/index.mjs\" }" ∷ [])

abbrev pub packages : Files
packages =
    folder "/"
    ∷ file "/package.json" own_record
    ∷ file "/app.js" package_app_text
    ∷ file "/own.js" (codes "export const own = 0;")
    ∷ folder "/node_modules"
    ∷ folder "/node_modules/ui"
    ∷ file "/node_modules/ui/package.json" ui_record
    ∷ file "/node_modules/ui/b.js" b_text
    ∷ file "/node_modules/ui/n.js" (codes "export const h = 0;")
    ∷ folder "/node_modules/ui/x"
    ∷ file "/node_modules/ui/x/menu.js" menu_text
    ∷ folder "/node_modules/ui/node_modules"
    ∷ folder "/node_modules/ui/node_modules/@ui"
    ∷ folder "/node_modules/ui/node_modules/@ui/core"
    ∷ file "/node_modules/ui/node_modules/@ui/core/package.json" core_record
    ∷ folder "/node_modules/ui/node_modules/@ui/core/lib"
    ∷ file "/node_modules/ui/node_modules/@ui/core/lib/index.mjs" (codes "export const h = 1;")
    ∷ []

abbrev pub packages_all : Gathered
packages_all = record {
  modules =
      module_at "/app.js"
      ∷ module_at "/node_modules/ui/b.js"
      ∷ module_at "/node_modules/ui/x/menu.js"
      ∷ module_at "/own.js"
      ∷ module_at "/node_modules/ui/node_modules/@ui/core/lib/index.mjs"
      ∷ [];
  sources =
      source package_app_text ("ui" ∷ "ui/x/menu" ∷ "me/own.js" ∷ "#ui" ∷ [])
      ∷ source b_text ("@ui/core" ∷ [])
      ∷ source menu_text ("@ui/core" ∷ [])
      ∷ source (codes "export const own = 0;") []
      ∷ source (codes "export const h = 1;") []
      ∷ [];
  needs =
      need "https://app.test/index.html" "https://app.test/app.js" "https://app.test/app.js"
      ∷ need "https://app.test/app.js" "ui" "https://app.test/node_modules/ui/b.js"
      ∷ need "https://app.test/app.js" "ui/x/menu" "https://app.test/node_modules/ui/x/menu.js"
      ∷ need "https://app.test/app.js" "me/own.js" "https://app.test/own.js"
      ∷ need "https://app.test/app.js" "#ui" "https://app.test/node_modules/ui/b.js"
      ∷ need "https://app.test/node_modules/ui/b.js" "@ui/core"
      "https://app.test/node_modules/ui/node_modules/@ui/core/lib/index.mjs"
      ∷ need "https://app.test/node_modules/ui/x/menu.js" "@ui/core"
      "https://app.test/node_modules/ui/node_modules/@ui/core/lib/index.mjs"
      ∷ [];
  spellings =
      spelled "/index.html" "./app.js" "/app.js"
      ∷ spelled "/app.js" "ui" "/node_modules/ui/b.js"
      ∷ spelled "/app.js" "ui/x/menu" "/node_modules/ui/x/menu.js"
      ∷ spelled "/app.js" "me/own.js" "/own.js"
      ∷ spelled "/app.js" "#ui" "/node_modules/ui/b.js"
      ∷ spelled "/node_modules/ui/b.js" "@ui/core" "/node_modules/ui/node_modules/@ui/core/lib/index.mjs"
      ∷ spelled "/node_modules/ui/x/menu.js" "@ui/core" "/node_modules/ui/node_modules/@ui/core/lib/index.mjs"
      ∷ [];
  targets =
      module_at "/app.js"
      ∷ module_at "/node_modules/ui/b.js"
      ∷ module_at "/node_modules/ui/x/menu.js"
      ∷ module_at "/own.js"
      ∷ module_at "/node_modules/ui/b.js"
      ∷ module_at "/node_modules/ui/node_modules/@ui/core/lib/index.mjs"
      ∷ module_at "/node_modules/ui/node_modules/@ui/core/lib/index.mjs"
      ∷ [];
}

abbrev pub packages_imports : List ℕ
packages_imports =
    lines
    ("{"
    ∷ "  \"imports\": {"
    ∷ "    \"#ui\": \"./node_modules/ui/b.js\","
    ∷ "    \"@ui/core\": \"./node_modules/ui/node_modules/@ui/core/lib/index.mjs\","
    ∷ "    \"me/own.js\": \"./own.js\","
    ∷ "    \"ui\": \"./node_modules/ui/b.js\","
    ∷ "    \"ui/x/menu\": \"./node_modules/ui/x/menu.js\""
    ∷ "  },"
    ∷ "  \"integrity\": {"
    ∷ [])

abbrev pub packages_map : List ℕ
packages_map =
    packages_imports
    ++ digest_line "    \"https://app.test/app.js\": " package_app_text ",\n"
    (digest_line "    \"https://app.test/node_modules/ui/b.js\": " b_text ",\n"
    (digest_line "    \"https://app.test/node_modules/ui/node_modules/@ui/core/lib/index.mjs\": "
    (codes "export const h = 1;") ",\n"
    (digest_line "    \"https://app.test/node_modules/ui/x/menu.js\": " menu_text ",\n"
    (digest_line "    \"https://app.test/own.js\": " (codes "export const own = 0;") "\n" map_end))))
