-- What the traces of small trees say, typed by hand from the rules. The base is `https://app.test/`.
--     says found                what is said of a trace: how much it has, or its first refusal
--     Case, one_case files entries line      files, entries, and what the trace of them says
--     Holds c, AllHold cases     it says so
--     asks specifier            the text of one statement
--     with_p json files         these files, and a package `p` with this package.json
--     of_app text files line, asked specifier files line      a case of `/app.mjs` with this text; of one request of it
--     request_cases, module_cases, order_cases, text_cases, suffix_cases, package_cases
--                               the cases
--     TracedExamples            all of them, and a specifier that is too long
use Rattle.std.specs.Prelude.{◌≡◌, ⊤, ℕ, List, [], ◌∷◌, ◌++◌, codes, length, replicate, Result, Ok, Err}
use Prim.Native.String.{String}
use Rattle.std.specs.FinMap.{get}
use Rattle.std.specs.Fmt.{decimal}
use Rattle.trace_spec.specs.declared.TraceFault.{TraceFault}
use Rattle.trace_spec.specs.Modules.{Config}
use Rattle.trace_spec.specs.Checks.{Gathered}
use Rattle.trace_spec.specs.Traces.{traced}
use Rattle.generator_spec.specs.Lines.{trace_line}
use Rattle.config_spec.specs.Projects.{page_path, link_conditions}
use Rattle.node_spec.specs.NodeExamples.{Files, folder, file}
use Rattle.generator_examples.specs.Sites.{tree_of, based}

abbrev pub says : Result Gathered TraceFault → List ℕ
says (Ok all) = decimal (length all.modules) ++ (codes " modules, " ++ (decimal (length all.targets) ++ codes " requests\n"))
says (Err fault) = trace_line fault

-- own: files, entries and a line
pub record Case : Type 0 where
  pub files : Files
  pub entries : List String
  pub line : String

abbrev pub one_case : Files → List String → String → Case
one_case files entries line = record { files = files; entries = entries; line = line }

abbrev pub Holds : Case → Type 0
Holds c = says (traced (get (tree_of c.files)) (based "https://app.test/" c.entries)) ≡ codes c.line

abbrev pub AllHold : List Case → Type 0
AllHold [] = ⊤
AllHold (c ∷ more) = Holds c × AllHold more

abbrev pub asks : String → List ℕ
asks specifier = codes "import \"" ++ (codes specifier ++ codes "\";")

abbrev pub with_p : String → Files → Files
with_p json files = folder "/node_modules/p" ∷ file "/node_modules/p/package.json" (codes json) ∷ files

-- an entry `/app.mjs` with this text
abbrev pub of_app : List ℕ → Files → String → Case
of_app text files line = one_case (file "/app.mjs" text ∷ files) ("./app.mjs" ∷ []) line

-- one request of it
abbrev pub asked : String → Files → String → Case
asked specifier files line = of_app (asks specifier) files line

abbrev pub request_cases : List Case
request_cases =
    asked "fs" [] "refused: Builtin from \"/app.mjs\" for \"fs\"\n"
    ∷ asked "node:fs" [] "refused: Builtin from \"/app.mjs\" for \"node:fs\"\n"
    ∷ asked "https://cdn.test/x.js" [] "refused: ExternalUrl from \"/app.mjs\" for \"https://cdn.test/x.js\"\n"
    ∷ asked "data:text/css,a" [] "refused: ExternalUrl from \"/app.mjs\" for \"data:text/css,a\"\n"
    ∷ asked "@x" [] "refused: InvalidSpecifier from \"/app.mjs\" for \"@x\"\n"
    ∷ asked "a%b" [] "refused: InvalidSpecifier from \"/app.mjs\" for \"a%b\"\n"
    ∷ asked ".x" [] "refused: InvalidSpecifier from \"/app.mjs\" for \".x\"\n"
    ∷ asked "ui/" [] "refused: InvalidSpecifier from \"/app.mjs\" for \"ui/\"\n"
    ∷ asked "" [] "refused: InvalidSpecifier from \"/app.mjs\" for \"\"\n"
    ∷ asked "//[" [] "refused: Unaskable from \"/app.mjs\" for \"//[\"\n"
    -- the slash of a relative specifier is refused before anything is looked at
    ∷ asked "./d/" (folder "/d" ∷ []) "refused: TrailingSlash from \"/app.mjs\" for \"./d/\"\n"
    ∷ asked "./m.mjs?a/" [] "refused: TrailingSlash from \"/app.mjs\" for \"./m.mjs?a/\"\n"
    -- and that of a target once Node has answered
    ∷ asked "p" (with_p "{\"main\":\"m.mjs?a/\"}" (file "/node_modules/p/m.mjs" [] ∷ []))
    "refused: TrailingSlash from \"/app.mjs\" for \"p\"\n"
    ∷ asked "./d" (folder "/d" ∷ []) "refused: DirectoryImport from \"/app.mjs\" for \"./d\"\n"
    ∷ asked "./q.mjs" [] "refused: NotFound from \"/app.mjs\" for \"./q.mjs\"\n"
    ∷ asked "gone" [] "refused: NotFound from \"/app.mjs\" for \"gone\"\n"
    ∷ asked "#q" [] "refused: ImportNotDefined from \"/app.mjs\" for \"#q\"\n"
    ∷ asked "p" (with_p "{\"exports\":\"../x\"}" []) "refused: InvalidTarget from \"/app.mjs\" for \"p\"\n"
    ∷ asked "p" (with_p "{\"name\":" []) "refused: InvalidConfig from \"/app.mjs\" for \"p\"\n"
    ∷ asked "p" (with_p "{\"exports\":{\".\":\"./i.mjs\",\"x\":\"./i.mjs\"}}" [])
    "refused: InvalidConfig from \"/app.mjs\" for \"p\"\n"
    ∷ asked "p/priv/x" (with_p "{\"exports\":{\"./*\":\"./*.mjs\",\"./priv/*\":null}}" [])
    "refused: NotExported from \"/app.mjs\" for \"p/priv/x\"\n"
    ∷ asked "p" (folder "/node_modules/p" ∷ file "/node_modules/p/package.json" (replicate 129 91) ∷ [])
    "limit: depth above 128\n"
    ∷ []

-- ---- modules

abbrev pub module_cases : List Case
module_cases =
    one_case (file "/x.js" (codes "module.exports = 1;") ∷ []) ("./x.js" ∷ [])
    "refused: NotModule \"/x.js\" CommonJs\n"
    ∷ one_case (file "/x.js" (codes "export{};") ∷ []) ("./x.js" ∷ []) "1 modules, 1 requests\n"
    ∷ one_case (file "/package.json" (codes "{\"type\":\"module\"}") ∷ file "/x.js" (codes "let x = 1;") ∷ [])
    ("./x.js" ∷ [])
    "1 modules, 1 requests\n"
    ∷ one_case (file "/package.json" (codes "{\"type\":\"commonjs\"}") ∷ file "/x.js" (codes "export{};") ∷ [])
    ("./x.js" ∷ [])
    "refused: NotModule \"/x.js\" CommonJs\n"
    ∷ one_case (file "/package.json" (codes "[]") ∷ file "/x.js" (codes "export{};") ∷ []) ("./x.js" ∷ [])
    "refused: NotModule \"/x.js\" Config\n"
    ∷ one_case (file "/x.cjs" [] ∷ []) ("./x.cjs" ∷ []) "refused: NotModule \"/x.cjs\" CommonJs\n"
    ∷ one_case (file "/x.json" [] ∷ []) ("./x.json" ∷ []) "refused: NotModule \"/x.json\" Json\n"
    ∷ one_case (file "/x.node" [] ∷ []) ("./x.node" ∷ []) "refused: NotModule \"/x.node\" Addon\n"
    ∷ one_case (file "/x" [] ∷ []) ("./x" ∷ []) "refused: NotModule \"/x\" Other\n"
    ∷ one_case (file "/x.css" [] ∷ []) ("./x.css?a" ∷ []) "refused: NotModule \"/x.css?a\" Other\n"
    ∷ of_app (codes "import \"./b.mjs") [] "refused: NotModule \"/app.mjs\" Unreadable at 7\n"
    ∷ one_case (file "/x.js" (codes "export x") ∷ []) ("./x.js" ∷ [])
    "refused: NotModule \"/x.js\" Unreadable at 0\n"
    ∷ of_app (codes "import" ++ 255 ∷ []) [] "refused: NotModule \"/app.mjs\" Unreadable at 6\n"
    ∷ []

-- ---- the order of what is refused

abbrev pub order_cases : List Case
order_cases =
    -- the second entry before the text of the first one's module
    one_case (file "/a.cjs" [] ∷ []) ("./a.cjs" ∷ "./q.mjs" ∷ [])
    "refused: NotFound from \"/index.html\" for \"./q.mjs\"\n"
    -- the first request of a module
    ∷ of_app (codes "import \"gone\"; import \"fs\";") [] "refused: NotFound from \"/app.mjs\" for \"gone\"\n"
    -- its text before its requests
    ∷ of_app (codes "import \"gone\"; import x") [] "refused: NotModule \"/app.mjs\" Unreadable at 15\n"
    -- its format before its text
    ∷ one_case (file "/x.cjs" (codes "import x") ∷ []) ("./x.cjs" ∷ []) "refused: NotModule \"/x.cjs\" CommonJs\n"
    -- a module of the first level before one of the second
    ∷ one_case
    (file "/a.mjs" (asks "./c.mjs") ∷ file "/b.mjs" (codes "import x") ∷ file "/c.mjs" (codes "import x") ∷ [])
    ("./a.mjs" ∷ "./b.mjs" ∷ [])
    "refused: NotModule \"/b.mjs\" Unreadable at 0\n"
    -- what can't be asked for before Node is asked
    ∷ asked "./gone/" [] "refused: TrailingSlash from \"/app.mjs\" for \"./gone/\"\n"
    ∷ []

-- ---- what is reached

abbrev pub text_cases : List Case
text_cases =
    one_case [] [] "0 modules, 0 requests\n"
    ∷ of_app (codes "export {a as b} from './b.mjs' with {type: \"x\"}") (file "/b.mjs" [] ∷ [])
    "2 modules, 2 requests\n"
    ∷ of_app (asks "./b.mjs") (file "/b.mjs" (asks "./app.mjs") ∷ []) "2 modules, 3 requests\n"
    -- the page's own path is a module where it is asked for, and isn't taken for the page
    ∷ one_case (file "/index.html" [] ∷ []) ("./index.html" ∷ []) "refused: NotModule \"/index.html\" Other\n"
    ∷ []

-- two suffixes of one path are two modules, and one of them that is asked for again is one
abbrev pub suffix_cases : List Case
suffix_cases =
    of_app (codes "import './m.mjs?a'; import './m.mjs?b'; import './m.mjs?a';") (file "/m.mjs" [] ∷ [])
    "3 modules, 4 requests\n"
    ∷ []

-- the package `p` with one module, at a path
abbrev pub p_beside : Files → Files
p_beside files = with_p "{\"exports\":\"./i.mjs\"}" (file "/node_modules/p/i.mjs" [] ∷ files)

abbrev pub package_cases : List Case
package_cases =
    one_case (p_beside (file "/a/m.mjs" (asks "p") ∷ file "/b/m.mjs" (asks "p") ∷ []))
    ("./a/m.mjs" ∷ "./b/m.mjs" ∷ []) "3 modules, 4 requests\n"
    ∷ one_case
    (p_beside
    (folder "/a/node_modules/p" ∷ file "/a/node_modules/p/index.js" (codes "export{};")
    ∷ file "/a/m.mjs" (asks "p") ∷ file "/b/m.mjs" (asks "p") ∷ []))
    ("./a/m.mjs" ∷ "./b/m.mjs" ∷ []) "4 modules, 4 requests\n"
    -- the nearer folder decides, also where it has nothing
    ∷ one_case (p_beside (folder "/lib/node_modules/p" ∷ file "/lib/m.mjs" (asks "p") ∷ []))
    ("./lib/m.mjs" ∷ []) "refused: NotFound from \"/lib/m.mjs\" for \"p\"\n"
    -- a list in `imports` passes over an invalid target
    ∷ of_app (asks "#d")
    (file "/package.json" (codes "{\"imports\":{\"#d\":[\"p\",\"./fb.mjs\"]}}") ∷ file "/fb.mjs" []
    ∷ with_p "{\"exports\":\"../x\"}" [])
    "2 modules, 2 requests\n"
    ∷ []

-- ---- all of them

abbrev pub long_entry : Config
long_entry = record {
  base = codes "https://app.test/";
  page = page_path;
  conditions = link_conditions;
  entries = replicate 4097 47 ∷ [];
}

pub record TracedExamples : Type 0 where
  pub requests : AllHold request_cases
  pub modules : AllHold module_cases
  pub order : AllHold order_cases
  pub texts : AllHold text_cases
  pub suffixes : AllHold suffix_cases
  pub packages : AllHold package_cases
  pub too_long : says (traced (get (tree_of [])) long_entry) ≡ codes "limit: specifier above 4096\n"
