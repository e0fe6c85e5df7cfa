-- Worked examples of Node's resolution, each proved by computation. The conditions are `browser` and `import`.
--     Files, told files                paths with what stands there; what they tell
--     file path text, folder path      one of them
--     packed path json, empty_files paths      a package's folder with its package.json; files without bytes
--     with_p written names             the package `p` with this package.json and these files
--     answer_in files parent specifier      the answer for a specifier in the file at a path
--     GivesFrom files parent specifier path, RefusesFrom files parent specifier cause      it is this file; this cause
--     Gives, Refuses                   the same from `/app.mjs`
--     Sees files parent specifier paths      the resolution has this footprint
--     HasFormat files path format      the file has this format
--     ExportExamples, ConfigExamples, OwnPackageExamples, ImportExamples, SpecifierExamples, FolderExamples,
--         FootprintExamples, FormatExamples, OwnRuleExamples      the examples
use Rattle.std.specs.Prelude.{◌≡◌, ℕ, List, [], ◌∷◌, ◌++◌, codes, map, bytes_eq, replicate, Some, None, Result, Ok, Err}
use Rattle.std.specs.Prelude.{if◌then◌else◌}
use Rattle.asking_spec.specs.Askings.{outcome}
use Rattle.tree_spec.specs.LookAskings.{Sights, footprint}
use Rattle.tree_spec.specs.declared.Entry.{Entry}
use Rattle.tree_spec.specs.declared.Entry.TheVariants.{Stored, Directory}
use Rattle.node_spec.specs.BuiltinNames.{texts}
use Rattle.node_spec.specs.EsmFileFormat.{Format, IsModule, IsDetected, IsCommonJs, IsJson, IsAddon, HasBadConfig}
use Rattle.node_spec.specs.EsmFileFormat.{IsOther, file_format}
use Rattle.node_spec.specs.EsmResolve.{node}
use Rattle.node_spec.specs.NodeAnswers.{Module, Refusal, by_cause, too_deep}
use Rattle.node_spec.specs.declared.Cause.{Cause}
use Rattle.node_spec.specs.declared.Cause.TheVariants.{Builtin, ExternalUrl, InvalidSpecifier, InvalidConfig}
use Rattle.node_spec.specs.declared.Cause.TheVariants.{InvalidTarget, NotExported, ImportNotDefined, NotFound}
use Rattle.node_spec.specs.declared.Cause.TheVariants.{DirectoryImport}
use Prim.Native.String.{String}

abbrev pub Files : Type 0
Files = List (List ℕ × Entry)

abbrev pub told : Files → Sights
told [] path = None
told (entry ∷ more) path = if bytes_eq entry.0 path then Some entry.1 else told more path

abbrev pub file : String → List ℕ → List ℕ × Entry
file path text = (codes path, Stored text)

abbrev pub folder : String → List ℕ × Entry
folder path = (codes path, Directory)

abbrev pub packed : String → List ℕ → Files
packed path json = folder path ∷ (codes path ++ codes "/package.json", Stored json) ∷ []

abbrev pub empty_files : List String → Files
empty_files paths = map (λ (path : String). file path []) paths

-- these texts, one behind another
abbrev pub whole : List String → List ℕ
whole [] = []
whole (text ∷ more) = codes text ++ whole more

-- the package `p` in the root's `node_modules`: its package.json, and empty files with these names
abbrev pub with_text : List String → List String → Files
with_text written names =
    packed "/node_modules/p" (whole written)
    ++ map (λ (name : String). (codes "/node_modules/p/" ++ codes name, Stored [])) names

abbrev pub with_p : String → List String → Files
with_p written names = with_text (written ∷ []) names

abbrev pub conditions : List (List ℕ)
conditions = texts ("browser" ∷ "import" ∷ [])

abbrev pub answer_in : Files → String → String → Result Module Refusal
answer_in files parent specifier = outcome (told files) (node conditions (codes parent) (codes specifier))

abbrev pub GivesFrom : Files → String → String → String → Type 0
GivesFrom files parent specifier path =
    answer_in files parent specifier ≡ Ok (record { path = codes path; suffix = [] })

abbrev pub RefusesFrom : Files → String → String → Cause → Type 0
RefusesFrom files parent specifier cause = answer_in files parent specifier ≡ Err (by_cause cause)

abbrev pub Gives : Files → String → String → Type 0
Gives files specifier path = GivesFrom files "/app.mjs" specifier path

abbrev pub Refuses : Files → String → Cause → Type 0
Refuses files specifier cause = RefusesFrom files "/app.mjs" specifier cause

abbrev pub Sees : Files → String → String → List String → Type 0
Sees files parent specifier paths =
    footprint (told files) (node conditions (codes parent) (codes specifier)) ≡ texts paths

-- ---- exports

abbrev pub repeated : Files
repeated =
    with_p "{\"exports\":{\"import\":\"./1.mjs\",\"default\":\"./2.mjs\",\"import\":\"./3.mjs\"}}"
    ("1.mjs" ∷ "2.mjs" ∷ "3.mjs" ∷ [])

abbrev pub patterns : Files
patterns =
    with_p "{\"exports\":{\"./a/*\":\"./1/*.mjs\",\"./a/b*\":\"./2/*.mjs\",\"./a/*.js\":\"./3/*.mjs\"}}"
    ("1/bc.js.mjs" ∷ "2/c.js.mjs" ∷ "3/x.mjs" ∷ [])

abbrev pub private : Files
private =
    with_p "{\"exports\":{\"./*\":\"./*.mjs\",\"./priv/*\":null}}"
    ("a.mjs" ∷ "priv/x.mjs" ∷ [])

abbrev pub conditional : Files
conditional =
    with_p "{\"exports\":{\"types\":\"./i.d.ts\",\"node\":\"./n.js\",\"browser\":\"./b.js\",\"default\":\"./d.js\"}}"
    ("b.js" ∷ "d.js" ∷ [])

-- Packages, nested conditions
abbrev pub nested : Files
nested =
    with_text
    ("{\"exports\":{\"node\":{\"import\":\"./feature-node.mjs\",\"require\":\"./feature-node.cjs\"},"
    ∷ "\"default\":\"./feature.mjs\"}}" ∷ [])
    ("feature.mjs" ∷ "feature-node.mjs" ∷ [])

-- Packages, main entry point export and subpath exports
abbrev pub subpaths : Files
subpaths =
    with_text
    ("{\"exports\":{\".\":\"./lib/index.js\",\"./submodule.js\":\"./src/submodule.js\","
    ∷ "\"./feature.js\":{\"node\":\"./feature-node.js\",\"default\":\"./feature.js\"}}}" ∷ [])
    ("lib/index.js" ∷ "src/submodule.js" ∷ "feature.js" ∷ "private-module.js" ∷ [])

-- Packages, subpath patterns
abbrev pub features : Files
features =
    with_p "{\"exports\":{\"./features/*.js\":\"./src/features/*.js\",\"./features/private-internal/*\":null}}"
    ("src/features/x.js" ∷ "src/features/y/y.js" ∷ "src/features/private-internal/m.js" ∷ [])

pub record ExportExamples : Type 0 where
  -- a repeated key keeps its first place and takes its last value
  pub repeated_key : Gives repeated "p" "/node_modules/p/3.mjs"
  -- the longest base, and then the longest key
  pub longest_base : Gives patterns "p/a/bc.js" "/node_modules/p/2/c.js.mjs"
  pub longest_key : Gives patterns "p/a/x.js" "/node_modules/p/3/x.mjs"
  pub any_name : Gives private "p/a" "/node_modules/p/a.mjs"
  pub null_pattern : Refuses private "p/priv/x" NotExported
  pub written_order : Gives conditional "p" "/node_modules/p/b.js"
  pub nested_default : Gives nested "p" "/node_modules/p/feature.mjs"
  pub main : Gives subpaths "p" "/node_modules/p/lib/index.js"
  pub subpath : Gives subpaths "p/submodule.js" "/node_modules/p/src/submodule.js"
  pub by_condition : Gives subpaths "p/feature.js" "/node_modules/p/feature.js"
  pub not_named : Refuses subpaths "p/private-module.js" NotExported
  pub pattern : Gives features "p/features/x.js" "/node_modules/p/src/features/x.js"
  pub deep_pattern : Gives features "p/features/y/y.js" "/node_modules/p/src/features/y/y.js"
  pub left_out : Refuses features "p/features/private-internal/m.js" NotExported
  pub no_trailer : Refuses features "p/features/x" NotExported

-- READ_PACKAGE_JSON is read before a package is looked for: a broken one refuses every bare specifier of its scope
abbrev pub broken_scope : Files
broken_scope = file "/package.json" (codes "{") ∷ with_p "{\"exports\":\"./i.mjs\"}" ("i.mjs" ∷ [])

pub record ConfigExamples : Type 0 where
  pub outside : Refuses (with_p "{\"exports\":\"../x\"}" []) "p" InvalidTarget
  pub no_record : Refuses (with_p "{\"name\":" []) "p" InvalidConfig
  pub mixed :
      Refuses (with_p "{\"exports\":{\".\":\"./i.mjs\",\"x\":\"./i.mjs\"}}" ("i.mjs" ∷ [])) "p" InvalidConfig
  pub no_object : Refuses (with_p "[]" []) "p" InvalidConfig
  pub index_key : Refuses (with_p "{\"exports\":{\"1\":\"./i.mjs\"}}" []) "p" InvalidConfig
  pub a_number : Refuses (with_p "{\"exports\":1}" []) "p" NotExported
  pub star_above : Refuses (with_p "{\"exports\":{\"./*\":\"./*\"}}" []) "p/a/../b" InvalidSpecifier
  -- no file stands there
  pub target_missing : Refuses (with_p "{\"exports\":\"./i.mjs\"}" []) "p" NotFound
  pub broken_above : Refuses broken_scope "p" InvalidConfig
  pub broken_relative : Gives broken_scope "./node_modules/p/i.mjs" "/node_modules/p/i.mjs"
  pub deep :
      answer_in (packed "/node_modules/p" (codes "{\"exports\":" ++ replicate 128 91)) "/app.mjs" "p" ≡ Err too_deep

-- ---- the package itself

abbrev pub own_name : Files
own_name =
    file "/package.json" (codes "{\"name\":\"me\",\"exports\":{\"./sub\":\"./s.mjs\"}}")
    ∷ (packed "/node_modules/me" (codes "{\"exports\":{\"./sub\":\"./o.mjs\"}}")
    ++ empty_files ("/s.mjs" ∷ "/node_modules/me/o.mjs" ∷ []))

-- Packages, self-referencing a package using its name
abbrev pub self_reference : Files
self_reference =
    file "/package.json"
    (codes "{\"name\":\"a-package\",\"exports\":{\".\":\"./index.mjs\",\"./foo.js\":\"./foo.js\"}}")
    ∷ empty_files ("/index.mjs" ∷ "/foo.js" ∷ "/m.mjs" ∷ [])

abbrev pub without_exports : Files
without_exports =
    file "/package.json" (codes "{\"name\":\"me\"}")
    ∷ (packed "/node_modules/me" (codes "{\"exports\":\"./o.mjs\"}") ++ empty_files ("/node_modules/me/o.mjs" ∷ []))

pub record OwnPackageExamples : Type 0 where
  pub before_modules : Gives own_name "me/sub" "/s.mjs"
  pub itself : Gives self_reference "a-package" "/index.mjs"
  pub own_subpath : Gives self_reference "a-package/foo.js" "/foo.js"
  pub own_private : Refuses self_reference "a-package/m.mjs" NotExported
  pub no_exports : Gives without_exports "me" "/node_modules/me/o.mjs"
  -- a folder `node_modules` ends the scope
  pub not_from_within : GivesFrom own_name "/node_modules/q/x.mjs" "me/sub" "/node_modules/me/o.mjs"

-- ---- imports

abbrev pub with_fallback : Files
with_fallback =
    file "/package.json" (codes "{\"imports\":{\"#d\":[\"dep\",\"./fb.mjs\"]}}")
    ∷ (packed "/node_modules/dep" (codes "{\"exports\":\"../x\"}") ++ empty_files ("/fb.mjs" ∷ []))

-- Packages, subpath imports and subpath patterns
abbrev pub internal : Files
internal =
    file "/package.json"
    (whole
    ("{\"imports\":{\"#dep\":{\"node\":\"dep-node-native\",\"default\":\"./dep-polyfill.js\"},"
    ∷ "\"#internal/*.js\":\"./src/internal/*.js\",\"#p\":\"p\",\"#gone\":[\"gone\",\"./dep-polyfill.js\"]}}" ∷ []))
    ∷ (with_p "{\"exports\":\"./p.mjs\"}" ("p.mjs" ∷ [])
    ++ empty_files ("/dep-polyfill.js" ∷ "/src/internal/z.js" ∷ []))

pub record ImportExamples : Type 0 where
  pub invalid_passed : Gives with_fallback "#d" "/fb.mjs"
  pub by_condition : Gives internal "#dep" "/dep-polyfill.js"
  pub pattern : Gives internal "#internal/z.js" "/src/internal/z.js"
  pub a_package : Gives internal "#p" "/node_modules/p/p.mjs"
  -- only a target that isn't well formed lets a list go on
  pub missing_ends : Refuses internal "#gone" NotFound
  pub not_defined : Refuses internal "#q" ImportNotDefined
  pub no_scope : Refuses [] "#q" ImportNotDefined
  pub mark_alone : Refuses internal "#" InvalidSpecifier
  pub slash_behind : Refuses internal "#/a" InvalidSpecifier
  pub final_slash : Refuses internal "#dep/" InvalidSpecifier

-- ---- specifiers

pub record SpecifierExamples : Type 0 where
  pub builtin : Refuses [] "fs" Builtin
  pub builtin_url : Refuses [] "node:fs" Builtin
  pub builtin_path : Refuses [] "fs/promises" Builtin
  pub external : Refuses [] "https://cdn.test/x.js" ExternalUrl
  pub a_data_url : Refuses [] "data:text/javascript,0" ExternalUrl
  pub scope_alone : Refuses [] "@x" InvalidSpecifier
  pub percent : Refuses [] "a%b" InvalidSpecifier
  pub dot : Refuses [] ".x" InvalidSpecifier
  pub final_slash : Refuses [] "ui/" InvalidSpecifier
  pub empty : Refuses [] "" InvalidSpecifier
  pub backslash : Refuses [] "a\\b" InvalidSpecifier
  pub empty_part : Refuses [] "@x//y" InvalidSpecifier
  pub dots_part : Refuses [] "@x/../y" InvalidSpecifier
  pub mark_inside : Refuses [] "a?b" InvalidSpecifier
  pub file_url : Refuses [] "file:///opt/nodejs/config.js" ExternalUrl
  pub escaped_slash : Refuses [] "./b%2Fc.mjs" InvalidSpecifier
  pub file_slash : Refuses (file "/b.mjs" [] ∷ []) "./b.mjs/" NotFound
  pub folder_slash : Refuses (folder "/d" ∷ []) "./d/" DirectoryImport
  pub host_fails : Refuses [] "//[" InvalidSpecifier
  pub a_folder : Refuses (folder "/d" ∷ []) "./d" DirectoryImport
  pub missing : Refuses [] "./q.mjs" NotFound
  pub no_package : Refuses [] "gone" NotFound
  pub beside : Gives (file "/b.mjs" [] ∷ []) "./b.mjs" "/b.mjs"
  pub query :
      answer_in (file "/foo.mjs" [] ∷ []) "/app.mjs" "./foo.mjs?query=1"
      ≡ Ok (record { path = codes "/foo.mjs"; suffix = codes "?query=1" })

-- ---- folders without exports

abbrev pub with_main : Files
with_main =
    with_p "{\"main\":\"lib\"}" ("lib/index.js" ∷ "index.js" ∷ "a/b.mjs" ∷ []) ++ empty_files ("/x.mjs" ∷ [])

-- the package `c`, whose nearer folder is empty
abbrev pub nearer : Files
nearer =
    folder "/lib/node_modules/c" ∷ (packed "/node_modules/c" (codes "{\"exports\":\"./c.mjs\"}")
    ++ empty_files ("/node_modules/c/c.mjs" ∷ []))

abbrev pub scoped : Files
scoped = packed "/a/node_modules/@s/p" (codes "{}") ++ empty_files ("/a/node_modules/@s/p/x.mjs" ∷ [])

pub record FolderExamples : Type 0 where
  -- the nearer folder decides
  pub nearest_decides : RefusesFrom nearer "/lib/m.mjs" "c" NotFound
  pub from_root : Gives nearer "c" "/node_modules/c/c.mjs"
  pub main : Gives with_main "p" "/node_modules/p/lib/index.js"
  pub below : Gives with_main "p/a/b.mjs" "/node_modules/p/a/b.mjs"
  pub leaves : Refuses with_main "p/../../x.mjs" InvalidSpecifier
  pub index : Gives (with_p "{}" ("index.js" ∷ [])) "p" "/node_modules/p/index.js"
  pub no_index : Refuses (with_p "{}" []) "p" NotFound
  pub main_query :
      answer_in (with_p "{\"main\":\"m.mjs?a\"}" ("m.mjs" ∷ [])) "/app.mjs" "p"
      ≡ Ok (record { path = codes "/node_modules/p/m.mjs"; suffix = codes "?a" })
  pub main_slash : Gives (with_p "{\"main\":\"m.mjs/\"}" ("m.mjs" ∷ "index.js" ∷ [])) "p" "/node_modules/p/index.js"
  pub main_no_text : Gives (with_p "{\"main\":1}" ("index.json" ∷ [])) "p" "/node_modules/p/index.json"
  pub no_package_json :
      Gives (folder "/node_modules/p" ∷ file "/node_modules/p/a.mjs" [] ∷ []) "p/a.mjs" "/node_modules/p/a.mjs"
  pub below_missing : Refuses with_main "p/b.mjs" NotFound
  pub scoped_name : GivesFrom scoped "/a/b/m.mjs" "@s/p/x.mjs" "/a/node_modules/@s/p/x.mjs"

pub record FootprintExamples : Type 0 where
  pub from_root :
      Sees nearer "/app.mjs" "c"
      ("/package.json" ∷ "/node_modules/c" ∷ "/node_modules/c/package.json" ∷ "/node_modules/c/c.mjs" ∷ [])
  pub from_below :
      Sees nearer "/lib/m.mjs" "c"
      ("/lib/package.json" ∷ "/package.json" ∷ "/lib/node_modules/c" ∷ "/lib/node_modules/c/package.json"
      ∷ "/lib/node_modules/c/index.js" ∷ "/lib/node_modules/c/index.json" ∷ "/lib/node_modules/c/index.node" ∷ [])
  pub within_modules :
      Sees [] "/node_modules/q/m.mjs" "c"
      ("/node_modules/q/package.json" ∷ "/node_modules/q/node_modules/c"
      ∷ "/node_modules/node_modules/c" ∷ "/node_modules/c" ∷ [])
  pub relative : Sees [] "/app.mjs" "./b.mjs" ("/b.mjs" ∷ [])
  pub builtin : Sees [] "/app.mjs" "fs" []
  pub own : Sees own_name "/app.mjs" "me/sub" ("/package.json" ∷ "/s.mjs" ∷ [])

-- ---- formats

abbrev pub HasFormat : Files → String → Format → Type 0
HasFormat files path format = outcome (told files) (file_format (codes path)) ≡ Ok format

-- Packages, package.json and file extensions: `/` has type module, and a package below it no type
abbrev pub typed : Files
typed =
    file "/package.json" (codes "{\"type\":\"module\"}")
    ∷ (packed "/node_modules/commonjs-package" (codes "{\"type\":\"commonjs\"}")
    ++ packed "/node_modules/untyped" (codes "{\"type\":\"other\"}") ++ packed "/node_modules/broken" (codes "[]"))

pub record FormatExamples : Type 0 where
  pub of_type : HasFormat typed "/my-app.js" IsModule
  pub by_folder_above : HasFormat typed "/startup/init.js" IsModule
  pub of_commonjs : HasFormat typed "/node_modules/commonjs-package/src/index.js" IsCommonJs
  pub always_module : HasFormat typed "/node_modules/commonjs-package/index.mjs" IsModule
  pub always_commonjs : HasFormat typed "/my-app.cjs" IsCommonJs
  pub other_type : HasFormat typed "/node_modules/untyped/index.js" IsDetected
  -- the scope doesn't reach below a folder `node_modules`
  pub no_scope : HasFormat typed "/node_modules/bare/index.js" IsDetected
  pub no_record : HasFormat [] "/x.js" IsDetected
  pub bad_record : HasFormat typed "/node_modules/broken/index.js" HasBadConfig
  pub of_json : HasFormat typed "/data.json" IsJson
  pub of_addon : HasFormat typed "/a.node" IsAddon
  pub no_ending : HasFormat typed "/bin" IsOther
  pub other_ending : HasFormat typed "/a.wasm" IsOther
  pub dot_first : HasFormat typed "/.cjs" IsCommonJs
  pub case_counts : HasFormat typed "/a.MJS" IsOther
  pub looks :
      footprint (told typed) (file_format (codes "/node_modules/commonjs-package/src/index.js"))
      ≡ texts ("/node_modules/commonjs-package/src/package.json" ∷ "/node_modules/commonjs-package/package.json" ∷ [])
  pub looks_at_nothing : footprint (told typed) (file_format (codes "/my-app.cjs")) ≡ []

-- ---- where running Node is known to differ, or the rules are the project's own

abbrev pub marked : Files
marked =
    packed "/node_modules/p" (239 ∷ 187 ∷ 191 ∷ codes "{\"exports\":\"./i.mjs\"}")
    ++ empty_files ("/node_modules/p/i.mjs" ∷ [])

abbrev pub fallback : String → Files
fallback exports = with_text ("{\"exports\":" ∷ exports ∷ "}" ∷ []) ("f.mjs" ∷ [])

pub record OwnRuleExamples : Type 0 where
  pub byte_order_mark : Gives marked "p" "/node_modules/p/i.mjs"
  -- only a folder whose whole name is `node_modules` ends a scope
  pub whole_name : HasFormat typed "/my_node_modules/x.js" IsModule
  pub not_a_drive : Gives (file "/c:d.mjs" [] ∷ []) "./c:d.mjs" "/c:d.mjs"
  pub caret : Gives (file "/^.mjs" [] ∷ []) "./^.mjs" "/^.mjs"
  pub nul : Refuses [] "./%00.mjs" NotFound
  pub no_utf8 : Refuses [] "./%FF.mjs" NotFound
  pub escaped_backslash : Refuses [] "./a%5Cb.mjs" InvalidSpecifier
  pub escape_in_query :
      answer_in (file "/b.mjs" [] ∷ []) "/app.mjs" "./b.mjs?u=%2F"
      ≡ Ok (record { path = codes "/b.mjs"; suffix = codes "?u=%2F" })
  pub invalid_passed : Gives (fallback "[\"../x\",\"./f.mjs\"]") "p" "/node_modules/p/f.mjs"
  pub null_passed : Gives (fallback "[null,\"./f.mjs\"]") "p" "/node_modules/p/f.mjs"
  pub last_null : Refuses (fallback "[\"../x\",null]") "p" NotExported
  pub last_invalid : Refuses (fallback "[null,\"../x\"]") "p" InvalidTarget
  pub empty_list : Refuses (fallback "[]") "p" NotExported
  pub first_place : Refuses (fallback "[\"./gone.mjs\",\"./f.mjs\"]") "p" NotFound
  pub bare_target : Refuses (fallback "\"f.mjs\"") "p" InvalidTarget
  pub nested_modules : Refuses (fallback "\"./node_modules/f.mjs\"") "p" InvalidTarget
  pub escaped_dots : Refuses (fallback "\"./%2e%2E/f.mjs\"") "p" InvalidTarget

abbrev pub NodeExamples : Type 0
NodeExamples =
    ExportExamples × ConfigExamples × OwnPackageExamples × ImportExamples × SpecifierExamples × FolderExamples
    × FootprintExamples × FormatExamples × OwnRuleExamples
