-- Worked examples of the tree of packages, typed by hand.
--     WorkedExamples   the files of the trees of one, three and four packages
use Prim.Native.String.{String}
use Rattle.std.specs.Prelude.{◌≡◌, ◌++◌, ◌∷◌, [], List, codes, length, drop}
use Rattle.workload_spec.specs.Packages.{File, files}

abbrev file : String → String → File
file path text = record { path = codes path; bytes = codes text }

abbrev application : List File
application =
    file "/app.mjs" "import \"p0\";\nimport \"p0/x/a\";\nimport \"c\";\n"
    ∷ file "/node_modules/c/package.json" "{\"name\":\"c\",\"exports\":\"./index.mjs\"}"
    ∷ file "/node_modules/c/index.mjs" "export const v = 0;\n" ∷ []

abbrev one_package : List File
one_package =
    file "/node_modules/p0/package.json"
    "{\"name\":\"p0\",\"type\":\"module\",\"exports\":{\".\":\"./index.js\",\"./x/*\":\"./x/*.js\"}}"
    ∷ file "/node_modules/p0/x/a.js" "export {};\n"
    ∷ file "/node_modules/p0/index.js" "import \"./x/a.js\";\nimport \"c\";\n" ∷ []

abbrev three_packages : List File
three_packages =
    file "/node_modules/p0/package.json"
    "{\"name\":\"p0\",\"type\":\"module\",\"exports\":{\".\":\"./index.js\",\"./x/*\":\"./x/*.js\"}}"
    ∷ file "/node_modules/p0/x/a.js" "export {};\n"
    ∷ file "/node_modules/p0/index.js" "import \"./x/a.js\";\nimport \"c\";\nimport \"p1\";\n"
    ∷ file "/node_modules/p1/package.json"
    "{\"name\":\"p1\",\"type\":\"module\",\"exports\":{\".\":\"./index.js\",\"./x/*\":\"./x/*.js\"}}"
    ∷ file "/node_modules/p1/x/a.js" "export {};\n"
    ∷ file "/node_modules/p1/index.js" "import \"./x/a.js\";\nimport \"c\";\nimport \"p2\";\n"
    ∷ file "/node_modules/p2/package.json"
    "{\"name\":\"p2\",\"type\":\"module\",\"exports\":{\".\":\"./index.js\",\"./x/*\":\"./x/*.js\"}}"
    ∷ file "/node_modules/p2/x/a.js" "export {};\n"
    ∷ file "/node_modules/p2/index.js" "import \"./x/a.js\";\nimport \"c\";\n" ∷ []

-- the one with the number 3 has a shared package of its own
abbrev fourth_package : List File
fourth_package =
    file "/node_modules/p3/package.json"
    "{\"name\":\"p3\",\"type\":\"module\",\"exports\":{\".\":\"./index.js\",\"./x/*\":\"./x/*.js\"}}"
    ∷ file "/node_modules/p3/x/a.js" "export {};\n"
    ∷ file "/node_modules/p3/index.js" "import \"./x/a.js\";\nimport \"c\";\n"
    ∷ file "/node_modules/p3/node_modules/c/package.json" "{\"name\":\"c\",\"exports\":\"./index.mjs\"}"
    ∷ file "/node_modules/p3/node_modules/c/index.mjs" "export const v = 1;\n" ∷ []

pub record WorkedExamples : Type 0 where
  pub one : files 1 ≡ application ++ one_package
  pub three : files 3 ≡ application ++ three_packages
  pub fourth : drop 12 (files 4) ≡ fourth_package
  pub counted : length (files 24) ≡ 81
