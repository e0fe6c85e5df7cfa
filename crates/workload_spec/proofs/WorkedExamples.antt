-- The worked examples.
use Rattle.std.proofs.Common.{◌≡◌, ◌++◌, ℕ, List, [], ◌∷◌, codes, refl, arith}
use Rattle.std.specs.Fmt.{decimal}
use Rattle.std.proofs.lemmas.Fmt.{decimal_digit}
use Rattle.workload_spec.specs.Packages.{File, file_of, first_files, shared_manifest, shared_text}
use Rattle.workload_spec.specs.WorkedExamples.{WorkedExamples}

-- ---- packages by the digits of their numbers

abbrev path_by : List ℕ → List ℕ → List ℕ
path_by digits rest = codes "/node_modules/p" ++ (digits ++ rest)

abbrev next_by : List ℕ → List ℕ
next_by digits = codes "import \"./x/a.js\";\nimport \"c\";\nimport \"p" ++ (digits ++ codes "\";\n")

abbrev last_text : List ℕ
last_text = codes "import \"./x/a.js\";\nimport \"c\";\n"

abbrev package_by : List ℕ → List ℕ → List File → List File
package_by digits index more =
    file_of (path_by digits (codes "/package.json"))
    (codes "{\"name\":\"p" ++ (digits ++ codes "\",\"type\":\"module\",\"exports\":{\".\":\"./index.js\",\"./x/*\":\"./x/*.js\"}}"))
    ∷ file_of (path_by digits (codes "/x/a.js")) (codes "export {};\n")
    ∷ file_of (path_by digits (codes "/index.js")) index
    ∷ more

abbrev own_by : List ℕ → List File
own_by digits =
    file_of (path_by digits (codes "/node_modules/c/package.json")) shared_manifest
    ∷ file_of (path_by digits (codes "/node_modules/c/index.mjs")) (shared_text (codes "1")) ∷ []

zero_is : decimal 0 ≡ codes "0"
zero_is = decimal_digit 0 (omega arith)

one_is : decimal 1 ≡ codes "1"
one_is = decimal_digit 1 (omega arith)

two_is : decimal 2 ≡ codes "2"
two_is = decimal_digit 2 (omega arith)

three_is : decimal 3 ≡ codes "3"
three_is = decimal_digit 3 (omega arith)

pub worked_examples : WorkedExamples
worked_examples = record {
  one = λ i. first_files ++ package_by (zero_is i) last_text [];
  three =
      λ i. first_files
      ++ package_by (zero_is i) (next_by (one_is i)) (package_by (one_is i) (next_by (two_is i)) (package_by (two_is i) last_text []));
  fourth = λ i. package_by (three_is i) last_text (own_by (three_is i));
  counted = refl;
}
