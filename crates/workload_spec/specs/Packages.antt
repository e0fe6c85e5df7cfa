-- The tree over which `measure` generates: packages each of which needs the next one, and a shared one of which some
-- have a copy of their own. own: no public standard speaks of it.
--     File                           a path, and the bytes of the file there
--     package_path number rest       what stands in the package with a number
--     manifest number                its package.json
--     index_text number is_last      its main module; the last package needs no next one
--     has_own_shared number          whether the package has a shared package of its own
--     shared_manifest, shared_text value      the shared package's package.json, and its module with this value
--     own_shared number              the files of the shared package in a package
--     shared_in number               the same, where it has one
--     package_files number is_last   the files of a package
--     packages first count           the files of so many packages, from the one with the first number on
--     files count                    all files, in the order in which they are put
--     with_folders tree folders      the tree with these folders
--     with_file tree path bytes      the tree with the file, and with all folders above it
--     with_files tree files          the tree with these files, put one after another
--     tree_of count                  the tree of so many packages
use Rattle.std.specs.FinMap.{insert}
use Rattle.std.specs.Fmt.{decimal}
use Rattle.std.specs.Prelude.{◌==◌, ◌+◌, ◌%◌, ◌++◌, ◌∷◌, [], zero, suc, ℕ, Bool, true, false, List, codes, drop}
use Rattle.std.specs.Prelude.{if◌then◌else◌}
use Rattle.tree_spec.specs.FoldersAbove.{folders_from}
use Rattle.tree_spec.specs.Trees.{Tree, bare_tree}
use Rattle.tree_spec.specs.declared.Entry.TheVariants.{Stored, Directory}

pub record File : Type 0 where
  pub path : List ℕ
  pub bytes : List ℕ

abbrev pub file_of : List ℕ → List ℕ → File
file_of path bytes = record { path = path; bytes = bytes }

-- ---- one package

abbrev pub package_path : ℕ → List ℕ → List ℕ
package_path number rest = codes "/node_modules/p" ++ (decimal number ++ rest)

-- own: its main module, and each file of its folder `x` under a shorter name
abbrev pub manifest : ℕ → List ℕ
manifest number =
    codes "{\"name\":\"p"
    ++ (decimal number
    ++ codes "\",\"type\":\"module\",\"exports\":{\".\":\"./index.js\",\"./x/*\":\"./x/*.js\"}}")

-- own: it needs a module of its own, the shared package, and the next package, where there is one
abbrev pub index_text : ℕ → Bool → List ℕ
index_text number true = codes "import \"./x/a.js\";\nimport \"c\";\n"
index_text number false =
    codes "import \"./x/a.js\";\nimport \"c\";\nimport \"p" ++ (decimal (number + 1) ++ codes "\";\n")

-- own: each tenth package, from the one with the number 3 on
abbrev pub has_own_shared : ℕ → Bool
has_own_shared number = number % 10 == 3

abbrev pub shared_manifest : List ℕ
shared_manifest = codes "{\"name\":\"c\",\"exports\":\"./index.mjs\"}"

-- own: the copies differ in this
abbrev pub shared_text : List ℕ → List ℕ
shared_text value = codes "export const v = " ++ (value ++ codes ";\n")

abbrev pub own_shared : ℕ → List File
own_shared number =
    file_of (package_path number (codes "/node_modules/c/package.json")) shared_manifest
    ∷ file_of (package_path number (codes "/node_modules/c/index.mjs")) (shared_text (codes "1")) ∷ []

abbrev pub shared_in : ℕ → List File
shared_in number = if has_own_shared number then own_shared number else []

abbrev pub package_files : ℕ → Bool → List File
package_files number is_last =
    file_of (package_path number (codes "/package.json")) (manifest number)
    ∷ file_of (package_path number (codes "/x/a.js")) (codes "export {};\n")
    ∷ file_of (package_path number (codes "/index.js")) (index_text number is_last)
    ∷ shared_in number

-- ---- all packages

abbrev pub packages : ℕ → ℕ → List File
packages first zero = []
packages first (suc rest) = package_files first (rest == 0) ++ packages (first + 1) rest

-- own: what the application needs, and the shared package
abbrev pub first_files : List File
first_files =
    file_of (codes "/app.mjs") (codes "import \"p0\";\nimport \"p0/x/a\";\nimport \"c\";\n")
    ∷ file_of (codes "/node_modules/c/package.json") shared_manifest
    ∷ file_of (codes "/node_modules/c/index.mjs") (shared_text (codes "0")) ∷ []

abbrev pub files : ℕ → List File
files count = first_files ++ packages 0 count

-- ---- the tree

abbrev pub with_folders : Tree → List (List ℕ) → Tree
with_folders tree [] = tree
with_folders tree (folder ∷ folders) = insert (with_folders tree folders) folder Directory

-- own: folders that are missing are made
abbrev pub with_file : Tree → List ℕ → List ℕ → Tree
with_file tree path bytes = insert (with_folders tree (drop 1 (folders_from path))) path (Stored bytes)

abbrev pub with_files : Tree → List File → Tree
with_files tree [] = tree
with_files tree (file ∷ more) = with_files (with_file tree file.path file.bytes) more

abbrev pub tree_of : ℕ → Tree
tree_of count = with_files bare_tree (files count)
