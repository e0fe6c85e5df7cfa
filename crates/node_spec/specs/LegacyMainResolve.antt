-- The main file of a package without exports (Node.js, CommonJS modules: LOAD_AS_DIRECTORY; ECMAScript modules:
-- PACKAGE_RESOLVE, "If packageSubpath is equal to ".""). own: the list of the files that are tried.
--     main_files main           the texts that are tried, in order
--     main_file folder main     the URL of the first that names a file
--     index_files               the files that are tried last, and alone where there is no `main`
--     main_ends                 what is put behind the text of `main`, in order
--     first_file folder texts   the URL of the first of these texts that names a file in the folder; NotFound without
--                               one
use Rattle.std.specs.Prelude.{◌&&◌, ◌++◌, not, ℕ, Bool, List, [], ◌∷◌, codes, map, if◌then◌else◌, Option, Some, None}
use Rattle.asking_spec.specs.Askings.{and_then}
use Rattle.tree_spec.specs.declared.Entry.{Entry}
use Rattle.url_spec.specs.FileUrls.{url_path}
use Rattle.node_spec.specs.FileLooks.{look_at_url, is_file, url_in}
use Rattle.node_spec.specs.NodeAnswers.{Url, Resolving, gives, refuses}
use Rattle.node_spec.specs.Resolution.{is_folder_path}
use Rattle.node_spec.specs.declared.Cause.TheVariants.{NotFound}

abbrev pub index_files : List (List ℕ)
index_files = codes "index.js" ∷ codes "index.json" ∷ codes "index.node" ∷ []

abbrev pub main_ends : List (List ℕ)
main_ends =
    [] ∷ codes ".js" ∷ codes ".json" ∷ codes ".node"
    ∷ codes "/index.js" ∷ codes "/index.json" ∷ codes "/index.node" ∷ []

abbrev pub main_files : Option (List ℕ) → List (List ℕ)
main_files None = index_files
main_files (Some main) = map (λ end. main ++ end) main_ends ++ index_files

-- own: a text whose URL's path ends in `/` is looked at and passed over
abbrev pub serves : Url → Option Entry → Bool
serves url found = is_file found && not (is_folder_path (url_path url))

-- own: a text that has no URL is passed over
abbrev pub file_or : Resolving Url → Option Url → Resolving Url
file_or rest None = rest
file_or rest (Some url) = and_then (look_at_url url) (λ found. if serves url found then gives url else rest)

abbrev pub first_file : List ℕ → List (List ℕ) → Resolving Url
first_file folder [] = refuses NotFound
first_file folder (text ∷ more) = file_or (first_file folder more) (url_in folder (codes "./" ++ text))

abbrev pub main_file : List ℕ → Option (List ℕ) → Resolving Url
main_file folder main = first_file folder (main_files main)
