-- A bare specifier from a folder (Node.js, ECMAScript modules: PACKAGE_RESOLVE).
--     package_at name folder           the place of the package with this name in the folder's `node_modules`
--     package_folder from name         the asking that finds the package's folder
--     IsPackageFolder tree from name out      what it is, or that there is none
--     name_length text                 how long the package name is at the front of a bare specifier
--     is_package_name name             the name may be that of a package
--     package_resolve conditions from text      the URL that the bare specifier has
--     until_slash text                 how many bytes stand before the first `/`; without one, all
--     split_at n text                  the first n bytes as the name, and the rest behind `.` as the subpath
--     by_files folder subpath main     the URL without `exports`: for `.` that of the main file, else that of the
--                                      subpath in the folder
--     in_folder conditions subpath folder      the URL of the subpath in the package at a folder; NotFound without one
--     in_modules conditions from asked      the same, where the package's folder is looked for from this one
use Rattle.std.specs.Prelude.{◌≡◌, ◌&&◌, ◌||◌, ◌==◌, ◌+◌, ◌++◌, not, ℕ, nat_lt, Bool, true, false, List, [], ◌∷◌, codes}
use Rattle.std.specs.Prelude.{bytes_eq, length, take, drop, if◌then◌else◌, Option, Some, None, option_map}
use Rattle.std.specs.List.{list_any, prefix_len}
use Rattle.asking_spec.specs.Askings.{answered, and_then, and_ok}
use Rattle.tree_spec.specs.LookAskings.{LookAsking}
use Rattle.tree_spec.specs.Paths.{joined}
use Rattle.tree_spec.specs.Trees.{Tree}
use Rattle.url_spec.specs.FileUrls.{file_text}
use Rattle.url_spec.specs.ServedPaths.{segments}
use Rattle.url_spec.specs.Specifiers.{begins, ends_in_slash}
use Rattle.node_spec.specs.BuiltinNames.{is_builtin}
use Rattle.node_spec.specs.FileLooks.{is_folder, url_in}
use Rattle.node_spec.specs.LegacyMainResolve.{main_file}
use Rattle.node_spec.specs.Nearest.{Search, nearest, IsNearest}
use Rattle.node_spec.specs.NodeAnswers.{Url, Resolving, gives, refuses}
use Rattle.node_spec.specs.PackageExportsResolve.{exported}
use Rattle.node_spec.specs.PackageSelfResolve.{Subpath, is_null, self_or}
use Rattle.node_spec.specs.ReadPackageJson.{record_at}
use Rattle.node_spec.specs.Records.{Record}
use Rattle.node_spec.specs.declared.Cause.TheVariants.{Builtin, InvalidSpecifier, NotFound}

-- ---- the package's folder: PACKAGE_RESOLVE, "While parentURL is not the file system root"

abbrev pub package_at : List ℕ → List ℕ → List ℕ
package_at name folder = joined folder (codes "node_modules/" ++ name)

-- own: the root is looked at too
abbrev pub packages : List ℕ → Search
packages name = record { ends_at = λ folder. false; place = package_at name; accepts = is_folder }

abbrev pub package_folder : List ℕ → List ℕ → LookAsking (Option (List ℕ))
package_folder from name =
    and_then (nearest (packages name) from) (λ found. answered (option_map (package_at name) found))

pub record IsPackageFolder (tree : Tree) (from name : List ℕ) (out : Option (List ℕ)) : Type 0 where
  pub above : Option (List ℕ)
  pub is_nearest : IsNearest (packages name) tree from above
  pub there : out ≡ option_map (package_at name) above

-- ---- names and subpaths

abbrev pub until_slash : List ℕ → ℕ
until_slash text = prefix_len (λ b. not (b == 47)) text

-- "Let packageName be the substring of packageSpecifier until the first "/" separator", or until the second, where the
-- specifier starts with `@`
abbrev pub name_length : List ℕ → ℕ
name_length text =
    if begins text (codes "@")
    then until_slash text + (1 + until_slash (drop (1 + until_slash text) text))
    else until_slash text

-- "If packageSpecifier does not contain a "/" separator", where it starts with `@`
abbrev pub lacks_name : List ℕ → Bool
lacks_name text = begins text (codes "@") && until_slash text == length text

-- "If packageName starts with "." or contains "\" or "%"". own: nor may it hold `?`, `#`, a space or what is below it
abbrev pub is_refused_byte : ℕ → Bool
is_refused_byte b = b == 92 || b == 37 || b == 63 || b == 35 || nat_lt b 33

-- own: no segment of the name is empty, `.` or `..`
abbrev pub is_refused_part : List ℕ → Bool
is_refused_part part = list_any (bytes_eq part) ([] ∷ codes "." ∷ codes ".." ∷ [])

abbrev pub is_package_name : List ℕ → Bool
is_package_name name =
    not (begins name (codes ".")) && not (list_any is_refused_byte name)
    && not (list_any is_refused_part (segments name))

abbrev pub split_at : ℕ → List ℕ → Subpath
split_at n text = record { name = take n text; subpath = codes "." ++ drop n text }

-- ---- in the package

-- own: a subpath doesn't lead out of the package
abbrev pub inside : List ℕ → Option Url → Resolving Url
inside folder None = refuses InvalidSpecifier
inside folder (Some url) = if begins url (file_text folder true) then gives url else refuses InvalidSpecifier

abbrev pub by_files : List ℕ → List ℕ → Option (List ℕ) → Resolving Url
by_files folder subpath main =
    if bytes_eq subpath (codes ".") then main_file folder main else inside folder (url_in folder subpath)

-- "If pjson is not null and pjson.exports is not null or undefined"
abbrev pub by_record : List (List ℕ) → List ℕ → List ℕ → Option Record → Resolving Url
by_record conditions folder subpath None = by_files folder subpath None
by_record conditions folder subpath (Some of_package) =
    if is_null of_package.exports then by_files folder subpath of_package.main
    else exported conditions folder subpath of_package.exports

abbrev pub in_folder : List (List ℕ) → List ℕ → Option (List ℕ) → Resolving Url
in_folder conditions subpath None = refuses NotFound
in_folder conditions subpath (Some folder) = and_ok (record_at folder) (by_record conditions folder subpath)

abbrev pub in_modules : List (List ℕ) → List ℕ → Subpath → Resolving Url
in_modules conditions from asked = and_then (package_folder from asked.name) (in_folder conditions asked.subpath)

-- the package itself goes before every `node_modules`
abbrev pub by_name : List (List ℕ) → List ℕ → Subpath → Resolving Url
by_name conditions from asked =
    if is_package_name asked.name then self_or (in_modules conditions from asked) conditions from asked
    else refuses InvalidSpecifier

-- own: a final `/` isn't well formed
abbrev pub package_resolve : List (List ℕ) → List ℕ → List ℕ → Resolving Url
package_resolve conditions from text =
    if bytes_eq text [] then refuses InvalidSpecifier
    else if is_builtin text then refuses Builtin
    else if ends_in_slash text then refuses InvalidSpecifier
    else if lacks_name text then refuses InvalidSpecifier
    else by_name conditions from (split_at (name_length text) text)
