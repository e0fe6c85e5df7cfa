-- Bare specifiers pass.
use Rattle.std.proofs.Common.{◌≡◌, ◌≢◌, ◌⊎◌, ◌++◌, [], ◌∷◌, ℕ, List, Bool, true, Option, Some, None, refl, sym, ap, ◌∙◌, subst, inl, inr}
use Rattle.std.specs.Prelude.{if◌then◌else◌, codes, bytes_eq, ◌&&◌, not, Result, Ok, Err, Contains, option_map}
use Rattle.std.proofs.lemmas.Bool.{cond_both}
use Rattle.std.proofs.lemmas.List.Elements.{Contains-append_right}
use Rattle.asking_spec.specs.Askings.{answered, ask, outcome, and_then, and_ok, on_ok}
use Rattle.asking_spec.proofs.AskingLemmas.{outcome_then}
use Rattle.json_spec.specs.Value.{Json, a_null, a_bool, a_number, a_text, a_list, an_object, names_of}
use Rattle.tree_spec.proofs.Contained.{contains_here, contains_there}
use Rattle.tree_spec.specs.LookAskings.{Sights, LookAsking, looks}
use Rattle.tree_spec.specs.FoldersAbove.{folders_from}
use Rattle.tree_spec.specs.Paths.{IsPath, IsAbove, parent_of, IsSegment}
use Rattle.tree_spec.specs.declared.Entry.{Entry}
use Rattle.tree_spec.specs.declared.Entry.TheVariants.{Stored, Directory}
use Rattle.url_spec.specs.FileUrls.{file_text}
use Rattle.url_spec.specs.PathTests.{is_path}
use Rattle.url_spec.specs.Specifiers.{begins, ends_in_slash}
use Rattle.url_spec.proofs.PathDecisions.{path_by_test, segment_by_test}
use Rattle.node_spec.specs.BuiltinNames.{is_builtin}
use Rattle.node_spec.specs.FileLooks.{url_in, look_at_url, is_folder}
use Rattle.node_spec.specs.LegacyMainResolve.{index_files, main_files, main_file, serves, file_or, first_file}
use Rattle.node_spec.specs.LookupPackageScope.{package_scope, package_json}
use Rattle.node_spec.specs.Nearest.{nearest_in, nearest}
use Rattle.node_spec.specs.NodeAnswers.{Url, Refusal, Resolving, gives, refuses}
use Rattle.node_spec.specs.PackageExportsResolve.{exported, is_mixed_object, main_export, subpath_export, main_target}
use Rattle.node_spec.specs.PackageExportsResolve.{export_rules, export_paths, has_dotted, is_dotted}
use Rattle.node_spec.specs.PackageImportsExportsResolve.{at_key, rules_for}
use Rattle.node_spec.specs.PackageResolve.{package_at, packages, package_folder, inside, by_files, by_record, in_folder}
use Rattle.node_spec.specs.PackageResolve.{in_modules, by_name, package_resolve, is_package_name, lacks_name, split_at}
use Rattle.node_spec.specs.PackageResolve.{name_length}
use Rattle.node_spec.specs.PackageSelfResolve.{Subpath, is_null, self_in, self_at, self_or, has_name}
use Rattle.node_spec.specs.PatternKeyCompare.{KeyFound, first_key}
use Rattle.node_spec.specs.ReadPackageJson.{record_at, record_of_entry}
use Rattle.node_spec.specs.Records.{Record, field}
use Rattle.node_spec.specs.declared.BareAnswer.TheVariants as bare_answer
use Rattle.node_spec.specs.declared.Cause.TheVariants.{InvalidSpecifier, NotExported, Builtin}
use Rattle.node_spec.proofs.TargetOutcomes.{exports_look_at_nothing}
use Rattle.std.specs.List.{list_all}
use Rattle.tree_spec.specs.LeftOutFolders.{HasFileBelow, Spares, IgnoresFolders}
use Rattle.tree_spec.proofs.LeftOutFolders.{ignoring_spares, ignoring_then, no_looks_ignoring, spares_then, below_more}
use Rattle.node_spec.proofs.SparedAnswers.{NamesFile, IsFine, Passes}
use Rattle.node_spec.specs.Laws.{SeesBytes}
use Rattle.node_spec.proofs.FolderUrls.{urls_inside, index_inside}
use Rattle.node_spec.proofs.IgnoredFolders.{ignoring_scope, ignoring_record, ignoring_files, ignoring_choice}

-- ---- exports look at nothing

exported_target : (sights : Sights) (conditions : List (List ℕ)) (folder : List ℕ) (target : Json)
    → looks sights (main_target conditions folder target) ≡ []
exported_target sights conditions folder target =
    exports_look_at_nothing sights (export_rules conditions) folder NotExported target refl

main_looks : (sights : Sights) (conditions : List (List ℕ)) (folder : List ℕ) (exports : Json)
    → looks sights (main_export conditions folder exports) ≡ []
main_looks sights conditions folder a_null = refl
main_looks sights conditions folder (a_bool b) = refl
main_looks sights conditions folder (a_number number) = refl
main_looks sights conditions folder (a_text text) = exported_target sights conditions folder (a_text text)
main_looks sights conditions folder (a_list items) = exported_target sights conditions folder (a_list items)
main_looks sights conditions folder (an_object fields) =
    exported_target sights conditions folder (if has_dotted fields then field (codes ".") fields else an_object fields)

subpath_looks : (sights : Sights) (conditions : List (List ℕ)) (folder subpath : List ℕ) (exports : Json)
    → looks sights (subpath_export conditions folder subpath exports) ≡ []
subpath_looks sights conditions folder subpath a_null = refl
subpath_looks sights conditions folder subpath (a_bool b) = refl
subpath_looks sights conditions folder subpath (a_number number) = refl
subpath_looks sights conditions folder subpath (a_text text) = refl
subpath_looks sights conditions folder subpath (a_list items) = refl
subpath_looks sights conditions folder subpath (an_object fields) =
    cond_both (list_all is_dotted (names_of fields))
    (at_key (export_paths conditions folder fields) subpath (first_key subpath (names_of fields))) (refuses NotExported)
    (λ asking. looks sights asking ≡ [])
    (λ e. of_key (first_key subpath (names_of fields))) (λ e. refl)
  where
    of_key : (chosen : Option KeyFound)
        → looks sights (at_key (export_paths conditions folder fields) subpath chosen) ≡ []
    of_key None = refl
    of_key (Some chosen) =
        exports_look_at_nothing sights (rules_for (export_paths conditions folder fields) subpath chosen) folder
        NotExported (field chosen.key fields) refl

ignoring_exported : (sights : Sights) (conditions : List (List ℕ)) (folder subpath : List ℕ) (exports : Json)
    → IgnoresFolders (exported conditions folder subpath exports)
ignoring_exported sights conditions folder subpath exports =
    cond_both (is_mixed_object exports) _ _ IgnoresFolders (λ e. tt)
    (λ e. ignoring_choice (bytes_eq subpath (codes ".")) (main_export conditions folder exports)
    (subpath_export conditions folder subpath exports)
    (no_looks_ignoring sights _ (main_looks sights conditions folder exports))
    (no_looks_ignoring sights _ (subpath_looks sights conditions folder subpath exports)))

package_json_segment : IsSegment (codes "package.json")
package_json_segment = segment_by_test (codes "package.json") refl

not_a_slash : (front more : List ℕ) (b : ℕ) → front ++ 47 ∷ (b ∷ more) ≢ codes "/"
not_a_slash [] more b e = let f = e in absurd (cc)
not_a_slash (x ∷ []) more b e = let f = e in absurd (cc)
not_a_slash (x ∷ y ∷ front) more b e = let f = e in absurd (cc)

never_root : (folder name : List ℕ) → package_at name folder ≢ codes "/"
never_root folder name e = not_a_slash (if bytes_eq folder (codes "/") then [] else folder) (codes "ode_modules/" ++ name) 110 e

module _ (sights : Sights) (sees : SeesBytes sights) where
  pub pass_choice : (b : Bool) (x y : Resolving Url) → Passes sights x → Passes sights y
      → Passes sights (if b then x else y)
  pass_choice b x y p q = cond_both b x y (Passes sights) (λ e. p) (λ e. q)

  pub pass_then : {X : Type 0} (asking : LookAsking X) (next : X → Resolving Url) → IgnoresFolders asking
      → ((value : X) → Passes sights (next value)) → Passes sights (and_then asking next)
  pass_then asking next ignores each later fine =
      let first = outcome sights asking in
      spares_then sights later asking next (ignoring_spares sights (looks sights (next first) ++ later) asking ignores)
      (each first later (subst (IsFine sights later) (outcome_then sights asking next) fine))

  pub pass_ok : {X : Type 0} (asking : Resolving X) (next : X → Resolving Url) → IgnoresFolders asking
      → ((value : X) → Passes sights (next value)) → Passes sights (and_ok asking next)
  pass_ok {X} asking next ignores each = pass_then asking (on_ok next) ignores by
    where
      by : (value : Result X Refusal) → Passes sights (on_ok next value)
      by (Ok value) later fine = each value later fine
      by (Err refusal) later fine = tt

  -- ---- the folder of a package

  module _ (later : List (List ℕ)) (folder : List ℕ) (is : IsPath folder) (deep : folder ≢ codes "/") (was : sights folder ≡ Some Directory) where
    never_stored : (path bytes : List ℕ) → sights path ≡ Some (Stored bytes) → path ≡ folder → ⊥
    never_stored path bytes stored same = let e : Some (Stored bytes) ≡ Some Directory = sym stored ∙ (ap sights same ∙ was) in absurd (cc)

    file_below : (text url : List ℕ) → url_in folder text ≡ Some url → begins url (file_text folder true) ≡ true
        → NamesFile sights later url → HasFileBelow sights later folder
    file_below text url e within names =
        elim (urls_inside folder text url names.path is deep (sees.small folder Directory was) e within names.named) [
          | inl same ↦ absurd (never_stored names.path names.bytes names.stored same)
          | inr above ↦ record {
            path = names.path;
            is_looked_at = names.is_looked_at;
            bytes = names.bytes;
            stored = names.stored;
            above = above;
          }
        ]

    url_below : (text : List ℕ) (rest : Resolving Url) (url : Option Url) → Contains index_files text
        → url_in folder (codes "./" ++ text) ≡ url
        → (IsFine sights later (outcome sights rest) → HasFileBelow sights later folder)
        → IsFine sights later (outcome sights (file_or rest url)) → HasFileBelow sights later folder
    url_below text rest None held e more fine = more fine
    url_below text rest (Some url) held e more fine =
        cond_both (serves url (outcome sights (look_at_url url))) (gives url) rest
        (λ a. IsFine sights later (outcome sights a) → HasFileBelow sights later folder)
        (λ served names.
        file_below (codes "./" ++ text) url e
        (index_inside folder text url is deep (sees.small folder Directory was) held e) names)
        (λ passed is_fine. more is_fine)
        (subst (IsFine sights later)
        (outcome_then sights (look_at_url url) (λ found. if serves url found then gives url else rest)) fine)

    index_below : (texts : List (List ℕ)) → ((text : List ℕ) → Contains texts text → Contains index_files text)
        → IsFine sights later (outcome sights (first_file folder texts)) → HasFileBelow sights later folder
    index_below [] all fine = absurd (cc)
    index_below (text ∷ more) all fine =
        url_below text (first_file folder more) (url_in folder (codes "./" ++ text)) (all text (contains_here text more))
        refl (index_below more (λ t held. all t (contains_there t text more held))) fine

    inside_below : (subpath : List ℕ) (url : Option Url) → url_in folder subpath ≡ url
        → IsFine sights later (outcome sights (inside folder url)) → HasFileBelow sights later folder
    inside_below subpath None e fine = absurd (cc)
    inside_below subpath (Some url) e fine =
        cond_both (begins url (file_text folder true)) (gives url) (refuses InvalidSpecifier)
        (λ a. IsFine sights later (outcome sights a) → HasFileBelow sights later folder)
        (λ within names. file_below subpath url e within names) (λ out wrong. absurd (cc)) fine

    files_below : (subpath : List ℕ) → IsFine sights later (outcome sights (by_files folder subpath None))
        → HasFileBelow sights later folder
    files_below subpath fine =
        cond_both (bytes_eq subpath (codes ".")) (first_file folder index_files) (inside folder (url_in folder subpath))
        (λ a. IsFine sights later (outcome sights a) → HasFileBelow sights later folder)
        (λ e. index_below index_files (λ text held. held)) (λ e. inside_below subpath (url_in folder subpath) refl) fine

    is_parent : IsAbove folder (package_json folder)
    is_parent = parent_of folder (package_json folder)
        (record { name = codes "package.json"; segment = package_json_segment; is_path = is; text = refl })

    module _ (conditions : List (List ℕ)) (subpath : List ℕ) where
      abbrev behind_record : Option Entry → Resolving Url
      behind_record found = on_ok (by_record conditions folder subpath) (record_of_entry found)

      by_found : (found : Option Entry) → sights (package_json folder) ≡ found
          → IsFine sights later (outcome sights (behind_record found))
          → HasFileBelow sights (package_json folder ∷ (looks sights (behind_record found) ++ later)) folder
      by_found None e fine =
          below_more sights later _ folder
          (λ p held. contains_there p (package_json folder) _ (Contains-append_right (looks sights (behind_record None)) later p held))
          (files_below subpath fine)
      by_found (Some Directory) e fine =
          below_more sights later _ folder
          (λ p held. contains_there p (package_json folder) _ (Contains-append_right (looks sights (behind_record None)) later p held))
          (files_below subpath fine)
      by_found (Some (Stored bytes)) e fine = record {
        path = package_json folder;
        is_looked_at = contains_here (package_json folder) _;
        bytes = bytes;
        stored = e;
        above = is_parent;
      }

      folder_below : IsFine sights later (outcome sights (in_folder conditions subpath (Some folder)))
          → HasFileBelow sights (looks sights (in_folder conditions subpath (Some folder)) ++ later) folder
      folder_below fine =
          cond_both (is_path (package_json folder)) (ask (package_json folder) answered) (answered None)
          (λ look.
          IsFine sights later (outcome sights (and_ok (and_then look (λ found. answered (record_of_entry found))) (by_record conditions folder subpath)))
          → HasFileBelow sights
          (looks sights (and_ok (and_then look (λ found. answered (record_of_entry found))) (by_record conditions folder subpath)) ++ later)
          folder)
          (λ path is_fine. by_found (sights (package_json folder)) refl is_fine)
          (λ no_path is_fine.
          below_more sights later _ folder
          (λ p held. Contains-append_right (looks sights (behind_record None)) later p held)
          (files_below subpath is_fine))
          fine

  -- ---- the nearest folder of a package

  module _ (later : List (List ℕ)) (name : List ℕ) where
    -- behind the folder that is found a file stands
    abbrev IsBelowFound : LookAsking (Option (List ℕ)) → Type 0
    IsBelowFound asking =
        (found : List ℕ) → outcome sights asking ≡ Some found → IsPath (package_at name found)
        → sights (package_at name found) ≡ Some Directory → HasFileBelow sights later (package_at name found)

    abbrev goes : List ℕ → LookAsking (Option (List ℕ)) → Bool → LookAsking (Option (List ℕ))
    goes folder rest accepted = if accepted then answered (Some folder) else rest

    at_place : (folder : List ℕ) (rest : LookAsking (Option (List ℕ))) (found : Option Entry)
        → IsPath (package_at name folder) → sights (package_at name folder) ≡ found
        → IsBelowFound (goes folder rest (is_folder found)) → (IsBelowFound rest → Spares sights later rest)
        → (found ≡ Some Directory → (rest ≡ answered (Some folder))
        ⊎ HasFileBelow sights (looks sights (goes folder rest (is_folder found)) ++ later) (package_at name folder))
        × Spares sights later (goes folder rest (is_folder found))
    at_place folder rest None path e below more = ((λ was. absurd (cc)), more below)
    at_place folder rest (Some (Stored bytes)) path e below more = ((λ was. absurd (cc)), more below)
    at_place folder rest (Some Directory) path e below more = ((λ was. inr (below folder refl path e)), tt)

    nearest_spares : (folders : List (List ℕ)) → IsBelowFound (nearest_in (packages name) folders)
        → Spares sights later (nearest_in (packages name) folders)
    nearest_spares [] below = tt
    nearest_spares (folder ∷ above) below =
        let place : List ℕ = package_at name folder in
        let rest : LookAsking (Option (List ℕ)) = nearest_in (packages name) above in
        cond_both (is_path place) (ask place answered) (answered None)
        (λ look. IsBelowFound (and_then (and_then look (λ f. answered (is_folder f))) (goes folder rest))
        → Spares sights later (and_then (and_then look (λ f. answered (is_folder f))) (goes folder rest)))
        (λ path is_below.
        at_place folder rest (sights place) (path_by_test place path) refl is_below (nearest_spares above))
        (λ no_path is_below. nearest_spares above is_below) below

  -- ---- bare specifiers

  ignoring_inside : (folder : List ℕ) (url : Option Url) → IgnoresFolders (inside folder url)
  ignoring_inside folder None = tt
  ignoring_inside folder (Some url) = ignoring_choice (begins url (file_text folder true)) _ _ tt tt

  ignoring_by_files : (folder subpath : List ℕ) (main : Option (List ℕ)) → IgnoresFolders (by_files folder subpath main)
  ignoring_by_files folder subpath main =
      ignoring_choice (bytes_eq subpath (codes ".")) (main_file folder main) (inside folder (url_in folder subpath))
      (ignoring_files folder (main_files main)) (ignoring_inside folder (url_in folder subpath))

  ignoring_by_record : (conditions : List (List ℕ)) (folder subpath : List ℕ) (read : Result (Option Record) Refusal)
      → IgnoresFolders (on_ok (by_record conditions folder subpath) read)
  ignoring_by_record conditions folder subpath (Err refusal) = tt
  ignoring_by_record conditions folder subpath (Ok None) = ignoring_by_files folder subpath None
  ignoring_by_record conditions folder subpath (Ok (Some of_package)) =
      ignoring_choice (is_null of_package.exports) (by_files folder subpath of_package.main)
      (exported conditions folder subpath of_package.exports) (ignoring_by_files folder subpath of_package.main)
      (ignoring_exported sights conditions folder subpath of_package.exports)

  ignoring_in_folder : (conditions : List (List ℕ)) (subpath : List ℕ) (folder : Option (List ℕ))
      → IgnoresFolders (in_folder conditions subpath folder)
  ignoring_in_folder conditions subpath None = tt
  ignoring_in_folder conditions subpath (Some folder) =
      ignoring_then (record_at folder) (on_ok (by_record conditions folder subpath)) (ignoring_record folder)
      (ignoring_by_record conditions folder subpath)

  modules_pass : (conditions : List (List ℕ)) (from : List ℕ) (asked : Subpath)
      → Passes sights (in_modules conditions from asked)
  modules_pass conditions from asked later fine =
      let name : List ℕ = asked.name in
      let search : LookAsking (Option (List ℕ)) = nearest (packages name) from in
      let as_package : Option (List ℕ) → LookAsking (Option (List ℕ)) =
      λ found. answered (option_map (package_at name) found) in
      let is : outcome sights (package_folder from name) ≡ option_map (package_at name) (outcome sights search) =
      outcome_then sights search as_package in
      let at : Option (List ℕ) = outcome sights (package_folder from name) in
      let end : IsFine sights later (outcome sights (in_folder conditions asked.subpath at)) =
      subst (IsFine sights later) (outcome_then sights (package_folder from name) (in_folder conditions asked.subpath)) fine in
      let behind : List (List ℕ) = looks sights (in_folder conditions asked.subpath at) ++ later in
      spares_then sights later (package_folder from name) (in_folder conditions asked.subpath)
      (spares_then sights behind search as_package
      (nearest_spares behind name (folders_from from)
      (λ found e path was.
      let there : at ≡ Some (package_at name found) = is ∙ ap (option_map (package_at name)) e in
      subst (λ o. HasFileBelow sights (looks sights (in_folder conditions asked.subpath o) ++ later) (package_at name found))
      (sym there)
      (folder_below later (package_at name found) path (never_root found name) was conditions asked.subpath
      (subst (λ o. IsFine sights later (outcome sights (in_folder conditions asked.subpath o))) there end))))
      tt)
      (ignoring_spares sights later (in_folder conditions asked.subpath at) (ignoring_in_folder conditions asked.subpath at))

  ignoring_passes : (asking : Resolving Url) → IgnoresFolders asking → Passes sights asking
  ignoring_passes asking ignores later fine = ignoring_spares sights later asking ignores

  self_passes : (rest : Resolving Url) (conditions : List (List ℕ)) (scope : List ℕ) (asked : Subpath)
      → Passes sights rest → (read : Option Record) → Passes sights (self_in rest conditions scope asked read)
  self_passes rest conditions scope asked passes None = passes
  self_passes rest conditions scope asked passes (Some of_scope) =
      pass_choice (has_name of_scope.name asked.name && not (is_null of_scope.exports))
      (exported conditions scope asked.subpath of_scope.exports) rest
      (ignoring_passes _ (ignoring_exported sights conditions scope asked.subpath of_scope.exports)) passes

  self_at_passes : (rest : Resolving Url) (conditions : List (List ℕ)) (asked : Subpath) → Passes sights rest
      → (scope : Option (List ℕ)) → Passes sights (self_at rest conditions asked scope)
  self_at_passes rest conditions asked passes None = passes
  self_at_passes rest conditions asked passes (Some scope) =
      pass_ok (record_at scope) (self_in rest conditions scope asked) (ignoring_record scope)
      (self_passes rest conditions scope asked passes)

  name_passes : (conditions : List (List ℕ)) (from : List ℕ) (asked : Subpath)
      → Passes sights (by_name conditions from asked)
  name_passes conditions from asked =
      pass_choice (is_package_name asked.name) (self_or (in_modules conditions from asked) conditions from asked)
      (refuses InvalidSpecifier)
      (pass_then (package_scope from) (self_at (in_modules conditions from asked) conditions asked) (ignoring_scope from)
      (self_at_passes (in_modules conditions from asked) conditions asked (modules_pass conditions from asked)))
      (λ later fine. tt)

  pub package_passes : (conditions : List (List ℕ)) (from text : List ℕ)
      → Passes sights (package_resolve conditions from text)
  package_passes conditions from text =
      pass_choice (bytes_eq text []) (refuses InvalidSpecifier) _ (λ later fine. tt)
      (pass_choice (is_builtin text) (refuses Builtin) _ (λ later fine. tt)
      (pass_choice (ends_in_slash text) (refuses InvalidSpecifier) _ (λ later fine. tt)
      (pass_choice (lacks_name text) (refuses InvalidSpecifier) _ (λ later fine. tt)
      (name_passes conditions from (split_at (name_length text) text)))))
