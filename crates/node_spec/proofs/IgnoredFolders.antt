-- Searches, records and main files tell no folder from nothing.
use Rattle.std.proofs.Common.{◌≡◌, ◌++◌, [], ◌∷◌, ℕ, List, Bool, Option, Some, None, refl}
use Rattle.std.specs.Prelude.{if◌then◌else◌, codes}
use Rattle.std.proofs.lemmas.Bool.{cond_both}
use Rattle.asking_spec.specs.Askings.{answered, ask, and_then}
use Rattle.tree_spec.specs.LookAskings.{LookAsking}
use Rattle.tree_spec.specs.FoldersAbove.{folders_from}
use Rattle.tree_spec.specs.declared.Entry.{Entry}
use Rattle.tree_spec.specs.declared.Entry.TheVariants.{Directory}
use Rattle.url_spec.specs.FileUrls.{url_path, escapes_separator}
use Rattle.url_spec.specs.PathTests.{is_path}
use Rattle.node_spec.specs.FileLooks.{look_at_text, look_at_named, look_at_url, url_in}
use Rattle.node_spec.specs.LegacyMainResolve.{serves, file_or, first_file}
use Rattle.node_spec.specs.LookupPackageScope.{scopes, package_scope, package_json}
use Rattle.node_spec.specs.Nearest.{nearest_in}
use Rattle.node_spec.specs.NodeAnswers.{Url, Resolving, gives}
use Rattle.node_spec.specs.ReadPackageJson.{record_at, record_of_entry}
use Rattle.node_spec.specs.RelativeResolution.{named_path}
use Rattle.tree_spec.specs.LeftOutFolders.{IgnoresFolders}

-- ---- a look that is passed on to what doesn't tell

pub ignoring_text : {X : Type 0} (text : List ℕ) (next : Option Entry → LookAsking X) → next None ≡ next (Some Directory)
    → ((found : Option Entry) → IgnoresFolders (next found)) → IgnoresFolders (and_then (look_at_text text) next)
ignoring_text text next same each =
    cond_both (is_path text) (ask text answered) (answered None) (λ look. IgnoresFolders (and_then look next))
    (λ path. (same, each)) (λ no_path. each None)

ignoring_named : {X : Type 0} (path : Option (List ℕ)) (next : Option Entry → LookAsking X)
    → next None ≡ next (Some Directory) → ((found : Option Entry) → IgnoresFolders (next found))
    → IgnoresFolders (and_then (look_at_named path) next)
ignoring_named None next same each = each None
ignoring_named (Some path) next same each = (same, each)

ignoring_url : {X : Type 0} (url : Url) (next : Option Entry → LookAsking X) → next None ≡ next (Some Directory)
    → ((found : Option Entry) → IgnoresFolders (next found)) → IgnoresFolders (and_then (look_at_url url) next)
ignoring_url url next same each =
    cond_both (escapes_separator (url_path url)) (answered None) (look_at_named (named_path url))
    (λ look. IgnoresFolders (and_then look next)) (λ escapes. each None) (λ none. ignoring_named (named_path url) next same each)

-- ---- a choice

pub ignoring_choice : {X : Type 0} (b : Bool) (x y : LookAsking X) → IgnoresFolders x → IgnoresFolders y → IgnoresFolders (if b then x else y)
ignoring_choice b x y p q = cond_both b x y IgnoresFolders (λ e. p) (λ e. q)

-- ---- scopes, records and main files

ignoring_scopes : (folders : List (List ℕ)) → IgnoresFolders (nearest_in scopes folders)
ignoring_scopes [] = tt
ignoring_scopes (folder ∷ above) =
    ignoring_choice (scopes.ends_at folder) (answered None) _ tt
    (cond_both (is_path (package_json folder)) (ask (package_json folder) answered) (answered None)
    (λ look. IgnoresFolders (and_then (and_then look (λ found. answered (scopes.accepts found)))
    (λ accepted. if accepted then answered (Some folder) else nearest_in scopes above)))
    (λ path. (
      refl,
      (λ found. ignoring_choice (scopes.accepts found) (answered (Some folder)) (nearest_in scopes above) tt
          (ignoring_scopes above)),
    ))
    (λ no_path. ignoring_scopes above))

pub ignoring_scope : (from : List ℕ) → IgnoresFolders (package_scope from)
ignoring_scope from = ignoring_scopes (folders_from from)

pub ignoring_record : (folder : List ℕ) → IgnoresFolders (record_at folder)
ignoring_record folder = ignoring_text (package_json folder) (λ found. answered (record_of_entry found)) refl (λ found. tt)

ignoring_file_or : (rest : Resolving Url) (url : Option Url) → IgnoresFolders rest → IgnoresFolders (file_or rest url)
ignoring_file_or rest None ignores = ignores
ignoring_file_or rest (Some url) ignores =
    ignoring_url url (λ found. if serves url found then gives url else rest) refl
    (λ found. ignoring_choice (serves url found) (gives url) rest tt ignores)

pub ignoring_files : (folder : List ℕ) (texts : List (List ℕ)) → IgnoresFolders (first_file folder texts)
ignoring_files folder [] = tt
ignoring_files folder (text ∷ more) =
    ignoring_file_or (first_file folder more) (url_in folder (codes "./" ++ text)) (ignoring_files folder more)
