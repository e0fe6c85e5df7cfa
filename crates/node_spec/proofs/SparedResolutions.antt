-- A resolution that comes to a module, and the source of a module, spare what is left out.
use Rattle.std.proofs.Common.{◌≡◌, ◌++◌, ℕ, List, Bool, Option, Some, None, refl, sym, ap, ◌∙◌, subst}
use Rattle.std.specs.Prelude.{if◌then◌else◌, ◌||◌, codes, bytes_eq, Ok}
use Rattle.std.proofs.lemmas.Bool.{cond_both}
use Rattle.asking_spec.specs.Askings.{answered, ask, outcome, and_then, on_ok}
use Rattle.asking_spec.proofs.AskingLemmas.{ok_parts}
use Rattle.json_spec.specs.Value.{Json, a_null, a_bool, a_number, a_text, a_list, an_object, names_of, Members}
use Rattle.tree_spec.proofs.Contained.{contains_here}
use Rattle.tree_spec.specs.LookAskings.{Sights, LookAsking, looks}
use Rattle.tree_spec.specs.FoldersAbove.{folder_of}
use Rattle.tree_spec.specs.declared.Entry.{Entry}
use Rattle.tree_spec.specs.declared.Entry.TheVariants.{Stored, Directory}
use Rattle.url_spec.specs.FileUrls.{url_path, escapes_separator}
use Rattle.url_spec.specs.Schemes.{scheme_of}
use Rattle.url_spec.specs.Specifiers.{begins, ends_in_slash, is_relative}
use Rattle.node_spec.specs.EsmFileFormat.{file_format, has_ending, format_in, format_by_record}
use Rattle.node_spec.specs.EsmResolve.{judged, no_url, by_scheme, specifier_url, node}
use Rattle.node_spec.specs.FileLooks.{without_host, check_url}
use Rattle.node_spec.specs.LookupPackageScope.{package_scope}
use Rattle.node_spec.specs.NodeAnswers.{Url, Module, Resolving, refuses, as_node}
use Rattle.node_spec.specs.PackageImportsExportsResolve.{at_key, rules_for}
use Rattle.node_spec.specs.PackageImportsResolve.{import_paths, imported, imported_in, imported_at, imports_resolve}
use Rattle.node_spec.specs.PackageResolve.{package_resolve}
use Rattle.node_spec.specs.PatternKeyCompare.{KeyFound, first_key}
use Rattle.node_spec.specs.ReadPackageJson.{record_at}
use Rattle.node_spec.specs.Records.{Record, field}
use Rattle.node_spec.specs.RelativeResolution.{named_path, judged_at, entry_judged}
use Rattle.node_spec.specs.Resolution.{Answer, Refused, joined_url}
use Rattle.node_spec.specs.declared.Cause.TheVariants.{InvalidSpecifier, ImportNotDefined, Builtin, ExternalUrl}
use Rattle.tree_spec.specs.LeftOutFolders.{Spares, IgnoresFolders}
use Rattle.tree_spec.proofs.LeftOutFolders.{ignoring_then, spares_then}
use Rattle.node_spec.proofs.SparedAnswers.{NamesFile, IsFine, Passes}
use Rattle.node_spec.specs.Laws.{SeesBytes, NodeSpares, FormatIgnoresFolders}
use Rattle.node_spec.proofs.IgnoredFolders.{ignoring_scope, ignoring_record, ignoring_choice}
use Rattle.node_spec.proofs.SparedTargets.{package_target_passes}
use Rattle.node_spec.proofs.SparedPackages as packages

-- ---- a format tells no folder from nothing

pub ignoring_format_in : (scope : Option (List ℕ)) → IgnoresFolders (format_in scope)
ignoring_format_in None = tt
ignoring_format_in (Some scope) =
    ignoring_then (record_at scope) (λ held. answered (format_by_record held)) (ignoring_record scope) (λ held. tt)

pub ignoring_format : (path : List ℕ) → IgnoresFolders (file_format path)
ignoring_format path =
    ignoring_choice (has_ending path (codes ".mjs")) _ _ tt
    (ignoring_choice (has_ending path (codes ".cjs")) _ _ tt
    (ignoring_choice (has_ending path (codes ".json")) _ _ tt
    (ignoring_choice (has_ending path (codes ".node")) _ _ tt
    (ignoring_choice (has_ending path (codes ".js")) (and_then (package_scope (folder_of path)) format_in) _
    (ignoring_then (package_scope (folder_of path)) format_in (ignoring_scope (folder_of path)) ignoring_format_in) tt))))

module _ (sights : Sights) (sees : SeesBytes sights) where
  pass_choice : (b : Bool) (x y : Resolving Url) → Passes sights x → Passes sights y
      → Passes sights (if b then x else y)
  pass_choice = packages.pass_choice sights sees

  -- ---- specifiers that begin with `#`

  key_passes : (conditions : List (List ℕ)) (scope text : List ℕ) (members : Members) (chosen : Option KeyFound)
      → Passes sights (at_key (import_paths conditions scope members) text chosen)
  key_passes conditions scope text fields None later fine = tt
  key_passes conditions scope text fields (Some chosen) later fine =
      package_target_passes sights (package_resolve conditions scope)
      (packages.package_passes sights sees conditions scope)
      (rules_for (import_paths conditions scope fields) text chosen) scope ImportNotDefined (field chosen.key fields)
      later fine

  imported_passes : (conditions : List (List ℕ)) (scope text : List ℕ) (imports : Json)
      → Passes sights (imported conditions scope text imports)
  imported_passes conditions scope text a_null later fine = tt
  imported_passes conditions scope text (a_bool b) later fine = tt
  imported_passes conditions scope text (a_number number) later fine = tt
  imported_passes conditions scope text (a_text target) later fine = tt
  imported_passes conditions scope text (a_list items) later fine = tt
  imported_passes conditions scope text (an_object fields) later fine =
      key_passes conditions scope text fields (first_key text (names_of fields)) later fine

  imported_in_passes : (conditions : List (List ℕ)) (scope text : List ℕ) (read : Option Record)
      → Passes sights (imported_in conditions scope text read)
  imported_in_passes conditions scope text None later fine = tt
  imported_in_passes conditions scope text (Some of_scope) later fine =
      imported_passes conditions scope text of_scope.imports later fine

  imported_at_passes : (conditions : List (List ℕ)) (text : List ℕ) (scope : Option (List ℕ))
      → Passes sights (imported_at conditions text scope)
  imported_at_passes conditions text None later fine = tt
  imported_at_passes conditions text (Some scope) later fine =
      packages.pass_ok sights sees (record_at scope) (imported_in conditions scope text)
      (ignoring_record scope) (imported_in_passes conditions scope text) later fine

  imports_pass : (conditions : List (List ℕ)) (from text : List ℕ) → Passes sights (imports_resolve conditions from text)
  imports_pass conditions from text =
      pass_choice (bytes_eq text (codes "#") || (begins text (codes "#/") || ends_in_slash text))
      (refuses InvalidSpecifier) (and_then (package_scope from) (imported_at conditions text)) (λ later fine. tt)
      (packages.pass_then sights sees (package_scope from) (imported_at conditions text)
      (ignoring_scope from) (imported_at_passes conditions text))

  -- ---- all specifiers

  check_passes : (url : Option Url) → Passes sights (check_url url)
  check_passes None later fine = tt
  check_passes (Some url) later fine = tt

  no_url_passes : (conditions : List (List ℕ)) (parent specifier : List ℕ)
      → Passes sights (no_url conditions parent specifier)
  no_url_passes conditions parent specifier =
      pass_choice (is_relative specifier) (check_url (without_host (joined_url parent specifier))) _
      (check_passes (without_host (joined_url parent specifier)))
      (pass_choice (begins specifier (codes "#")) (imports_resolve conditions (folder_of parent) specifier)
      (package_resolve conditions (folder_of parent) specifier)
      (imports_pass conditions (folder_of parent) specifier)
      (packages.package_passes sights sees conditions (folder_of parent) specifier))

  scheme_passes : (conditions : List (List ℕ)) (parent specifier : List ℕ) (scheme : Option (List ℕ))
      → Passes sights (by_scheme conditions parent specifier scheme)
  scheme_passes conditions parent specifier None = no_url_passes conditions parent specifier
  scheme_passes conditions parent specifier (Some scheme) =
      pass_choice (bytes_eq scheme (codes "node")) (refuses Builtin) (refuses ExternalUrl) (λ later fine. tt)
      (λ later fine. tt)

  url_passes : (conditions : List (List ℕ)) (parent specifier : List ℕ)
      → Passes sights (specifier_url conditions parent specifier)
  url_passes conditions parent specifier = scheme_passes conditions parent specifier (scheme_of specifier)

  -- ---- what stands at the URL

  abbrev shown : LookAsking Answer → Resolving Module
  shown asking = and_then asking (λ answer. answered (as_node answer))

  record IsJudged (later : List (List ℕ)) (url : Url) (asking : Resolving Module) : Type 0 where
    names : NamesFile sights (looks sights asking ++ later) url
    spares : Spares sights later asking

  at_path : (later : List (List ℕ)) (url path : List ℕ) (m : Module) (found : Option Entry) → named_path url ≡ Some path
      → sights path ≡ found → as_node (entry_judged url path found) ≡ Ok m
      → IsJudged later url (ask path (λ f. answered (as_node (entry_judged url path f))))
  at_path later url path m None named e is = absurd (cc)
  at_path later url path m (Some Directory) named e is = absurd (cc)
  at_path later url path m (Some (Stored bytes)) named e is = record {
    names = record {
      path = path;
      named = named;
      is_looked_at = contains_here path _;
      bytes = bytes;
      stored = e;
    };
    spares = (
      (λ was. let f : Some (Stored bytes) ≡ Some Directory = sym e ∙ was in absurd (cc)),
      tt,
    );
  }

  at_named : (later : List (List ℕ)) (url : Url) (m : Module) (path : Option (List ℕ)) → named_path url ≡ path
      → outcome sights (shown (judged_at url path)) ≡ Ok m → IsJudged later url (shown (judged_at url path))
  at_named later url m None named is = absurd (cc)
  at_named later url m (Some path) named is = at_path later url path m (sights path) named refl is

  judged_is : (later : List (List ℕ)) (url : Url) (m : Module) → outcome sights (judged url) ≡ Ok m
      → IsJudged later url (judged url)
  judged_is later url m =
      cond_both (escapes_separator (url_path url)) (answered (Refused InvalidSpecifier)) (judged_at url (named_path url))
      (λ a. outcome sights (shown a) ≡ Ok m → IsJudged later url (shown a))
      (λ e is. absurd (cc)) (λ e is. at_named later url m (named_path url) refl is)

  -- ---- a resolution that comes to a module

  spares_at : (later : List (List ℕ)) (conditions : List (List ℕ)) (parent specifier : List ℕ) (m : Module)
      → outcome sights (node conditions parent specifier) ≡ Ok m
      → Spares sights later (node conditions parent specifier)
  spares_at later conditions parent specifier m e =
      let asking : Resolving Url = specifier_url conditions parent specifier in
      let parts = ok_parts sights asking judged m e in
      let is = judged_is later parts.value m parts.next_is in
      let goes : on_ok judged (outcome sights asking) ≡ judged parts.value = ap (on_ok judged) parts.first_is in
      spares_then sights later asking (on_ok judged)
      (subst (λ (a : Resolving Module). Spares sights (looks sights a ++ later) asking) (sym goes)
      (url_passes conditions parent specifier (looks sights (judged parts.value) ++ later)
      (subst (IsFine sights (looks sights (judged parts.value) ++ later)) (sym parts.first_is) is.names)))
      (subst (Spares sights later) (sym goes) is.spares)

pub node_spares : NodeSpares
node_spares sights sees later conditions parent specifier found e =
    spares_at sights sees later conditions parent specifier found e

pub format_ignores_folders : FormatIgnoresFolders
format_ignores_folders path = ignoring_format path
