-- A specifier that begins with `#` (Node.js, ECMAScript modules: PACKAGE_IMPORTS_RESOLVE).
--     imports_resolve conditions from text      the URL that the scope's `imports` gives for it
--     import_paths conditions scope members      the members of the scope's `imports`, as an object of subpaths
--     imported_in conditions scope text record      the URL that the scope's record gives; ImportNotDefined without one
--     imported_at conditions text scope      the same by the record that is read at the scope; ImportNotDefined without
--         a scope
use Rattle.std.specs.Prelude.{◌||◌, ℕ, true, List, codes, bytes_eq, if◌then◌else◌, Option, Some, None}
use Rattle.asking_spec.specs.Askings.{and_then, and_ok}
use Rattle.json_spec.specs.Value.{Json, a_null, a_bool, a_number, a_text, a_list, an_object, Members}
use Rattle.url_spec.specs.Specifiers.{begins, ends_in_slash}
use Rattle.node_spec.specs.LookupPackageScope.{package_scope}
use Rattle.node_spec.specs.NodeAnswers.{Url, Resolving, refuses}
use Rattle.node_spec.specs.PackageImportsExportsResolve.{Subpaths, by_key}
use Rattle.node_spec.specs.PackageResolve.{package_resolve}
use Rattle.node_spec.specs.PackageTargetResolve.{Bares, Found, judge_bare}
use Rattle.node_spec.specs.ReadPackageJson.{record_at}
use Rattle.node_spec.specs.Records.{Record}
use Rattle.node_spec.specs.declared.Cause.TheVariants.{InvalidSpecifier, ImportNotDefined}

-- PACKAGE_TARGET_RESOLVE: a bare target is resolved from the package's folder
abbrev pub bares_from : List (List ℕ) → List ℕ → Bares Found
bares_from conditions folder = record { ask = package_resolve conditions folder; judge = judge_bare }

abbrev pub import_paths : List (List ℕ) → List ℕ → Members → Subpaths
import_paths conditions scope members = record {
  bares = bares_from conditions scope;
  conditions = conditions;
  is_imports = true;
  folder = scope;
  nothing = ImportNotDefined;
  members = members;
}

-- "If pjson.imports is a non-null Object"
abbrev pub imported : List (List ℕ) → List ℕ → List ℕ → Json → Resolving Url
imported conditions scope text a_null = refuses ImportNotDefined
imported conditions scope text (a_bool b) = refuses ImportNotDefined
imported conditions scope text (a_number number) = refuses ImportNotDefined
imported conditions scope text (a_text target) = refuses ImportNotDefined
imported conditions scope text (a_list items) = refuses ImportNotDefined
imported conditions scope text (an_object members) = by_key (import_paths conditions scope members) text

abbrev pub imported_in : List (List ℕ) → List ℕ → List ℕ → Option Record → Resolving Url
imported_in conditions scope text None = refuses ImportNotDefined
imported_in conditions scope text (Some of_scope) = imported conditions scope text of_scope.imports

abbrev pub imported_at : List (List ℕ) → List ℕ → Option (List ℕ) → Resolving Url
imported_at conditions text None = refuses ImportNotDefined
imported_at conditions text (Some scope) = and_ok (record_at scope) (imported_in conditions scope text)

-- "If specifier is exactly equal to "#" or starts with "#/"". own: nor may it end in `/`
abbrev pub imports_resolve : List (List ℕ) → List ℕ → List ℕ → Resolving Url
imports_resolve conditions from text =
    if bytes_eq text (codes "#") || (begins text (codes "#/") || ends_in_slash text) then refuses InvalidSpecifier
    else and_then (package_scope from) (imported_at conditions text)
