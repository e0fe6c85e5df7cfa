-- What a package exports (Node.js, ECMAScript modules: PACKAGE_EXPORTS_RESOLVE).
--     exported conditions folder subpath exports      the URL that the package at a folder gives for a subpath, which
--         is `.` or begins with `./`
--     is_dotted key, has_dotted members      the key begins with `.`; a key of the members does
--     export_rules conditions      what a target in `exports` is judged by, where nothing stands for `*`
--     main_target conditions folder target      the URL that this target of `.` gives
--     export_paths conditions folder members      the members of `exports`, as an object of subpaths
--     is_mixed_object exports      an object with both a key that begins with `.` and one that doesn't
use Rattle.std.specs.Prelude.{◌&&◌, not, ℕ, Bool, false, List, codes, bytes_eq, if◌then◌else◌, None}
use Rattle.std.specs.List.{list_any, list_all}
use Rattle.json_spec.specs.Value.{Json, a_null, a_bool, a_number, a_text, a_list, an_object, Members, names_of}
use Rattle.url_spec.specs.Specifiers.{begins}
use Rattle.node_spec.specs.NodeAnswers.{Url, Resolving, refuses}
use Rattle.node_spec.specs.PackageImportsExportsResolve.{Subpaths, by_key}
use Rattle.node_spec.specs.PackageTargetResolve.{no_bares, package_target}
use Rattle.node_spec.specs.PackageTargets.{Rules}
use Rattle.node_spec.specs.Records.{field}
use Rattle.node_spec.specs.declared.Cause.TheVariants.{NotExported, InvalidConfig}

abbrev pub is_dotted : List ℕ → Bool
is_dotted key = begins key (codes ".")

abbrev pub has_dotted : Members → Bool
has_dotted members = list_any is_dotted (names_of members)

-- "If exports is an Object with both a key starting with "." and a key not starting with ".""
abbrev pub is_mixed : Members → Bool
is_mixed members = has_dotted members && list_any (λ key. not (is_dotted key)) (names_of members)

abbrev pub export_rules : List (List ℕ) → Rules
export_rules conditions = record { conditions = conditions; pattern_match = None; is_imports = false }

abbrev pub main_target : List (List ℕ) → List ℕ → Json → Resolving Url
main_target conditions folder target = package_target no_bares (export_rules conditions) folder NotExported target

abbrev pub export_paths : List (List ℕ) → List ℕ → Members → Subpaths
export_paths conditions folder members = record {
  bares = no_bares;
  conditions = conditions;
  is_imports = false;
  folder = folder;
  nothing = NotExported;
  members = members;
}

-- "If subpath is equal to ".""
abbrev pub main_export : List (List ℕ) → List ℕ → Json → Resolving Url
main_export conditions folder a_null = refuses NotExported
main_export conditions folder (a_bool b) = refuses NotExported
main_export conditions folder (a_number number) = refuses NotExported
main_export conditions folder (a_text text) = main_target conditions folder (a_text text)
main_export conditions folder (a_list items) = main_target conditions folder (a_list items)
main_export conditions folder (an_object members) =
    main_target conditions folder (if has_dotted members then field (codes ".") members else an_object members)

-- "Otherwise, if exports is an Object and all keys of exports start with ".""
abbrev pub subpath_export : List (List ℕ) → List ℕ → List ℕ → Json → Resolving Url
subpath_export conditions folder subpath a_null = refuses NotExported
subpath_export conditions folder subpath (a_bool b) = refuses NotExported
subpath_export conditions folder subpath (a_number number) = refuses NotExported
subpath_export conditions folder subpath (a_text text) = refuses NotExported
subpath_export conditions folder subpath (a_list items) = refuses NotExported
subpath_export conditions folder subpath (an_object members) =
    if list_all is_dotted (names_of members) then by_key (export_paths conditions folder members) subpath
    else refuses NotExported

abbrev pub is_mixed_object : Json → Bool
is_mixed_object a_null = false
is_mixed_object (a_bool b) = false
is_mixed_object (a_number number) = false
is_mixed_object (a_text text) = false
is_mixed_object (a_list items) = false
is_mixed_object (an_object members) = is_mixed members

abbrev pub exported : List (List ℕ) → List ℕ → List ℕ → Json → Resolving Url
exported conditions folder subpath exports =
    if is_mixed_object exports then refuses InvalidConfig
    else if bytes_eq subpath (codes ".") then main_export conditions folder exports
    else subpath_export conditions folder subpath exports
