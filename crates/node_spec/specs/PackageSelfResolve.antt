-- A package that names itself (Node.js, ECMAScript modules: PACKAGE_SELF_RESOLVE).
--     Subpath                   a package's name, with a subpath, which is `.` or begins with `./`
--     is_null value             the value is null, or absent
--     self_or rest conditions from asked      the scope's own answer, where it has the name and exports; else the rest
--     has_name own name         there is a name, and it is this one
--     self_at rest conditions asked scope      what `self_or` comes to by this scope, or by none
use Rattle.std.specs.Prelude.{◌&&◌, not, ℕ, Bool, true, false, List, bytes_eq, if◌then◌else◌, Option, Some, None}
use Rattle.asking_spec.specs.Askings.{and_then, and_ok}
use Rattle.json_spec.specs.Value.{Json, a_null, a_bool, a_number, a_text, a_list, an_object}
use Rattle.node_spec.specs.LookupPackageScope.{package_scope}
use Rattle.node_spec.specs.NodeAnswers.{Url, Resolving}
use Rattle.node_spec.specs.PackageExportsResolve.{exported}
use Rattle.node_spec.specs.ReadPackageJson.{record_at}
use Rattle.node_spec.specs.Records.{Record}

pub record Subpath : Type 0 where
  pub name : List ℕ
  pub subpath : List ℕ

abbrev pub is_null : Json → Bool
is_null a_null = true
is_null (a_bool b) = false
is_null (a_number number) = false
is_null (a_text text) = false
is_null (a_list items) = false
is_null (an_object fields) = false

abbrev pub has_name : Option (List ℕ) → List ℕ → Bool
has_name None name = false
has_name (Some own) name = bytes_eq own name

-- "If pjson.exports is null or undefined"; "If pjson.name is equal to packageName"
abbrev pub self_in : Resolving Url → List (List ℕ) → List ℕ → Subpath → Option Record → Resolving Url
self_in rest conditions scope asked None = rest
self_in rest conditions scope asked (Some of_scope) =
    if has_name of_scope.name asked.name && not (is_null of_scope.exports)
    then exported conditions scope asked.subpath of_scope.exports
    else rest

abbrev pub self_at : Resolving Url → List (List ℕ) → Subpath → Option (List ℕ) → Resolving Url
self_at rest conditions asked None = rest
self_at rest conditions asked (Some scope) = and_ok (record_at scope) (self_in rest conditions scope asked)

abbrev pub self_or : Resolving Url → List (List ℕ) → List ℕ → Subpath → Resolving Url
self_or rest conditions from asked = and_then (package_scope from) (self_at rest conditions asked)
