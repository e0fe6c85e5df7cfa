-- A package that names itself, apart from what goes on where it doesn't.
--     named_itself conditions from asked      the URL that the scope gives, where it has the name and exports
--     found_or rest found                     the URL that was found, else the rest
use Rattle.std.specs.Prelude.{◌&&◌, not, ℕ, List, if◌then◌else◌, Option, Some, None}
use Rattle.asking_spec.specs.Askings.{and_then, and_ok}
use Rattle.node_spec.specs.LookupPackageScope.{package_scope}
use Rattle.node_spec.specs.NodeAnswers.{Url, Resolving, gives}
use Rattle.node_spec.specs.PackageExportsResolve.{exported}
use Rattle.node_spec.specs.PackageSelfResolve.{Subpath, has_name, is_null}
use Rattle.node_spec.specs.ReadPackageJson.{record_at}
use Rattle.node_spec.specs.Records.{Record}

abbrev pub found_or : Resolving Url → Option Url → Resolving Url
found_or rest None = rest
found_or rest (Some url) = gives url

abbrev pub gives_some : Url → Resolving (Option Url)
gives_some url = gives (Some url)

abbrev pub named_itself_in : List (List ℕ) → List ℕ → Subpath → Option Record → Resolving (Option Url)
named_itself_in conditions scope asked None = gives None
named_itself_in conditions scope asked (Some of_scope) =
    if has_name of_scope.name asked.name && not (is_null of_scope.exports)
    then and_ok (exported conditions scope asked.subpath of_scope.exports) gives_some
    else gives None

abbrev pub named_itself_at : List (List ℕ) → Subpath → Option (List ℕ) → Resolving (Option Url)
named_itself_at conditions asked None = gives None
named_itself_at conditions asked (Some scope) = and_ok (record_at scope) (named_itself_in conditions scope asked)

abbrev pub named_itself : List (List ℕ) → List ℕ → Subpath → Resolving (Option Url)
named_itself conditions from asked = and_then (package_scope from) (named_itself_at conditions asked)
