-- The format of a file (Node.js, ECMAScript modules: ESM_FILE_FORMAT).
--     Format                    what is known of the format before the file's text is read
--     file_format path          the asking for it
--     format_of_kind kind       the format of a `.js` file, by the kind of its package
--     format_by_record read     the same by what is read at its scope: a record, none, or a refusal
--     format_in scope           the asking for the same in a scope, or where there is none
use Rattle.std.specs.Prelude.{ℕ, nat_eq, Bool, List, codes, if◌then◌else◌, Option, Some, None, Result, Ok, Err}
use Rattle.std.specs.List.{ends_with}
use Rattle.asking_spec.specs.Askings.{answered, and_then}
use Rattle.tree_spec.specs.FoldersAbove.{folder_of}
use Rattle.node_spec.specs.LookupPackageScope.{package_scope}
use Rattle.node_spec.specs.NodeAnswers.{Refusal, by_cause, too_deep, Resolving, gives}
use Rattle.node_spec.specs.ReadPackageJson.{record_at}
use Rattle.node_spec.specs.Records.{Record}
use Rattle.node_spec.specs.declared.PackageKind.{PackageKind}
use Rattle.node_spec.specs.declared.PackageKind.TheVariants as kind

-- own: `IsDetected`: the file's own text decides. `HasBadConfig`: the package.json of its scope isn't well formed
pub data Format : Type 0 where
  IsModule : Format
  IsDetected : Format
  IsCommonJs : Format
  IsJson : Format
  IsAddon : Format
  HasBadConfig : Format
  IsOther : Format

abbrev pub format_of_kind : PackageKind → Format
format_of_kind kind.Module = IsModule
format_of_kind kind.CommonJs = IsCommonJs
format_of_kind kind.Unstated = IsDetected

abbrev pub format_by_record : Result (Option Record) Refusal → Result Format Refusal
format_by_record (Ok None) = Ok IsDetected
format_by_record (Ok (Some of_scope)) = Ok (format_of_kind of_scope.kind)
format_by_record (Err (by_cause cause)) = Ok HasBadConfig
format_by_record (Err too_deep) = Err too_deep

abbrev pub format_in : Option (List ℕ) → Resolving Format
format_in None = gives IsDetected
format_in (Some scope) = and_then (record_at scope) (λ held. answered (format_by_record held))

-- the name of the file has this ending
abbrev pub has_ending : List ℕ → List ℕ → Bool
has_ending path ending = ends_with nat_eq path ending

-- own: a name without an ending, or with another one, is none of these
abbrev pub file_format : List ℕ → Resolving Format
file_format path =
    if has_ending path (codes ".mjs") then gives IsModule
    else if has_ending path (codes ".cjs") then gives IsCommonJs
    else if has_ending path (codes ".json") then gives IsJson
    else if has_ending path (codes ".node") then gives IsAddon
    else if has_ending path (codes ".js") then and_then (package_scope (folder_of path)) format_in
    else gives IsOther
