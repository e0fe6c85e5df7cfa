-- The format of a file, as it is answered.
--     IsByEnding path found      the format that the ending of a name decides; none where the package scope does
--     formatted result      of a call that asks for a format: only the limit of brackets is a refusal
use Rattle.std.specs.Prelude.{◌≡◌, ℕ, List, Option, Some, None, Result, Ok, Err}
use Rattle.asking_spec.specs.Askings.{answered, and_then}
use Rattle.tree_spec.specs.FoldersAbove.{folder_of}
use Rattle.node_spec.specs.LookupPackageScope.{package_scope}
use Rattle.node_spec.specs.EsmFileFormat as spec
use Rattle.node_spec.specs.NodeAnswers.{Refusal}
use Rattle.package_lookup.specs.declared.fault.LookupFault.{LookupFault}
use Rattle.package_lookup.specs.declared.format.Format.{Format}
use Rattle.package_lookup.specs.declared.format.Format.TheVariants.{Module, Detect, Not}
use Rattle.node_spec.specs.declared.Reason.{Reason}
use Rattle.node_spec.specs.declared.Reason.TheVariants.{CommonJs, Json, Addon, Other, Config, Unreadable}
use Rattle.package_lookup.specs.Responses.{Response, given, fails, never, by_fault, deep_config}

-- own: that a file can't be read as a module is told by its text, which isn't asked for here
abbrev pub by_reason : Reason → Response (Result spec.Format Refusal)
by_reason CommonJs = given (Ok spec.IsCommonJs)
by_reason Json = given (Ok spec.IsJson)
by_reason Addon = given (Ok spec.IsAddon)
by_reason Other = given (Ok spec.IsOther)
by_reason Config = given (Ok spec.HasBadConfig)
by_reason (Unreadable at) = fails never

abbrev pub by_format : Format → Response (Result spec.Format Refusal)
by_format Module = given (Ok spec.IsModule)
by_format Detect = given (Ok spec.IsDetected)
by_format (Not reason) = by_reason reason

abbrev pub formatted : Result Format LookupFault → Response (Result spec.Format Refusal)
formatted (Ok found) = by_format found
formatted (Err fault) = by_fault (fails never) deep_config fault

-- own: the ending of a file's name decides, or its package scope does
abbrev pub IsByEnding : List ℕ → Option Format → Type 0
IsByEnding path None = spec.file_format path ≡ and_then (package_scope (folder_of path)) spec.format_in
IsByEnding path (Some found) =
    (value : Result spec.Format Refusal) × (by_format found ≡ given value)
    × (spec.file_format path ≡ answered value)
