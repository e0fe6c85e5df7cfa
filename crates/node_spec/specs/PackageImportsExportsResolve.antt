-- The target of a key in an object of subpaths (Node.js, ECMAScript modules: PACKAGE_IMPORTS_EXPORTS_RESOLVE).
--     Subpaths                  an object in the record of the package at a folder, under these conditions
--     by_key subpaths asked     the URL of the target of the key that is taken
--     rules_for subpaths asked chosen      what the target of the key that is taken is judged by
--     at_key subpaths asked chosen      the URL of that target; the cause `nothing` where no key is taken
use Rattle.std.specs.Prelude.{ℕ, Bool, List, Option, Some, None}
use Rattle.json_spec.specs.Value.{Members, names_of}
use Rattle.node_spec.specs.NodeAnswers.{Url, Resolving, refuses}
use Rattle.node_spec.specs.PackageTargetResolve.{Bares, Found, package_target}
use Rattle.node_spec.specs.PackageTargets.{Rules}
use Rattle.node_spec.specs.PatternKeyCompare.{KeyFound, first_key, pattern_match}
use Rattle.node_spec.specs.Records.{field}
use Rattle.node_spec.specs.declared.Cause.{Cause}

-- `nothing` is the cause where no key matches, or the target gives nothing
pub record Subpaths : Type 0 where
  pub bares : Bares Found
  pub conditions : List (List ℕ)
  pub is_imports : Bool
  pub folder : List ℕ
  pub nothing : Cause
  pub members : Members

abbrev pub rules_for : Subpaths → List ℕ → KeyFound → Rules
rules_for subpaths asked chosen = record {
  conditions = subpaths.conditions;
  pattern_match = pattern_match asked chosen.found;
  is_imports = subpaths.is_imports;
}

abbrev pub at_key : Subpaths → List ℕ → Option KeyFound → Resolving Url
at_key subpaths asked None = refuses subpaths.nothing
at_key subpaths asked (Some chosen) =
    package_target subpaths.bares (rules_for subpaths asked chosen) subpaths.folder subpaths.nothing
    (field chosen.key subpaths.members)

abbrev pub by_key : Subpaths → List ℕ → Resolving Url
by_key subpaths asked = at_key subpaths asked (first_key asked (names_of subpaths.members))
