-- The target of the key that is taken.
--     key_none, key_some           by what is found for a text
use Rattle.std.proofs.Common.{◌≡◌, ℕ, List, Option, None, ap, ◌∙◌}
use Rattle.json_spec.specs.Value.{Json, names_of}
use Rattle.node_spec.specs.NodeAnswers.{refuses}
use Rattle.node_spec.specs.PackageImportsExportsResolve.{Subpaths, at_key, by_key}
use Rattle.node_spec.specs.PackageTargetResolve.{package_target}
use Rattle.node_spec.specs.PackageTargets.{Rules}
use Rattle.node_spec.specs.PatternKeyCompare.{first_key}
use Rattle.node_resolve.specs.Members.{IsTarget}

pub key_none : (subpaths : Subpaths) (asked : List ℕ) → first_key asked (names_of subpaths.members) ≡ None
    → by_key subpaths asked ≡ refuses subpaths.nothing
key_none subpaths asked e = ap (at_key subpaths asked) e

abbrev pub rules_with : Subpaths → Option (List ℕ) → Rules
rules_with subpaths star =
    record { conditions = subpaths.conditions; pattern_match = star; is_imports = subpaths.is_imports }

pub key_some : (subpaths : Subpaths) (asked : List ℕ) (target : Json) (star : Option (List ℕ))
    → IsTarget subpaths.members asked target star
    → by_key subpaths asked
    ≡ package_target subpaths.bares (rules_with subpaths star) subpaths.folder subpaths.nothing target
key_some subpaths asked target star is =
    ap (at_key subpaths asked) is.first
    ∙ (λ i. package_target subpaths.bares (rules_with subpaths (is.star_is i)) subpaths.folder subpaths.nothing (is.target_is i))
