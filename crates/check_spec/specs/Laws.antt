-- The laws of differences. Each is the contract of a function of this crate.
use Rattle.std.specs.Prelude.{◌≡◌, ◌↔◌, ℕ, List, map, Contains}
use Rattle.std.specs.List.Sorted.{IsStrictlyIncreasing}
use Rattle.url_spec.specs.Specifiers.{normalized}
use Rattle.import_map_spec.specs.LookUps.{resolve_in}
use Rattle.import_map_spec.specs.ParsedMap.{ParsedMap}
use Rattle.layout_spec.specs.declared.Need.{Need}
use Rattle.check_spec.specs.Differences.{Difference, gets, differences, IsDifference}

-- own law: whatever its referrer asks a need with, that comes to what the need comes to
abbrev pub SpecifiersAgree : Type 0
SpecifiersAgree =
    (m : ParsedMap) (need : Need) (specifier : List ℕ) → normalized need.referrer specifier ≡ need.asked
    → resolve_in m need.referrer specifier ≡ gets m need

-- own law: each difference is one, and none is left out
abbrev pub DifferencesAreExact : Type 0
DifferencesAreExact =
    (m : ParsedMap) (needs : List Need) (difference : Difference)
    → Contains (differences m needs) difference ↔ IsDifference m needs difference

-- own law: their numbers rise
abbrev pub DifferencesAscend : Type 0
DifferencesAscend =
    (m : ParsedMap) (needs : List Need) → IsStrictlyIncreasing (map (λ (d : Difference). d.need) (differences m needs))
