-- What a map doesn't serve (own).
--     gets map need      what the need comes to through the map (HTML, import maps: resolve a module specifier)
--     differences map needs      the needs that don't come to their targets, in order
--     Difference      the number of such a need, counted from 0, and what it comes to
use Rattle.std.specs.FinMap.{get}
use Rattle.std.specs.Prelude.{◌≡◌, ◌≢◌, ℕ, suc, Bool, false, List, [], ◌∷◌, bytes_eq, if◌then◌else◌, slice_get, Some}
use Rattle.url_spec.specs.Parsing.{parse_alone}
use Rattle.import_map_spec.specs.LookUps.{resolve_normalized, scope_addresses}
use Rattle.import_map_spec.specs.ParsedMap.{ParsedMap}
use Rattle.import_map_spec.specs.Resolving.{Resolution, Resolved, Blocked, Bare, Backtrack, BadRest}
use Rattle.layout_spec.specs.declared.Need.{Need}

pub record Difference : Type 0 where
  pub need : ℕ
  pub got : Resolution

-- HTML, import maps, resolve a module specifier, from the normalized specifier on: where that is a URL, it is the URL
-- of its specifier
abbrev pub gets : ParsedMap → Need → Resolution
gets map need =
    resolve_normalized (get map.imports) (scope_addresses map.scopes) need.referrer (parse_alone need.asked) need.asked

-- the resolution is that of this URL
abbrev pub is_url : Resolution → List ℕ → Bool
is_url (Resolved url) target = bytes_eq url target
is_url Blocked target = false
is_url Bare target = false
is_url Backtrack target = false
is_url BadRest target = false

-- own: the differences of the needs from a number on
abbrev pub differences_from : ParsedMap → ℕ → List Need → List Difference
differences_from map number [] = []
differences_from map number (need ∷ more) =
    if is_url (gets map need) need.target then differences_from map (suc number) more
    else record { need = number; got = gets map need } ∷ differences_from map (suc number) more

abbrev pub differences : ParsedMap → List Need → List Difference
differences map needs = differences_from map 0 needs

-- own: the need with this number comes to this, which isn't its target
pub record IsDifference (map : ParsedMap) (needs : List Need) (difference : Difference) : Type 0 where
  pub need : Need
  pub stands : slice_get needs difference.need ≡ Some need
  pub got_is : gets map need ≡ difference.got
  pub differs : difference.got ≢ Resolved need.target
