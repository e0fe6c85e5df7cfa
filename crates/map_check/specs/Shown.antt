-- The differences of the code, in the words of the definition.
--     shown difference      the difference that it is
--     IsGot map need got      what the need comes to, or none where that is its target
use Rattle.std.specs.Prelude.{◌≡◌, Option, Some, None, false}
use Rattle.import_map_spec.specs.ParsedMap.{ParsedMap}
use Rattle.import_map_spec.specs.Resolving as html
use Rattle.import_map_spec.specs.Resolving.{Resolution, Resolved}
use Rattle.layout_spec.specs.declared.Need.{Need}
use Rattle.check_spec.specs.Differences as definition
use Rattle.check_spec.specs.Differences.{gets, is_url}
use Rattle.map_check.specs.declared.difference.Difference.{Difference}
use Rattle.map_check.specs.declared.difference.Got.{Got}
use Rattle.map_check.specs.declared.difference.Got.TheVariants.{Url, Blocked, Bare, Backtrack, BadRest}

abbrev pub got_of : Got → Resolution
got_of (Url text) = Resolved text
got_of Blocked = html.Blocked
got_of Bare = html.Bare
got_of Backtrack = html.Backtrack
got_of BadRest = html.BadRest

abbrev pub shown : Difference → definition.Difference
shown difference = record { need = difference.need; got = got_of difference.got }

pub record DiffersBy (map : ParsedMap) (need : Need) (got : Got) : Type 0 where
  pub got_is : gets map need ≡ got_of got
  pub differs : is_url (gets map need) need.target ≡ false

abbrev pub IsGot : ParsedMap → Need → Option Got → Type 0
IsGot map need None = gets map need ≡ Resolved need.target
IsGot map need (Some got) = DiffersBy map need got
