-- What a map owes to needs, wherever its mappings stand.
--     scope_of scopes key      the mappings of a scope
--     held map asked place      the address that the place holds for a normalized specifier
--     first_of answer places      the answer of the first place that has one
--     NoCapture needs map      each need is served by the longest place that holds its specifier, or by none
--     OfNeeds needs map      the map has no mappings but those of needs
--     IsTidy map      no scope is that of the top level, and none is empty
use Rattle.std.specs.FinMap.{get, empty}
use Rattle.std.specs.Prelude.{◌≡◌, ℕ, List, [], ◌∷◌, Option, Some, None, unwrap_or, Contains}
use Rattle.std.specs.Option.{option_or}
use Rattle.import_map_spec.specs.ParsedMap.{Texts, Addresses, ParsedMap}
use Rattle.layout_spec.specs.Places.{places}
use Rattle.layout_spec.specs.declared.Need.{Need}

-- the mappings of a scope, none where there is no such scope
abbrev pub scope_of : Texts Addresses → List ℕ → Addresses
scope_of scopes key = unwrap_or (get scopes key) empty

-- the mappings at a place: the imports at the top level, elsewhere those of the scope
abbrev pub addresses_at : ParsedMap → List ℕ → Addresses
addresses_at m [] = m.imports
addresses_at m (b ∷ rest) = scope_of m.scopes (b ∷ rest)

-- the address that a place holds for a specifier
abbrev pub held : ParsedMap → List ℕ → List ℕ → Option (Option (List ℕ))
held m asked place = get (addresses_at m place) asked

-- the answer of the first place that has one
abbrev pub first_of : {A : Type 0} → (List ℕ → Option A) → List (List ℕ) → Option A
first_of answer [] = None
first_of answer (place ∷ more) = option_or (answer place) (first_of answer more)

-- own: of the referrer's places that hold the specifier the longest holds the target; or none holds it, and the target
-- is the specifier
abbrev pub NoCapture : List Need → ParsedMap → Type 0
NoCapture needs m =
    (need : Need) → Contains needs need
    → unwrap_or (first_of (held m need.asked) (places need.referrer)) (Some need.asked) ≡ Some need.target

-- the need of a mapping: the mapping stands at a place of its referrer
pub record IsOf (needs : List Need) (place asked : List ℕ) (address : Option (List ℕ)) (need : Need) : Type 0 where
  pub is_need : Contains needs need
  pub at : Contains (places need.referrer) place
  pub asked_is : need.asked ≡ asked
  pub address_is : address ≡ Some need.target

-- own: no scope has the empty text as its key, and each has a mapping
pub record IsTidy (m : ParsedMap) : Type 0 where
  pub no_top : get m.scopes [] ≡ None
  pub some :
      (key : List ℕ) (scope : Addresses) → get m.scopes key ≡ Some scope
      → (asked : List ℕ) × (address : Option (List ℕ)) × (get scope asked ≡ Some address)

-- own: the map is tidy, and each mapping is that of a need
pub record OfNeeds (needs : List Need) (m : ParsedMap) : Type 0 where
  pub tidy : IsTidy m
  pub only :
      (place asked : List ℕ) (address : Option (List ℕ)) → held m asked place ≡ Some address
      → (need : Need) × IsOf needs place asked address need
