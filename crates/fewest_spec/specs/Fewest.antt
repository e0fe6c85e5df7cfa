-- The layout with the fewest mappings: for each specifier that needs ask for, where it is mapped, and to what.
--     Choice      a finite map from places to targets
--     value_by chosen asked referrer      the target at the longest of the referrer's places that the choice holds
--     HasValue chosen asked referrer target      the same by cases
--     Serves needs asked choice      each need for the specifier has its target as value
--     Precedes one other      at the first place where the choices differ, the one comes first
--     IsFewest needs asked choice      the first of the choices that serve with the fewest places
--     IsFewestLayout needs map      the map holds these choices, and nothing else
use Rattle.std.specs.Cmp.Lexicographic.{slice_cmp}
use Rattle.std.specs.FinMap.{get, insert, len, empty}
use Rattle.std.specs.Ordering.{nat_cmp}
use Rattle.std.specs.Prelude.{◌≡◌, ◌≤◌, ◌⊎◌, ℕ, List, [], Option, Some, None, option_map, unwrap_or, Contains}
use Rattle.std.specs.declared.cmp.Ordering.TheVariants.{Less}
use Rattle.import_map_spec.specs.ParsedMap.{Texts, ParsedMap}
use Rattle.url_spec.specs.Parsing.{IsUrl}
use Rattle.layout_spec.specs.Places.{places}
use Rattle.layout_spec.specs.Serving.{held, first_of, IsTidy}
use Rattle.layout_spec.specs.declared.Need.{Need}

-- own: a finite map from places to targets
abbrev pub Choice : Type 0
Choice = Texts (List ℕ)

-- own: the top level alone holds the target
abbrev pub at_top : List ℕ → Choice
at_top target = insert empty [] target

-- what places hold
abbrev pub Held : Type 0
Held = List ℕ → Option (List ℕ)

-- own: what a referrer gets: the target at the longest of its places that is held, else the specifier itself. A bare
-- specifier is no target, since each target is a URL
abbrev pub value_by : Held → List ℕ → List ℕ → List ℕ
value_by chosen asked referrer = unwrap_or (first_of chosen (places referrer)) asked

-- own: the target at the longest of the places that are held; where none is held, the specifier, if it is a URL: a bare
-- specifier has no value then
pub data HasValue (chosen : Held) (asked referrer target : List ℕ) : Type 0 where
  is_held : first_of chosen (places referrer) ≡ Some target → HasValue chosen asked referrer target
  is_asked :
      first_of chosen (places referrer) ≡ None → IsUrl asked → target ≡ asked → HasValue chosen asked referrer target

-- own: each need for the specifier has its target as value
abbrev pub Serves : List Need → List ℕ → Held → Type 0
Serves needs asked chosen =
    (need : Need) → Contains needs need → need.asked ≡ asked → value_by chosen asked need.referrer ≡ need.target

-- the bytes of the one text come before those of the other
abbrev pub Before : List ℕ → List ℕ → Type 0
Before one other = slice_cmp nat_cmp one other ≡ Less

-- own: to hold a place precedes not to hold it, and a smaller target a greater one
pub data IsAhead : Option (List ℕ) → Option (List ℕ) → Type 0 where
  alone : (target : List ℕ) → IsAhead (Some target) None
  smaller : (target other : List ℕ) → Before target other → IsAhead (Some target) (Some other)

-- own: they differ first at this place, and there the one is ahead
pub record Precedes (one other : Held) : Type 0 where
  pub place : List ℕ
  pub same_before : (before : List ℕ) → Before before place → one before ≡ other before
  pub ahead : IsAhead (one place) (other place)

-- own: of the choices that serve the specifier those with the fewest places, and of these the first
pub record IsFewest (needs : List Need) (asked : List ℕ) (choice : Choice) : Type 0 where
  pub serves : Serves needs asked (get choice)
  pub fewest : (other : Choice) → Serves needs asked (get other) → len choice ≤ len other
  pub first :
      (other : Choice) → Serves needs asked (get other) → len other ≡ len choice
      → (choice ≡ other) ⊎ Precedes (get choice) (get other)

-- the map holds for the specifier what the choice has
abbrev pub Holds : ParsedMap → List ℕ → Choice → Type 0
Holds m asked choice = (place : List ℕ) → held m asked place ≡ option_map Some (get choice place)

-- own: for each specifier the map holds such a choice, and it holds nothing else
pub record IsFewestLayout (needs : List Need) (m : ParsedMap) : Type 0 where
  pub tidy : IsTidy m
  pub no_digests : m.integrity ≡ empty
  pub choices : (asked : List ℕ) → (choice : Choice) × IsFewest needs asked choice × Holds m asked choice
