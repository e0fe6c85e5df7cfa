-- The laws of the layout with the fewest mappings.
use Rattle.std.specs.FinMap.{empty}
use Rattle.std.specs.Prelude.{◌≡◌, ◌≢◌, ◌≤◌, ◌↔◌, ℕ, true, List, None, Ok, Contains}
use Rattle.import_map_spec.specs.ParsedMap.{ParsedMap}
use Rattle.url_spec.specs.Parsing.{IsUrl}
use Rattle.url_spec.specs.Specifiers.{ends_in_slash}
use Rattle.import_map_spec.specs.LookUps.{resolve_in}
use Rattle.import_map_spec.specs.Parsing.{ParsesMap}
use Rattle.import_map_spec.specs.Resolving.{Resolved}
use Rattle.layout_spec.specs.Counting.{mapping_count}
use Rattle.layout_spec.specs.Needs.{NoClash, IsAsked}
use Rattle.layout_spec.specs.Serving.{held, NoCapture, OfNeeds}
use Rattle.layout_spec.specs.declared.Need.{Need}
use Rattle.fewest_spec.specs.Choosing.{Wish, chosen, no_weight}
use Rattle.fewest_spec.specs.Fewest.{Choice, Held, at_top, value_by, HasValue, IsFewest, IsFewestLayout}
use Rattle.fewest_spec.specs.Wishes.{ArePlaces, AreTargets, IsWishOf}

-- own law: a referrer has a URL as value exactly where it has it by cases
abbrev pub ValueByCases : Type 0
ValueByCases =
    (chosen : Held) (asked referrer target : List ℕ) → IsUrl target
    → (value_by chosen asked referrer ≡ target) ↔ HasValue chosen asked referrer target

-- own law: the referrers that need a specifier have one list of places
abbrev pub OnePlaces : Type 0
OnePlaces =
    (needs : List Need) (asked : List ℕ)
    → ((ps : List (List ℕ)) × ArePlaces needs asked ps)
    × ((ps others : List (List ℕ)) → ArePlaces needs asked ps → ArePlaces needs asked others → ps ≡ others)

-- own law: and the specifier has one list of targets
abbrev pub OneTargets : Type 0
OneTargets =
    (needs : List Need) (asked : List ℕ)
    → ((ts : List (List ℕ)) × AreTargets needs asked ts)
    × ((ts others : List (List ℕ)) → AreTargets needs asked ts → AreTargets needs asked others → ts ≡ others)

-- own law: what is chosen place by place is the first of the choices with the fewest places
abbrev pub ChosenFewest : Type 0
ChosenFewest =
    (needs : List Need) (asked : List ℕ) (ps : List (List ℕ)) (wish : Wish) → NoClash needs → ArePlaces needs asked ps
    → IsWishOf needs asked wish → IsFewest needs asked (chosen wish ps no_weight)

-- own law: a specifier has one such choice at most
abbrev pub OneFewest : Type 0
OneFewest =
    (needs : List Need) (asked : List ℕ) (one other : Choice) → IsFewest needs asked one → IsFewest needs asked other
    → one ≡ other

-- own law: needs have one layout with the fewest mappings at most
abbrev pub OneFewestLayout : Type 0
OneFewestLayout = (needs : List Need) (m n : ParsedMap) → IsFewestLayout needs m → IsFewestLayout needs n → m ≡ n

-- own law: it captures no need, and has no mappings but those of needs
abbrev pub FewestServes : Type 0
FewestServes = (needs : List Need) (m : ParsedMap) → IsFewestLayout needs m → NoCapture needs m × OfNeeds needs m

-- no key of the imports, or of a scope's mappings, ends in `/`
abbrev pub NoFolderKeys : ParsedMap → Type 0
NoFolderKeys m = (place key : List ℕ) → ends_in_slash key ≡ true → held m key place ≡ None

-- the referrer of the need is a URL, and what is asked for stands for itself and is no folder's
pub record NamesAsked (need : Need) : Type 0 where
  pub referrer : IsUrl need.referrer
  pub asked : IsAsked need.asked

-- own law: any map without keys that end in `/` through which each need leads to its target has as many mappings, or more
abbrev pub FewestOfAll : Type 0
FewestOfAll =
    (base bytes : List ℕ) (needs : List Need) (m other : ParsedMap) → IsFewestLayout needs m
    → ParsesMap base bytes (Ok other) → NoFolderKeys other
    → ((need : Need) → Contains needs need → NamesAsked need)
    → ((need : Need) → Contains needs need → resolve_in other need.referrer need.asked ≡ Resolved need.target)
    → mapping_count m ≤ mapping_count other

-- own law: needs without a clash have such a layout
abbrev pub SomeFewestLayout : Type 0
SomeFewestLayout = (needs : List Need) → NoClash needs → (m : ParsedMap) × IsFewestLayout needs m

-- own law: needs in another order, or counted more than once, have the same
abbrev pub FewestInAnyOrder : Type 0
FewestInAnyOrder =
    (needs others : List Need) (m : ParsedMap) → ((need : Need) → Contains needs need ↔ Contains others need)
    → IsFewestLayout needs m → IsFewestLayout others m

-- own law: where the needs for a specifier have one target, which isn't the specifier, the top level alone holds it
abbrev pub OneTarget : Type 0
OneTarget =
    (needs : List Need) (asked t : List ℕ) (need : Need) → Contains needs need → need.asked ≡ asked
    → ((any : Need) → Contains needs any → any.asked ≡ asked → any.target ≡ t) → t ≢ asked
    → IsFewest needs asked (at_top t)

-- own law: where each need for it has the specifier itself as target, nothing is held
abbrev pub NoTarget : Type 0
NoTarget =
    (needs : List Need) (asked : List ℕ) → ((any : Need) → Contains needs any → any.asked ≡ asked → any.target ≡ asked)
    → IsFewest needs asked empty
