-- Only the needs for a specifier matter for what is chosen for it.
use Rattle.std.specs.FinMap.{get}
use Rattle.std.specs.Prelude.{◌≡◌, ◌↔◌, ℕ, List, Contains}
use Rattle.layout_spec.specs.declared.Need.{Need}
use Rattle.fewest_spec.specs.Fewest.{Choice, Held, Serves, IsFewest}
use Rattle.fewest_spec.specs.Laws.{FewestInAnyOrder}
use Rattle.fewest_spec.specs.Wishes.{ArePlaces, AreTargets}

-- both have the same needs for the specifier
abbrev pub SameFor : List Need → List Need → List ℕ → Type 0
SameFor needs others asked = (need : Need) → need.asked ≡ asked → Contains needs need ↔ Contains others need

pub same_back : (needs others : List Need) (asked : List ℕ) → SameFor needs others asked → SameFor others needs asked
same_back needs others asked same need asks = ((same need asks).1, (same need asks).0)

serves_alike : (needs others : List Need) (asked : List ℕ) → SameFor needs others asked → (chosen : Held) → Serves needs asked chosen → Serves others asked chosen
serves_alike needs others asked same chosen serves need c asks = serves need ((same need asks).1 c) asks

pub fewest_alike : (needs others : List Need) (asked : List ℕ) → SameFor needs others asked → (choice : Choice) → IsFewest needs asked choice → IsFewest others asked choice
fewest_alike needs others asked same choice is =
    let back = serves_alike others needs asked (same_back needs others asked same) in
    record {
      serves = serves_alike needs others asked same (get choice) is.serves;
      fewest = λ other serves. is.fewest other (back (get other) serves);
      first = λ other serves e. is.first other (back (get other) serves) e;
    }

pub places_alike : (needs others : List Need) (asked : List ℕ) → SameFor needs others asked → (ps : List (List ℕ)) → ArePlaces needs asked ps → ArePlaces others asked ps
places_alike needs others asked same ps are = record {
  down = are.down;
  all = λ need p c asks at. are.all need p ((same need asks).1 c) asks at;
  only = λ p c.
      let found = are.only p c in
      (found.0, record { is_need = (same found.0 found.1.asks).0 found.1.is_need; asks = found.1.asks; under = found.1.under });
}

pub targets_alike : (needs others : List Need) (asked : List ℕ) → SameFor needs others asked → (ts : List (List ℕ)) → AreTargets needs asked ts → AreTargets others asked ts
targets_alike needs others asked same ts are = record {
  up = are.up;
  all = λ need c asks. are.all need ((same need asks).1 c) asks;
  only = λ t c. let found = are.only t c in (found.0, (same found.0 found.2).0 found.1, found.2, found.3);
}

pub fewest_in_any_order : FewestInAnyOrder
fewest_in_any_order needs others m same is = record {
  tidy = is.tidy;
  no_digests = is.no_digests;
  choices = λ asked. let found = is.choices asked in (found.0, fewest_alike needs others asked (λ need asks. same need) found.0 found.1, found.2);
}
