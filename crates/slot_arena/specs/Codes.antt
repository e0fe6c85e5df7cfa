-- The code by which a list of places lies in the logic's one type of values.
use Rattle.std.specs.Prelude.{◌≡◌, ℕ, List, Option, refl}
use Rattle.std.specs.Coded.{Coded, code_by, coded×, coded_list, coded_option, coded_ℕ}
use Rattle.slot_arena.specs.Slots.{Place, place}

abbrev pub places_code : {X : Type 0} → Coded X → Coded (List (Place X))
places_code {X} c =
    coded_list (code_by (Option X × ℕ) (coded× (coded_option c) coded_ℕ) (λ p. (p.value, p.next))
    (λ p. place p.0 p.1) (λ _. refl))
