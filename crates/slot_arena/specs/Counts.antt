-- The numbers of an arena. A place is retired where it is empty and its next generation is 2 ^ 32, which no slot has.
--
-- vacancy p          1 for a place that has a slot to give (it is empty and not retired), else 0
-- fullness p         1 for a place with a value, else 0
-- spare a            how many places have a slot to give
-- live a             how many slots are live: each filled place has one
-- wanted have n      the least multiple of 64 that brings `have` to n, 0 where it is there
-- IsSound p          a place with a value gave a slot, and no place gives a generation past the last
-- IsArena a          all places are so, and a number of 32 bits counts them
use Rattle.std.specs.Prelude.{ℕ, ◌+◌, ◌*◌, ◌-◌, ◌/◌, ◌^◌, ◌<◌, ◌≤◌, nat_lt, if◌then◌else◌, List, [], ◌∷◌, length}
use Rattle.std.specs.Prelude.{Option, Some, None}
use Rattle.slot_arena.specs.Slots.{Place, place_at}

module _ {X : Type 0} where
  abbrev pub vacancy_of : Option X → ℕ → ℕ
  vacancy_of None next = if nat_lt next (2 ^ 32) then 1 else 0
  vacancy_of (Some x) next = 0

  abbrev pub fullness_of : Option X → ℕ
  fullness_of None = 0
  fullness_of (Some x) = 1

  abbrev pub vacancy : Place X → ℕ
  vacancy p = vacancy_of p.value p.next

  abbrev pub fullness : Place X → ℕ
  fullness p = fullness_of p.value

  abbrev pub spare : List (Place X) → ℕ
  spare [] = 0
  spare (p ∷ ps) = vacancy p + spare ps

  abbrev pub live : List (Place X) → ℕ
  live [] = 0
  live (p ∷ ps) = fullness p + live ps

  abbrev pub IsSound : Place X → Type 0
  IsSound p = (fullness p ≤ p.next) × (p.next ≤ 2 ^ 32)

  abbrev pub IsArena : List (Place X) → Type 0
  IsArena a = ((i : ℕ) → IsSound (place_at a i)) × (length a < 2 ^ 32)

abbrev pub wanted : ℕ → ℕ → ℕ
wanted have n = (n - have + 63) / 64 * 64
