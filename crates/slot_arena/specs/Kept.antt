-- What holds among the fields of an arena.
--
-- paired vs ns          the places of these values and next generations
-- times i is            how often i stands there
-- down_to from n        from + n - 1 and so on down to from
-- retired               a place that has no slot left
-- HasRoom n m k         n places fit into tables with room for m and for k
-- AreFields vs ns free c m     the fields of an arena: a next generation to each place, and the others as they must be
-- IsKept a free c m     `free` names each place that has a slot to give, once; c slots are live; m places fit
use Rattle.std.specs.Prelude.{◌≡◌, ℕ, zero, suc, ◌+◌, ◌^◌, ◌<◌, ◌≤◌, ◌==◌, if◌then◌else◌, List, [], ◌∷◌, length, get_or}
use Rattle.std.specs.Prelude.{Option, None}
use Rattle.slot_arena.specs.Slots.{Place, place, place_at}
use Rattle.slot_arena.specs.Counts.{vacancy, spare, live, IsSound}

pub record HasRoom (count next_capacity free_capacity : ℕ) : Type 0 where
  pub next : count ≤ next_capacity
  pub free : count ≤ free_capacity

abbrev pub times : ℕ → List ℕ → ℕ
times i [] = 0
times i (j ∷ js) = (if i == j then 1 else 0) + times i js

abbrev pub down_to : ℕ → ℕ → List ℕ
down_to from zero = []
down_to from (suc n) = (from + n) ∷ down_to from n

module _ {X : Type 0} where
  abbrev pub paired : List (Option X) → List ℕ → List (Place X)
  paired [] ns = []
  paired (v ∷ vs) [] = []
  paired (v ∷ vs) (n ∷ ns) = place v n ∷ paired vs ns

  abbrev pub retired : Place X
  retired = place None (2 ^ 32)

  pub record IsKept (a : List (Place X)) (free : List ℕ) (counted room : ℕ) : Type 0 where
    pub each_once : (i : ℕ) → times i free ≡ vacancy (get_or a i retired)
    pub all_spare : length free ≡ spare a
    pub all_live : counted ≡ live a
    pub all_sound : (i : ℕ) → IsSound (place_at a i)
    pub has_room : length a ≤ room
    pub is_small : length a < 2 ^ 32

  abbrev pub AreFields : List (Option X) → List ℕ → List ℕ → ℕ → ℕ → Type 0
  AreFields vs ns free counted room = (length ns ≡ length vs) × IsKept (paired vs ns) free counted room
