-- What a contract sees of an arena: its places in their order. own: no public standard speaks of arenas.
--
-- Place X            what a place has: a value or none, and the generation that it gives next
-- place v n          the place with these
-- place_at a i       the i-th place; past the end, an empty one that never gave a slot
-- value_at a s       the value under the slot s, None where s isn't live: the arena as a map from slots to values
-- IsGiven a s        s was given: its generation is below the next one of its place
-- IsFresh a s        s is what an empty place that isn't retired gives next
-- set_at a s v       the place of s has v, and s is the last slot that it gave
-- with_places a n    n places more at the end, empty, none of which gave a slot
-- taken_from a s o   what is left where o was taken out from under s: the place of s is empty, or nothing changed
use Rattle.std.specs.Prelude.{◌≡◌, ℕ, ◌+◌, ◌^◌, ◌<◌, ◌==◌, if◌then◌else◌, List, ◌++◌, length, get_or, slice_set}
use Rattle.std.specs.Prelude.{replicate, Option, Some, None}
use Rattle.slot_arena.specs.declared.slot.Slot.{Slot}

pub record Place (X : Type 0) : Type 0 where
  pub value : Option X
  pub next : ℕ

module _ {X : Type 0} where
  abbrev pub place : Option X → ℕ → Place X
  place v n = record { value = v; next = n }

  abbrev pub place_at : List (Place X) → ℕ → Place X
  place_at a i = get_or a i (place None 0)

  abbrev pub value_at : List (Place X) → Slot → Option X
  value_at a s = if (place_at a s.index).next == s.generation + 1 then (place_at a s.index).value else None

  abbrev pub IsGiven : List (Place X) → Slot → Type 0
  IsGiven a s = s.generation < (place_at a s.index).next

  pub record IsFresh (a : List (Place X)) (s : Slot) : Type 0 where
    pub within : s.index < length a
    pub empty : place_at a s.index ≡ place None s.generation
    pub unspent : s.generation < 2 ^ 32

  abbrev pub set_at : List (Place X) → Slot → Option X → List (Place X)
  set_at a s v = slice_set a s.index (place v (s.generation + 1))

  abbrev pub with_places : List (Place X) → ℕ → List (Place X)
  with_places a n = a ++ replicate n (place None 0)

  abbrev pub taken_from : List (Place X) → Slot → Option X → List (Place X)
  taken_from a s None = a
  taken_from a s (Some x) = set_at a s None
