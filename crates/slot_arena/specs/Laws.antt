-- The laws of an arena, over any type of values. Each is the contract of a function in src/laws.rt.
--
-- GivenOnce X       a slot that was inserted under is given, stays so under every call, and is never the next slot
-- again;
--                   once its value is gone, it has none
-- LiveIsGiven X     each live slot was given
-- Inserts X         what an insertion changes: its slot alone, one spare place less, one live slot more
-- Writes X          what a write changes: its slot's value alone
-- Removes X         what a removal changes: its slot alone; its place is spare again unless it gave its last generation
-- Grows X           what making places changes: spare and the number of places alone
use Rattle.std.specs.Prelude.{◌≡◌, ◌≢◌, ◌↔◌, ℕ, ◌+◌, ◌^◌, nat_lt, if◌then◌else◌, List, length, Some, None}
use Rattle.slot_arena.specs.Slots.{Place, value_at, IsGiven, IsFresh, set_at, with_places}
use Rattle.slot_arena.specs.Counts.{spare, live}
use Rattle.slot_arena.specs.Calls.{Calls}
use Rattle.slot_arena.specs.declared.slot.Slot.{Slot}

pub record GivenOnce (X : Type 0) : Type 0 where
  pub given : (a : List (Place X)) (s : Slot) (x : X) → IsFresh a s → IsGiven (set_at a s (Some x)) s
  pub stays : (a b : List (Place X)) (s : Slot) → IsGiven a s → Calls a b → IsGiven b s
  pub never_again : (a b : List (Place X)) (s t : Slot) → IsGiven a s → Calls a b → IsFresh b t → t ≢ s
  pub gone : (a b : List (Place X)) (s : Slot) → IsGiven a s → value_at a s ≡ None → Calls a b → value_at b s ≡ None

abbrev pub LiveIsGiven : Type 0 → Type 0
LiveIsGiven X = (a : List (Place X)) (s : Slot) (x : X) → value_at a s ≡ Some x → IsGiven a s

-- the map differs from a to b at s at most
abbrev pub IsSameBut : {X : Type 0} → List (Place X) → List (Place X) → Slot → Type 0
IsSameBut a b s = (t : Slot) → t ≢ s → value_at b t ≡ value_at a t

module _ {X : Type 0} where
  pub record Inserted (a b : List (Place X)) (s : Slot) (x : X) : Type 0 where
    pub before : value_at a s ≡ None
    pub here : value_at b s ≡ Some x
    pub elsewhere : IsSameBut a b s
    pub one_less : spare b + 1 ≡ spare a
    pub one_more : live b ≡ live a + 1
    pub made : length b ≡ length a

  pub record Written (a b : List (Place X)) (s : Slot) (y : X) : Type 0 where
    pub here : value_at b s ≡ Some y
    pub elsewhere : IsSameBut a b s
    pub as_spare : spare b ≡ spare a
    pub as_live : live b ≡ live a
    pub made : length b ≡ length a

  pub record Removed (a b : List (Place X)) (s : Slot) : Type 0 where
    pub here : value_at b s ≡ None
    pub elsewhere : IsSameBut a b s
    pub freed : spare b ≡ spare a + (if nat_lt (s.generation + 1) (2 ^ 32) then 1 else 0)
    pub one_less : live b + 1 ≡ live a
    pub made : length b ≡ length a

  pub record Grown (a b : List (Place X)) (n : ℕ) : Type 0 where
    pub everywhere : (s : Slot) → value_at b s ≡ value_at a s
    pub giving : (s : Slot) → IsGiven b s ↔ IsGiven a s
    pub more_spare : spare b ≡ spare a + n
    pub as_live : live b ≡ live a
    pub made : length b ≡ length a + n

abbrev pub Inserts : Type 0 → Type 0
Inserts X = (a : List (Place X)) (s : Slot) (x : X) → IsFresh a s → Inserted a (set_at a s (Some x)) s x

abbrev pub Writes : Type 0 → Type 0
Writes X = (a : List (Place X)) (s : Slot) (x y : X) → value_at a s ≡ Some x → Written a (set_at a s (Some y)) s y

abbrev pub Removes : Type 0 → Type 0
Removes X = (a : List (Place X)) (s : Slot) (x : X) → value_at a s ≡ Some x → Removed a (set_at a s None) s

abbrev pub Grows : Type 0 → Type 0
Grows X = (a : List (Place X)) (n : ℕ) → Grown a (with_places a n) n
