-- What an arena is once a `&mut` to the value of a slot has ended.
--
-- lends_value R a s r     the slot has the value last written, and all else stays
use Rattle.std.specs.Prelude.{List, Option, Some}
use Rattle.std.specs.Borrow.{Fml, RattleType, MutBor, LendsIf}
use Rattle.slot_arena.specs.Slots.{Place, set_at}
use Rattle.slot_arena.specs.declared.slot.Slot.{Slot}
use Rattle.slot_arena.specs.contracts.arena.SlotArena.{the_row}

abbrev pub lends_value : (R : RattleType) → MutBor (List (Place R.Denot)) → Slot → Option (MutBor R.Denot) → Fml
lends_value R a s r = LendsIf (the_row R) R a r (λ w. set_at a.now s (Some w)) a.now
