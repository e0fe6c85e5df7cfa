-- Which modules of a trace are there already. own: no public standard speaks of it. A graph that is shown is told as the
-- links of a trace without entries: a graph, and the slots of its modules in trace order.
--     AreOnce modules            no module stands there twice
--     somes keeps                the slots that are kept
--     missing keeps              at how many places none is kept
--     filled keeps given         a slot at each place: the one that is kept, and else the next of the given ones
--     IsAlike one other          two modules of one path and suffix, with the same bytes and the same specifiers
--     AreKept graph other keeps slots      what is kept at a place is the slot of a module that is like the one there
--     IsMatching old l keeps     to each module of the trace l the slot that it has in the old graph, or none: a slot
--                                stands there once, under a module like its own; and where no module stands twice in
--                                either, each module that is in both is found
use Rattle.std.specs.Prelude.{◌≡◌, ⊤, ℕ, ◌+◌, List, [], ◌∷◌, slice_get, Option, Some, None}
use Rattle.slot_arena.specs.Slots.{Place, value_at}
use Rattle.slot_arena.specs.declared.slot.Slot.{Slot}
use Rattle.module_graph.specs.declared.module.Module as vertex
use Rattle.module_graph.specs.Many.{AreApart}
use Rattle.trace_spec.specs.Modules.{Module}
use Rattle.trace_graph.specs.Links.{Links, module_of, source_of, modules_of}

abbrev pub AreOnce : List Module → Type 0
AreOnce modules = (i j : ℕ) (m : Module) → slice_get modules i ≡ Some m → slice_get modules j ≡ Some m → i ≡ j

abbrev pub somes : List (Option Slot) → List Slot
somes [] = []
somes (None ∷ keeps) = somes keeps
somes (Some s ∷ keeps) = s ∷ somes keeps

abbrev pub missing : List (Option Slot) → ℕ
missing [] = 0
missing (None ∷ keeps) = 1 + missing keeps
missing (Some s ∷ keeps) = missing keeps

abbrev pub filled : List (Option Slot) → List Slot → List Slot
filled [] given = []
filled (Some s ∷ keeps) given = s ∷ filled keeps given
filled (None ∷ keeps) [] = filled keeps []
filled (None ∷ keeps) (s ∷ given) = s ∷ filled keeps given

pub record IsSame (v w : vertex.Module) : Type 0 where
  pub module_is : module_of v ≡ module_of w
  pub source_is : source_of v ≡ source_of w

abbrev pub IsAlike : Option vertex.Module → Option vertex.Module → Type 0
IsAlike None other = ⊥
IsAlike (Some v) None = ⊥
IsAlike (Some v) (Some w) = IsSame v w

abbrev pub AreKept : List (Place vertex.Module) → List (Place vertex.Module) → List (Option Slot) → List Slot → Type 0
AreKept graph other [] [] = ⊤
AreKept graph other [] (s ∷ slots) = ⊥
AreKept graph other (None ∷ keeps) [] = ⊥
AreKept graph other (Some k ∷ keeps) [] = ⊥
AreKept graph other (None ∷ keeps) (s ∷ slots) = AreKept graph other keeps slots
AreKept graph other (Some k ∷ keeps) (s ∷ slots) =
    IsAlike (value_at graph k) (value_at other s) × AreKept graph other keeps slots

pub record IsMatching (old l : Links) (keeps : List (Option Slot)) : Type 0 where
  pub kept : AreKept old.graph l.graph keeps l.slots
  pub apart : AreApart (somes keeps)
  pub found :
      AreOnce (modules_of old) → AreOnce (modules_of l) → (i j : ℕ) (s t : Slot) → slice_get old.slots i ≡ Some s
      → slice_get l.slots j ≡ Some t → IsAlike (value_at old.graph s) (value_at l.graph t)
      → slice_get keeps j ≡ Some (Some s)
