-- How the modules of a trace are found in a graph.
--     names graph slots               the modules under these slots, as a trace is told them
--     AreByKey graph slots find       where no module stands twice under these slots, `find` has to each its place
--     Takes graph place w old new k   k is the slot at a place, taken out, if it is left and its module is like w
--     Keeps graph find w old new k    the same at the place at which w is found
--     HasLike other rest v            a module under these slots is like v
--     IsFound graph slots other rest left keeps      to each of the slots `rest` of another graph the one among `slots`
--                                     that is kept, or none; `left` has each of `slots` that isn't kept
use Rattle.std.specs.Prelude.{◌≡◌, ◌≢◌, ◌⊎◌, ◌+◌, ℕ, List, All, length, map, slice_get, slice_set, Option, Some, None}
use Rattle.slot_arena.specs.Slots.{Place, value_at}
use Rattle.slot_arena.specs.declared.slot.Slot.{Slot}
use Rattle.module_graph.specs.declared.module.Module as vertex
use Rattle.module_graph.specs.Many.{AreApart}
use Rattle.trace_spec.specs.Modules.{Module}
use Rattle.trace_graph.specs.Links.{IsLive, module_of, module_in}
use Rattle.graph_repair.specs.Matching.{AreOnce, somes, IsAlike, AreKept}

abbrev pub names : List (Place vertex.Module) → List Slot → List Module
names graph slots = map (λ s. module_in (value_at graph s)) slots

abbrev pub AreByKey : List (Place vertex.Module) → List Slot → (Module → Option ℕ) → Type 0
AreByKey graph slots find =
    AreOnce (names graph slots) → (i : ℕ) (s : Slot) (v : vertex.Module) → slice_get slots i ≡ Some s
    → value_at graph s ≡ Some v → find (module_of v) ≡ Some i

abbrev pub Takes : List (Place vertex.Module) → ℕ → Option vertex.Module → List (Option Slot) → List (Option Slot)
    → Option Slot → Type 0
Takes graph place w old new (Some s) =
    (slice_get old place ≡ Some (Some s)) × (new ≡ slice_set old place None) × IsAlike (value_at graph s) w
Takes graph place w old new None =
    (new ≡ old) × ((s : Slot) → slice_get old place ≡ Some (Some s) → IsAlike (value_at graph s) w → ⊥)

abbrev pub Keeps : List (Place vertex.Module) → (Module → Option ℕ) → Option vertex.Module → List (Option Slot)
    → List (Option Slot) → Option Slot → Type 0
Keeps graph find w old new (Some s) =
    (v : vertex.Module) × (place : ℕ) × (w ≡ Some v) × (find (module_of v) ≡ Some place)
    × Takes graph place w old new (Some s)
Keeps graph find w old new None =
    (new ≡ old) × ((v : vertex.Module) (place : ℕ) (s : Slot) → w ≡ Some v → find (module_of v) ≡ Some place
    → slice_get old place ≡ Some (Some s) → IsAlike (value_at graph s) w → ⊥)

pub record HasLike (other : List (Place vertex.Module)) (rest : List Slot) (v : Option vertex.Module) : Type 0 where
  pub place : ℕ
  pub slot : Slot
  pub there : slice_get rest place ≡ Some slot
  pub alike : IsAlike v (value_at other slot)

pub record IsFound (graph : List (Place vertex.Module)) (slots : List Slot) (other : List (Place vertex.Module))
    (rest : List Slot) (left keeps : List (Option Slot)) : Type 0 where
  pub kept : AreKept graph other keeps rest
  pub live : All (IsLive graph) (somes keeps)
  pub apart : AreApart (somes keeps)
  pub stays : All (λ s. All (λ t. t ≢ s) (somes left)) (somes keeps)
  pub left_apart : AreApart (somes left)
  pub left_live : All (IsLive graph) (somes left)
  pub counts : length (somes left) + length (somes keeps) ≡ length slots
  pub found :
      AreOnce (names graph slots) → AreOnce (names other rest) → (i j : ℕ) (s t : Slot) → slice_get slots i ≡ Some s
      → slice_get rest j ≡ Some t → IsAlike (value_at graph s) (value_at other t) → slice_get keeps j ≡ Some (Some s)
  pub tracked :
      (i : ℕ) (s : Slot) → slice_get slots i ≡ Some s
      → (slice_get left i ≡ Some (Some s)) ⊎ HasLike other rest (value_at graph s)
