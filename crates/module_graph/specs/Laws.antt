-- The laws of the graph.
--
-- NamesItsModule     a slot names the module that it was given for, whatever its targets, or none
-- DealsInOrder       targets that are dealt out are the targets of the modules one behind another, and nothing else of
--                    the modules changes
use Rattle.std.specs.Prelude.{◌≡◌, ◌⊎◌, List, All, length, map, flat_map, Some, None}
use Rattle.slot_arena.specs.Slots.{Place, value_at}
use Rattle.slot_arena.specs.declared.slot.Slot.{Slot}
use Rattle.module_graph.specs.declared.module.Module.{Module}
use Rattle.module_graph.specs.Modules.{IsModule}
use Rattle.module_graph.specs.Calls.{Calls}
use Rattle.module_graph.specs.Many.{requests_in, dealt}

-- the modules are one, but for their targets
abbrev pub IsSame : Module → Module → Type 0
IsSame m n = (n.path ≡ m.path) × (n.suffix ≡ m.suffix) × (n.source ≡ m.source) × (n.requests ≡ m.requests)

abbrev pub NamesItsModule : Type 0
NamesItsModule = (g h : List (Place Module)) (s : Slot) (m : Module) → value_at g s ≡ Some m → Calls g h
    → (value_at h s ≡ None) ⊎ ((n : Module) × (value_at h s ≡ Some n) × IsSame m n)

pub record Deals (modules : List Module) (targets : List Slot) : Type 0 where
  pub paths : map (λ (m : Module). m.path) (dealt modules targets) ≡ map (λ (m : Module). m.path) modules
  pub suffixes : map (λ (m : Module). m.suffix) (dealt modules targets) ≡ map (λ (m : Module). m.suffix) modules
  pub sources : map (λ (m : Module). m.source) (dealt modules targets) ≡ map (λ (m : Module). m.source) modules
  pub requests : map (λ (m : Module). m.requests) (dealt modules targets) ≡ map (λ (m : Module). m.requests) modules
  pub in_order : flat_map (λ (m : Module). m.targets) (dealt modules targets) ≡ map Some targets

abbrev pub DealsInOrder : Type 0
DealsInOrder = (modules : List Module) (targets : List Slot) → All IsModule modules
    → requests_in modules ≡ length targets → Deals modules targets
