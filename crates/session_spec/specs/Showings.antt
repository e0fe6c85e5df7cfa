-- What is shown of the modules of a session. own: no public standard speaks of it.
--     Shown                           a slot, with the path and the suffix of its module and the slots to which the
--                                     module's requests lead
--     module_shown v                  its module
--     slot_at showing place           the slot that is shown at a place
--     ShowsTrace entries all showing  the modules of a trace in its order, each under a slot of its own, and each
--                                     request with the slot of the module to which it leads; entries: how many of the
--                                     trace's requests are those of the page, which are in no module
--     IsShowingOf tree config showing so it is with the trace of this tree and config
--     KeepsSlots tree showing later other     between two showings, of trees before and after an edit: a module of both
--                                     whose bytes stayed has the same slot, and no slot stands for two modules
--     most_made, made_at_once         how many places a graph has at most, and how many more an edit makes at most
use Rattle.std.specs.Prelude.{◌≡◌, ◌+◌, ◌-◌, ◌^◌, ℕ, List, length, map, flat_map, drop, slice_get}
use Rattle.std.specs.Prelude.{Option, Some, option_map, Ok}
use Rattle.std.specs.FinMap.{get}
use Rattle.tree_spec.specs.Limits.{limit_number}
use Rattle.tree_spec.specs.Trees.{Tree}
use Rattle.tree_spec.specs.declared.LimitName.TheVariants.{Modules}
use Rattle.slot_arena.specs.declared.slot.Slot.{Slot}
use Rattle.trace_spec.specs.Checks.{Gathered}
use Rattle.trace_spec.specs.Modules.{Config, Module}
use Rattle.trace_spec.specs.Questions.{Source}
use Rattle.trace_spec.specs.Traces.{traced}

pub record Shown : Type 0 where
  pub slot : Slot
  pub path : List ℕ
  pub suffix : List ℕ
  pub targets : List (Option Slot)

abbrev pub module_shown : Shown → Module
module_shown v = record { path = v.path; suffix = v.suffix }

abbrev pub slot_at : List Shown → ℕ → Option Slot
slot_at showing place = option_map (λ (v : Shown). v.slot) (slice_get showing place)

-- own: a request leads to a place among the modules, and its target is the slot at this place
pub record ShowsTrace (entries : ℕ) (all : Gathered) (showing : List Shown) : Type 0 where
  pub modules : map module_shown showing ≡ all.modules
  pub apart : (i j : ℕ) (s : Slot) → slot_at showing i ≡ Some s → slot_at showing j ≡ Some s → i ≡ j
  pub each :
      map (λ (v : Shown). length v.targets) showing ≡ map (λ (source : Source). length source.specifiers) all.sources
  pub leads : List ℕ
  pub led : map (λ lead. slice_get all.modules lead) leads ≡ map Some (drop entries all.targets)
  pub targets : flat_map (λ (v : Shown). v.targets) showing ≡ map (λ lead. slot_at showing lead) leads

abbrev pub IsShowingOf : Tree → Config → List Shown → Type 0
IsShowingOf tree config showing =
    (all : Gathered) → traced (get tree) config ≡ Ok all → ShowsTrace (length config.entries) all showing

-- own: what stands at the module's path is the same in both trees
pub record KeepsSlots (tree : Tree) (showing : List Shown) (later : Tree) (other : List Shown) : Type 0 where
  pub kept :
      (i j : ℕ) (v w : Shown) → slice_get showing i ≡ Some v → slice_get other j ≡ Some w
      → module_shown v ≡ module_shown w → get tree v.path ≡ get later v.path → v.slot ≡ w.slot
  pub apart :
      (i j : ℕ) (v w : Shown) → slice_get showing i ≡ Some v → slice_get other j ≡ Some w → v.slot ≡ w.slot
      → module_shown v ≡ module_shown w

abbrev pub most_made : ℕ
most_made = 2 ^ 32 - 64

-- own: those of a trace, by whole chunks of 64
abbrev pub made_at_once : ℕ
made_at_once = limit_number Modules + 63
