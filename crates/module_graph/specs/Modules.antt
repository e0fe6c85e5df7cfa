-- What a contract sees of a module. own: no public standard speaks of this graph.
--
-- HasSpan m i          the span of the i-th request lies in the source, if there is such a request
-- IsModule m           it has as many targets as requests, and each request's span lies in its source
-- asked_at m i         the specifier of the i-th request
-- literal_at m i       the slice of the source that is its literal
-- target_at m i        its target, where one is set
-- IsUntied m v          v is the module m, and none of its targets is set
-- with_target m i to   m with the target of the i-th request set
-- SetsTarget old new i to done     done, and the i-th request's target is set; or there is no such request, and
-- nothing changes
use Rattle.std.specs.Prelude.{◌≡◌, ℕ, ◌-◌, ◌<◌, ◌≤◌, Bool, true, false, List, length, take, drop, slice_get, slice_set}
use Rattle.std.specs.Prelude.{replicate}
use Rattle.std.specs.Prelude.{Option, Some, None}
use Rattle.slot_arena.specs.declared.slot.Slot.{Slot}
use Rattle.module_spec.specs.declared.request.Request.{Request}
use Rattle.module_graph.specs.declared.module.Module.{Module}

abbrev pub HasSpan : Module → ℕ → Type 0
HasSpan m i = (r : Request) → slice_get m.requests.value i ≡ Some r → (r.from ≤ r.to) × (r.to ≤ length m.source.value)

pub record IsModule (m : Module) : Type 0 where
  pub one_each : length m.targets ≡ length m.requests.value
  pub inside : (i : ℕ) → HasSpan m i

pub record IsUntied (m v : Module) : Type 0 where
  pub well_made : IsModule v
  pub path : v.path ≡ m.path
  pub suffix : v.suffix ≡ m.suffix
  pub source : v.source.value ≡ m.source.value
  pub requests : v.requests.value ≡ m.requests.value
  pub targets : v.targets ≡ replicate (length m.requests.value) None

-- bytes from one number on, and before another
abbrev pub slice : List ℕ → ℕ → ℕ → List ℕ
slice bytes from to = take (to - from) (drop from bytes)

abbrev pub asked_by : Option Request → Option (List ℕ)
asked_by None = None
asked_by (Some r) = Some r.text

abbrev pub literal_of : List ℕ → Option Request → Option (List ℕ)
literal_of source None = None
literal_of source (Some r) = Some (slice source r.from r.to)

abbrev pub set_one : Option (Option Slot) → Option Slot
set_one None = None
set_one (Some target) = target

abbrev pub asked_at : Module → ℕ → Option (List ℕ)
asked_at m i = asked_by (slice_get m.requests.value i)

abbrev pub literal_at : Module → ℕ → Option (List ℕ)
literal_at m i = literal_of m.source.value (slice_get m.requests.value i)

abbrev pub target_at : Module → ℕ → Option Slot
target_at m i = set_one (slice_get m.targets i)

abbrev pub with_target : Module → ℕ → Slot → Module
with_target m i to = record m { targets = slice_set m.targets i (Some to) }

abbrev pub SetsTarget : Module → Module → ℕ → Slot → Bool → Type 0
SetsTarget old new i to true = (i < length old.targets) × (new ≡ with_target old i to)
SetsTarget old new i to false = (length old.targets ≤ i) × (new ≡ old)
