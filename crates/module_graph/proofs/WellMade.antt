-- The modules of a graph stay well made through each change.
use Rattle.std.proofs.Common.{◌≡◌, ◌≤◌, inl, inr, ℕ, zero, suc, ◌+◌, ◌<◌, ◌==◌, if◌then◌else◌, Bool, true, false, List, [], ◌∷◌, length, slice_set, Option, Some, None, Result, Ok, Err, OnOk, OnErr, sym, ◌∙◌, subst, arith, length-set}
use Rattle.std.proofs.lemmas.Grind.{common_steps}
use Rattle.std.proofs.lemmas.Option.{slice_get_past}
use Rattle.slot_arena.proofs.Times.{below_or_not}
use Rattle.slot_arena.specs.Slots.{Place, place, place_at, value_at, set_at, with_places, taken_from}
use Rattle.slot_arena.specs.Counts.{spare, wanted}
use Rattle.slot_arena.specs.declared.slot.Slot.{Slot}
use Rattle.module_graph.specs.declared.module.Module.{Module}
use Rattle.module_graph.specs.Modules.{HasSpan, IsModule, SetsTarget}
use Rattle.module_graph.specs.Graphs.{AreModules}

pub value_of_live : (g : List (Place Module)) (s : Slot) (m : Module) → value_at g s ≡ Some m → (place_at g s.index).value ≡ Some m
value_of_live g s m is = guarded (place_at g s.index).next (s.generation + 1) (place_at g s.index).value m is
  where
    guarded : (n k : ℕ) (v : Option Module) (m : Module) → (if n == k then v else None) ≡ Some m → v ≡ Some m
    guarded n k v m is = grind (arith, common_steps)

pub live_is_module : (g : List (Place Module)) (s : Slot) (m : Module) → AreModules g → value_at g s ≡ Some m → IsModule m
live_is_module g s m w is = w s.index m (value_of_live g s m is)

pub modules-set : (g : List (Place Module)) (i : ℕ) (v : Option Module) (n : ℕ) → AreModules g → ((m : Module) → v ≡ Some m → IsModule m) → AreModules (slice_set g i (place v n))
modules-set [] i v n w ok q m is = w q m is
modules-set (p ∷ ps) zero v n w ok zero m is = ok m is
modules-set (p ∷ ps) zero v n w ok (suc q) m is = w (suc q) m is
modules-set (p ∷ ps) (suc i) v n w ok zero m is = w zero m is
modules-set (p ∷ ps) (suc i) v n w ok (suc q) m is = modules-set ps i v n (λ k. w (suc k)) ok q m is

pub modules-added : (g : List (Place Module)) (s : Slot) (m : Module) → AreModules g → IsModule m → AreModules (set_at g s (Some m))
modules-added g s m w ok = modules-set g s.index (Some m) (s.generation + 1) w (λ n e. subst IsModule (let same : m ≡ n = cc in same) ok)

pub modules-grown : (g : List (Place Module)) (n : ℕ) → AreModules g → AreModules (with_places g n)
modules-grown [] zero w q m is = w q m is
modules-grown [] (suc n) w zero m is = cc
modules-grown [] (suc n) w (suc q) m is = modules-grown [] n w q m is
modules-grown (p ∷ ps) n w zero m is = w zero m is
modules-grown (p ∷ ps) n w (suc q) m is = modules-grown ps n (λ k. w (suc k)) q m is

pub modules-reserved : {A E : Type 0} (r : Result A E) (old new : List (Place Module)) (n : ℕ) → OnOk r (new ≡ with_places old (wanted (spare old) n)) → OnErr r (new ≡ old)
    → AreModules old → AreModules new
modules-reserved (Ok x) old new n ok err w = subst AreModules (sym ok) (modules-grown old (wanted (spare old) n) w)
modules-reserved (Err e) old new n ok err w = subst AreModules (sym err) w

pub modules-taken : (o : Option Module) (g : List (Place Module)) (s : Slot) → AreModules g → AreModules (taken_from g s o)
modules-taken None g s w = w
modules-taken (Some m) g s w = modules-set g s.index None (s.generation + 1) w (λ n e. let bad : None ≡ Some n = e in cc)

-- a module whose target was set, or nothing was
pub module-set : (old new : Module) (i : ℕ) (to : Slot) (done : Bool) → SetsTarget old new i to done → IsModule old → IsModule new
module-set old new i to true (within, is) ok = subst IsModule (sym is) (record {
  one_each = length-set old.targets i (Some to) ∙ ok.one_each;
  inside = ok.inside;
})
module-set old new i to false (past, is) ok = subst IsModule (sym is) ok

-- there is no request past the end
pub span-past : (m : Module) (i : ℕ) → length m.requests.value ≤ i → HasSpan m i
span-past m i past r is = let bad : Some r ≡ None = sym is ∙ slice_get_past m.requests.value i past in cc

pub span-next : (m : Module) (n i : ℕ) → ((j : ℕ) → j < n → HasSpan m j) → HasSpan m n → i < n + 1 → HasSpan m i
span-next m n i before here lt = elim (below_or_not i n) [
  | inl earlier ↦ before i earlier
  | inr le ↦ subst (HasSpan m) (let same : n ≡ i = omega (arith, lt, le) in same) here
]
