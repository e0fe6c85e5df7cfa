-- A graph of modules, made by calls on all of them.
--     spare_enough, none_live      what places that are made anew have
--     same_count                   as many slots as modules
--     linked_by                    what the calls leave
--     no_places                    a list without items
use Rattle.std.proofs.Common.{◌≡◌, ◌≤◌, ◌+◌, ◌-◌, ◌%◌, ◌<◌, ℕ, List, [], ◌∷◌, length, map, Some, refl, sym, ap, ◌∙◌, arith}
use Rattle.std.proofs.lemmas.List.{length-map}
use native.Mathlib.Nat.{div-add-mod', mod-lt}
use Rattle.slot_arena.specs.Slots.{Place, value_at, with_places}
use Rattle.slot_arena.specs.Counts.{spare, live, wanted}
use Rattle.slot_arena.specs.declared.slot.Slot.{Slot}
use Rattle.slot_arena.proofs.SlotLaws.{each_grows}
use Rattle.module_graph.specs.declared.module.Module.{Module}
use Rattle.module_graph.specs.Many.{AddsAll, ConnectsAll, slot_in}
use Rattle.trace_graph.specs.Building.{AreLinked}

abbrev Places : Type 0
Places = List (Place Module)

wanted_enough : (have n : ℕ) → n ≤ have + wanted have n
wanted_enough have n =
    let r : (n - have + 63) % 64 < 64 = mod-lt (n - have + 63) (omega arith) in
    omega (arith, div-add-mod' (n - have + 63) 64, r)

pub spare_enough : (empty graph : Places) (n : ℕ) → graph ≡ with_places empty (wanted (spare empty) n) → n ≤ spare graph
spare_enough empty graph n is =
    let more = (each_grows Module empty (wanted (spare empty) n)).more_spare in
    let same = ap spare is in
    let enough = wanted_enough (spare empty) n in
    omega (arith, more, same, enough)

pub none_live : (empty graph : Places) (n : ℕ) → empty ≡ [] → graph ≡ with_places empty n → live graph ≡ 0
none_live empty graph n none is = ap live is ∙ ((each_grows Module empty n).as_live ∙ ap live none)

pub same_count : (graph : Places) (slots : List Slot) (modules : List Module) → map (value_at graph) slots ≡ map Some modules
    → length slots ≡ length modules
same_count graph slots modules under =
    sym (length-map slots (value_at graph)) ∙ (ap length under ∙ length-map modules Some)

pub linked_by : (empty graph added connected : Places) (n : ℕ) (slots : List Slot) (modules : List Module) (leads : List ℕ)
    → empty ≡ [] → graph ≡ with_places empty n → AddsAll graph added modules slots
    → ConnectsAll added connected slots (map (slot_in slots) leads) → AreLinked connected slots modules leads
linked_by empty graph added connected n slots modules leads none is adds connects =
    let count = same_count added slots modules adds.under in
    record {
      under = connects.under modules adds.under;
      apart = adds.apart;
      alone = (let a = connects.as_live in let b = adds.more in let c = none_live empty graph n none is in omega (arith, a, b, c, count));
      count = count;
    }

pub no_places : (places : List ℕ) → length places ≡ 0 → places ≡ []
no_places [] none = refl
no_places (place ∷ places) none = absurd (omega (arith, none))
