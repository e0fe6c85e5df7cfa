-- A module that another one asks for, and is taken out.
--     room_for_second     there is room for it
--     leads               the request leads to it
--     stays               its target is still the same once it is taken out
use Rattle.std.proofs.Common.{◌≡◌, ◌≢◌, ◌<◌, Bool, true, false, List, [], ◌∷◌, length, Option, Some, None, refl, sym, ap, ◌∙◌, arith, subst}
use Rattle.std.specs.Prelude.{slice_get, slice_set}
use Rattle.slot_arena.specs.Slots.{Place, value_at, IsFresh, set_at, with_places, taken_from}
use Rattle.slot_arena.specs.Counts.{spare, wanted}
use Rattle.slot_arena.specs.Calls.{begin}
use Rattle.slot_arena.specs.declared.slot.Slot.{Slot}
use Rattle.slot_arena.proofs.SlotLaws.{given_once, each_inserts, each_writes, each_removes, each_grows}
use Rattle.module_graph.specs.declared.module.Module.{Module}
use Rattle.module_graph.specs.Modules.{IsModule, set_one, with_target, target_at}
use Rattle.module_graph.specs.Graphs.{Connects}
use Rattle.graph_rows.specs.Targets.{first_target, first_target_of}

abbrev Places : Type 0
Places = List (Place Module)

pub room_for_second : (empty made one : Places) (from : Slot) (first : Module) → empty ≡ []
    → made ≡ with_places empty (wanted (spare empty) 2) → IsFresh made from → one ≡ set_at made from (Some first) → 0 < spare one
room_for_second empty made one from first is_empty is_made fresh is_one =
    let less = (each_inserts Module made from first fresh).one_less in
    let grown = (each_grows Module empty (wanted (spare empty) 2)).more_spare in
    let wants : wanted (spare empty) 2 ≡ 64 = ap (λ a. wanted (spare a) 2) is_empty in
    let counted = ap spare is_made in
    let has = ap spare is_one in
    omega (arith, less, grown, wants, counted, has)

set_first : {A : Type 0} (xs : List A) (x : A) → 0 < length xs → slice_get (slice_set xs 0 x) 0 ≡ Some x
set_first [] x within = absurd (omega (arith, within))
set_first (y ∷ ys) x within = refl

abbrev value_or : Module → Option Module → Module
value_or m None = m
value_or m (Some n) = n

-- the one asks for something, and both are added
pub record Added (made one two : Places) (from to : Slot) (first second : Module) : Type 0 where
  pub fresh_from : IsFresh made from
  pub is_one : one ≡ set_at made from (Some first)
  pub fresh_to : IsFresh one to
  pub is_two : two ≡ set_at one to (Some second)
  pub well_made : IsModule first
  pub asks : 0 < length first.requests.value

module _ (made one two : Places) (from to : Slot) (first second : Module) (added : Added made one two from to first second) where
  apart : from ≢ to
  apart same =
      let given = (given_once Module).given made from first added.fresh_from in
      let fresh = subst (λ a. IsFresh a to) added.is_one added.fresh_to in
      (given_once Module).never_again (set_at made from (Some first)) (set_at made from (Some first)) from to given begin fresh (sym same)

  first_stands : value_at two from ≡ Some first
  first_stands =
      ap (λ a. value_at a from) added.is_two
      ∙ ((each_inserts Module one to second added.fresh_to).elsewhere from apart
      ∙ (ap (λ a. value_at a from) added.is_one ∙ (each_inserts Module made from first added.fresh_from).here))

  led_to : (led : Places) (m : Module) → value_at two from ≡ Some m → led ≡ set_at two from (Some (with_target m 0 to))
      → value_at led from ≡ Some (with_target first 0 to)
  led_to led m here is =
      let same : m ≡ first = ap (value_or first) (sym here ∙ first_stands) in
      ap (λ a. value_at a from) is
      ∙ ((each_writes Module two from m (with_target m 0 to) here).here ∙ ap (λ n. Some (with_target n 0 to)) same)

  pub stands_led : (led : Places) (done : Bool) → Connects two led from 0 to done → value_at led from ≡ Some (with_target first 0 to)
  stands_led led true connects = led_to led connects.0 connects.1 connects.3
  stands_led led false connects =
      absurd (let few = connects.1 first first_stands in let asks = added.asks in omega (arith, few, asks))

  shows : target_at (with_target first 0 to) 0 ≡ Some to
  shows =
      let within : 0 < length first.targets = (let each = added.well_made.one_each in let asks = added.asks in omega (arith, each, asks)) in
      ap set_one (set_first first.targets (Some to) within)

  pub leads : (led : Places) (done : Bool) → Connects two led from 0 to done → first_target led from ≡ Some to
  leads led done connects = ap first_target_of (stands_led led done connects) ∙ shows

  left_alone : (led left : Places) (o : Option Module) → o ≡ value_at led to → left ≡ taken_from led to o
      → value_at left from ≡ value_at led from
  left_alone led left None is taken = ap (λ a. value_at a from) taken
  left_alone led left (Some x) is taken =
      ap (λ a. value_at a from) taken ∙ (each_removes Module led to x (sym is)).elsewhere from apart

  pub stays : (led left : Places) (done : Bool) (o : Option Module) → Connects two led from 0 to done → o ≡ value_at led to
      → left ≡ taken_from led to o → first_target left from ≡ Some to
  stays led left done o connects is taken =
      ap first_target_of (left_alone led left o is taken) ∙ leads led done connects
