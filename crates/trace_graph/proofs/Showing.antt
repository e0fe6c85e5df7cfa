-- What a graph of modules is told as.
--     is_graph_of, is_linked      the graph that was built, and what it keeps
--     live_some                   a slot of a list is live
--     seen_some, seen_none        what stands at a place
--     as_many_specifiers          a module has as many specifiers as requests
--     parts_whole, all_reversed   the parts of a list, and its items the other way round
use Rattle.std.proofs.Common.{◌≡◌, ◌+◌, ◌<◌, ◌++◌, ℕ, zero, suc, List, [], ◌∷◌, length, map, reverse, take, drop, option_map, Option, Some, None, IfSome, refl, sym, ap, ◌∙◌, subst}
use Rattle.std.specs.Prelude.{All, flat_map, slice_get, slice_set}
use Rattle.std.proofs.lemmas.List.{map-append, length-map, get_or-map, reverse-append}
use Rattle.std.proofs.lemmas.List.Elements.{All-nil, All-cons, All-head, All-tail, All-push, All-map, All-weaker, All-get_or}
use Rattle.std.proofs.lemmas.Option.{slice_get-map, slice_get_within, get_or_from_slice_get}
use Rattle.slot_arena.specs.Slots.{Place, value_at}
use Rattle.slot_arena.specs.declared.slot.Slot.{Slot}
use Rattle.module_spec.specs.declared.request.Request.{Request}
use Rattle.module_graph.specs.declared.module.Module as vertex
use Rattle.module_graph.specs.Modules.{IsModule, with_target}
use Rattle.module_graph.specs.Many.{dealt, with_targets, requests_in, slot_in}
use Rattle.module_graph.proofs.Dealing.{deals_in_order}
use Rattle.trace_spec.specs.Laws.{no_module}
use Rattle.trace_graph.specs.Links.{Links, IsLinked, IsLive, IsSet, module_of, source_of, module_in, source_in, targets_in, led_to}
use Rattle.trace_graph.specs.Building.{AreLinked, IsGraphOf, place_of}

abbrev Vertex : Type 0
Vertex = vertex.Module

abbrev Places : Type 0
Places = List (Place Vertex)

-- ---- lists

map_twice : {X Y Z : Type 0} (f : Y → Z) (h : X → Y) (xs : List X) → map f (map h xs) ≡ map (λ x. f (h x)) xs
map_twice f h [] = refl
map_twice f h (x ∷ xs) = ap (λ ys. f (h x) ∷ ys) (map_twice f h xs)

flat_map_twice : {X Y Z : Type 0} (f : Y → List Z) (h : X → Y) (xs : List X) → flat_map f (map h xs) ≡ flat_map (λ x. f (h x)) xs
flat_map_twice f h [] = refl
flat_map_twice f h (x ∷ xs) = ap (λ ys. f (h x) ++ ys) (flat_map_twice f h xs)

map_below : {X : Type 0} (f h : ℕ → X) (count : ℕ) (xs : List ℕ) → All (λ x. x < count) xs
    → ((x : ℕ) → x < count → f x ≡ h x) → map f xs ≡ map h xs
map_below f h count [] below same = refl
map_below f h count (x ∷ xs) below same =
    λ i. same x (All-head (λ x. x < count) x xs below) i ∷ map_below f h count xs (All-tail (λ x. x < count) x xs below) same i

pub parts_whole : {X : Type 0} (n : ℕ) (xs front back : List X) → front ≡ take n xs → back ≡ drop n xs → front ++ back ≡ xs
parts_whole zero xs front back is rest = (λ i. is i ++ rest i)
parts_whole (suc n) [] front back is rest = (λ i. is i ++ rest i)
parts_whole (suc n) (x ∷ xs) front back is rest =
    (λ i. is i ++ rest i) ∙ ap (λ ys. x ∷ ys) (parts_whole n xs (take n xs) (drop n xs) refl refl)

pub all_reversed : {X : Type 0} (P : X → Type 0) (xs : List X) → All P xs → All P (reverse xs)
all_reversed P [] every = All-nil P
all_reversed P (x ∷ xs) every =
    subst (All P) (sym (reverse-append (x ∷ []) xs))
    (All-push P (reverse xs) x (all_reversed P xs (All-tail P x xs every)) (All-head P x xs every))

-- ---- targets change nothing else

module _ {X : Type 0} (f : Vertex → X) (same : (v : Vertex) (targets : List (Option Slot)) → f (record v { targets = targets }) ≡ f v) where
  with_targets_same : (v : Vertex) (k : ℕ) (targets : List Slot) → f (with_targets v k targets) ≡ f v
  with_targets_same v k [] = refl
  with_targets_same v k (target ∷ more) =
      with_targets_same (with_target v k target) (k + 1) more ∙ same v (slice_set v.targets k (Some target))

  dealt_same : (modules : List Vertex) (targets : List Slot) → map f (dealt modules targets) ≡ map f modules
  dealt_same [] targets = refl
  dealt_same (v ∷ more) targets =
      λ i. with_targets_same v 0 (take (length v.requests.value) targets) i ∷ dealt_same more (drop (length v.requests.value) targets) i

-- ---- what stands under the slots

all_live : (graph : Places) (slots : List Slot) (those : List Vertex) → map (value_at graph) slots ≡ map Some those → All (IsLive graph) slots
all_live graph [] those under = All-nil (IsLive graph)
all_live graph (s ∷ slots) [] under = absurd (cc)
all_live graph (s ∷ slots) (v ∷ those) under =
    let here : value_at graph s ≡ Some v = cc in
    let rest : map (value_at graph) slots ≡ map Some those = cc in
    All-cons (IsLive graph) s slots (v, here) (all_live graph slots those rest)

module _ (graph : Places) (slots roots : List Slot) (modules : List Vertex) (firsts others : List ℕ)
    (linked : AreLinked graph slots modules others) (every : All IsModule modules)
    (each : requests_in modules ≡ length others) (below_firsts : All (λ lead. lead < length slots) firsts)
    (below_others : All (λ lead. lead < length slots) others) (rooted : roots ≡ map (slot_in slots) firsts) where
  l : Links
  l = record { graph = graph; slots = slots; roots = roots }

  those : List Vertex
  those = dealt modules (map (slot_in slots) others)

  alive : All (IsLive graph) slots
  alive = all_live graph slots (dealt modules (map (slot_in slots) others)) linked.under

  seen : {X : Type 0} (f : Option Vertex → X) → map (λ s. f (value_at graph s)) slots ≡ map (λ v. f (Some v)) (dealt modules (map (slot_in slots) others))
  seen f = sym (map_twice f (value_at graph) slots) ∙ (ap (map f) linked.under ∙ map_twice f Some (dealt modules (map (slot_in slots) others)))

  modules_same : map (λ s. module_in (value_at graph s)) slots ≡ map module_of modules
  modules_same = seen module_in ∙ dealt_same module_of (λ v targets. refl) modules (map (slot_in slots) others)

  sources_same : map (λ s. source_in (value_at graph s)) slots ≡ map source_of modules
  sources_same = seen source_in ∙ dealt_same source_of (λ v targets. refl) modules (map (slot_in slots) others)

  targets_there : flat_map (λ s. targets_in (value_at graph s)) slots ≡ map Some (map (slot_in slots) others)
  targets_there =
      sym (flat_map_twice targets_in (value_at graph) slots)
      ∙ (ap (flat_map targets_in) linked.under
      ∙ (flat_map_twice targets_in Some (dealt modules (map (slot_in slots) others))
      ∙ (deals_in_order modules (map (slot_in slots) others) every (each ∙ sym (length-map others (slot_in slots)))).in_order))

  led : map Some roots ++ flat_map (λ s. targets_in (value_at graph s)) slots ≡ map Some (map (slot_in slots) (firsts ++ others))
  led =
      ap (λ front. map Some front ++ flat_map (λ s. targets_in (value_at graph s)) slots) rooted
      ∙ (ap (λ back. map Some (map (slot_in slots) firsts) ++ back) targets_there
      ∙ (sym (map-append Some (map (slot_in slots) firsts) (map (slot_in slots) others))
      ∙ ap (map Some) (sym (map-append (slot_in slots) firsts others))))

  below : All (λ lead. lead < length slots) (firsts ++ others) → map (led_to graph) (map Some (map (slot_in slots) (firsts ++ others)))
      ≡ map (place_of (map (λ s. module_in (value_at graph s)) slots)) (firsts ++ others)
  below within =
      map_twice (led_to graph) Some (map (slot_in slots) (firsts ++ others))
      ∙ (map_twice (λ s. module_in (value_at graph s)) (slot_in slots) (firsts ++ others)
      ∙ map_below (λ lead. module_in (value_at graph (slot_in slots lead))) (place_of (map (λ s. module_in (value_at graph s)) slots)) (length slots) (firsts ++ others) within
      (λ lead lt. sym (get_or-map (λ s. module_in (value_at graph s)) slots lead (record { index = 0; generation = 0 }) no_module lt)))

  pub is_graph_of : (leads : List ℕ) → firsts ++ others ≡ leads → All (λ lead. lead < length slots) leads
      → IsGraphOf modules leads (record { graph = graph; slots = slots; roots = roots })
  is_graph_of leads parts within = record {
    modules_are = modules_same;
    sources_are = sources_same;
    targets_are = subst (λ all. map (led_to graph) (map Some roots ++ flat_map (λ s. targets_in (value_at graph s)) slots) ≡ map (place_of (map module_of modules)) all) parts
        (ap (map (led_to graph)) led
        ∙ (below (subst (All (λ lead. lead < length slots)) (sym parts) within)
        ∙ ap (λ ms. map (place_of ms) (firsts ++ others)) modules_same));
  }

  alive_at : (lead : ℕ) → lead < length slots → IsLive graph (slot_in slots lead)
  alive_at lead lt = All-get_or (IsLive graph) slots lead (record { index = 0; generation = 0 }) lt alive

  pub is_linked : IsLinked (record { graph = graph; slots = slots; roots = roots })
  is_linked = record {
    slots = alive;
    roots = subst (All (IsLive graph)) (sym rooted)
        (All-map (IsLive graph) (slot_in slots) firsts (All-weaker (λ lead. lead < length slots) (λ lead. IsLive graph (slot_in slots lead)) alive_at firsts below_firsts));
    targets = subst (All (IsSet graph)) (sym targets_there)
        (All-map (IsSet graph) Some (map (slot_in slots) others)
        (All-map (IsLive graph) (slot_in slots) others (All-weaker (λ lead. lead < length slots) (λ lead. IsLive graph (slot_in slots lead)) alive_at others below_others)));
    apart = linked.apart;
    alone = linked.alone;
  }

-- ---- what is lent of it

pub as_many_specifiers : (v : Vertex) → length v.requests.value ≡ length (source_of v).specifiers
as_many_specifiers v = sym (length-map v.requests.value (λ (r : Request). r.text))

live_at : (graph : Places) (slots : List Slot) (place : ℕ) (s : Slot) → slice_get slots place ≡ Some s
    → All (IsLive graph) slots → IsLive graph s
live_at graph slots place s at all =
    subst (IsLive graph) (get_or_from_slice_get slots place s s at) (all place s (slice_get_within slots place s at))

pub live_some : (graph : Places) (slots : List Slot) (place : ℕ) (found : Option Slot) → found ≡ slice_get slots place
    → All (IsLive graph) slots → IfSome found (IsLive graph)
live_some graph slots place None is all = tt
live_some graph slots place (Some s) is all = live_at graph slots place s (sym is) all

module _ {X : Type 0} (f : Option Vertex → X) (graph : Places) (slots : List Slot) (place : ℕ) where
  pub seen_some : (s : Slot) (found : Option Vertex) → slice_get slots place ≡ Some s → found ≡ value_at graph s
      → All (IsLive graph) slots → option_map (λ v. f (Some v)) found ≡ slice_get (map (λ s. f (value_at graph s)) slots) place
  seen_some s found at is all =
      let live = live_at graph slots place s at all in
      ap (option_map (λ v. f (Some v))) (is ∙ live.1)
      ∙ (ap (λ o. Some (f o)) (sym live.1)
      ∙ (ap (option_map (λ s. f (value_at graph s))) (sym at)
      ∙ sym (slice_get-map (λ s. f (value_at graph s)) slots place)))

  pub seen_none : slice_get slots place ≡ None → None ≡ slice_get (map (λ s. f (value_at graph s)) slots) place
  seen_none none = sym (slice_get-map (λ s. f (value_at graph s)) slots place ∙ ap (option_map (λ s. f (value_at graph s))) none)
