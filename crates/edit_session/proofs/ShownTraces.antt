-- A trace that is shown.
--     map_alike, map_twice, all_alike      lists, one element after another
--     module_of_shown, slot_of_shown       what is shown under a slot
--     showing_same, sources_same           where the same is shown
--     keeps_itself                         it is kept
--     shows_trace                          a copy of a trace shows it
--     shown_then, places_then              what was planned is shown
--     plans_as, has_plan                   a plan
use Rattle.std.proofs.Common.{◌≡◌, ◌<◌, ◌++◌, ℕ, zero, suc, List, [], ◌∷◌, length, map, drop, Option, Some, None, refl, sym, ap, ◌∙◌, subst, arith}
use Rattle.std.specs.Prelude.{◌≢◌, true, is_some, All, flat_map, slice_get, option_map}
use Rattle.std.proofs.lemmas.List.{length-map}
use Rattle.std.proofs.lemmas.List.Elements.{All-head, All-tail}
use Rattle.std.proofs.lemmas.Option.{slice_get-map, slice_get-get_or, slice_get_within, get_or_from_slice_get}
use Rattle.tree_spec.specs.Trees.{Tree}
use Rattle.slot_arena.specs.Slots.{Place, value_at}
use Rattle.slot_arena.specs.declared.slot.Slot.{Slot}
use Rattle.module_spec.specs.declared.request.Request.{Request}
use Rattle.module_graph.specs.declared.module.Module as vertex
use Rattle.module_graph.specs.Calls.{begin}
use Rattle.module_graph.specs.Graphs.{AreModules}
use Rattle.module_graph.specs.Many.{AreApart}
use Rattle.module_graph.specs.Modules.{IsModule}
use Rattle.module_graph.proofs.WellMade.{live_is_module}
use Rattle.trace_spec.specs.Checks.{Gathered}
use Rattle.trace_spec.specs.Modules.{Config}
use Rattle.trace_spec.specs.Questions.{Source}
use Rattle.trace_graph.specs.Links.{Links, IsLinked, module_in, source_in, targets_in, led_to, modules_of, sources_of, all_targets, targets_of}
use Rattle.graph_repair.specs.Repairs.{IsCopyOf, Repairs, ShowsSame, led_by}
use Rattle.graph_repair.specs.declared.parts.Plan.{Plan}
use Rattle.session_spec.specs.Showings.{Shown, module_shown, slot_at, ShowsTrace}
use Rattle.session_watch.specs.Seen.{vertex_shown, shown_at, showing_of}
use Rattle.edit_session.specs.Shown.{Shows, KeepsShown, AreLinksOf, TracedSo, IsShownOf, IsPlan, PlansFor, IsNextShown, NoMorePlaces}

abbrev Vertex : Type 0
Vertex = vertex.Module

abbrev Places : Type 0
Places = List (Place Vertex)

-- ---- lists

pub map_alike : {X Y : Type 0} (f h : X → Y) → ((x : X) → f x ≡ h x) → (xs : List X) → map f xs ≡ map h xs
map_alike f h same [] = refl
map_alike f h same (x ∷ xs) = λ i. same x i ∷ map_alike f h same xs i

pub map_twice : {X Y Z : Type 0} (f : Y → Z) (h : X → Y) (xs : List X) → map f (map h xs) ≡ map (λ x. f (h x)) xs
map_twice f h [] = refl
map_twice f h (x ∷ xs) = ap (λ ys. f (h x) ∷ ys) (map_twice f h xs)

map_all : {X Y : Type 0} (P : X → Type 0) (f h : X → Y) → ((x : X) → P x → f x ≡ h x) → (xs : List X) → All P xs → map f xs ≡ map h xs
map_all P f h same [] all = refl
map_all P f h same (x ∷ xs) all =
    λ i. same x (All-head P x xs all) i ∷ map_all P f h same xs (All-tail P x xs all) i

flat_map_alike : {X Y : Type 0} (f h : X → List Y) → ((x : X) → f x ≡ h x) → (xs : List X) → flat_map f xs ≡ flat_map h xs
flat_map_alike f h same [] = refl
flat_map_alike f h same (x ∷ xs) = λ i. same x i ++ flat_map_alike f h same xs i

flat_map_twice : {X Y Z : Type 0} (f : Y → List Z) (h : X → Y) (xs : List X) → flat_map f (map h xs) ≡ flat_map (λ x. f (h x)) xs
flat_map_twice f h [] = refl
flat_map_twice f h (x ∷ xs) = ap (λ ys. f (h x) ++ ys) (flat_map_twice f h xs)

drop_front : {X Y : Type 0} (f : Option X → Y) (xs : List X) (ys : List (Option X)) → drop (length xs) (map f (map Some xs ++ ys)) ≡ map f ys
drop_front f [] ys = refl
drop_front f (x ∷ xs) ys = drop_front f xs ys

not_there : (slots : List Slot) (j : ℕ) (s t : Slot) → slice_get slots j ≡ Some s → All (λ u. u ≢ t) slots → s ≡ t → ⊥
not_there slots j s t at all = subst (λ u. u ≢ t) (get_or_from_slice_get slots j s s at) (all j s (slice_get_within slots j s at))

apart_at : (slots : List Slot) → AreApart slots → (i j : ℕ) (s : Slot) → slice_get slots i ≡ Some s → slice_get slots j ≡ Some s → i ≡ j
apart_at [] apart i j s one other = absurd (let bad : None ≡ Some s = one in cc)
apart_at (t ∷ slots) apart zero zero s one other = refl
apart_at (t ∷ slots) apart zero (suc j) s one other =
    absurd (not_there slots j s t other apart.0 (let both : Some t ≡ Some s = one in let is : s ≡ t = cc in is))
apart_at (t ∷ slots) apart (suc i) zero s one other =
    absurd (not_there slots i s t one apart.0 (let both : Some t ≡ Some s = other in let is : s ≡ t = cc in is))
apart_at (t ∷ slots) apart (suc i) (suc j) s one other = ap (λ n. suc n) (apart_at slots apart.1 i j s one other)

-- ---- what is shown under a slot

pub module_of_shown : (s : Slot) (o : Option Vertex) → module_shown (vertex_shown s o) ≡ module_in o
module_of_shown s None = refl
module_of_shown s (Some v) = refl

pub slot_of_shown : (s : Slot) (o : Option Vertex) → (vertex_shown s o).slot ≡ s
slot_of_shown s None = refl
slot_of_shown s (Some v) = refl

targets_of_shown : (s : Slot) (o : Option Vertex) → (vertex_shown s o).targets ≡ targets_in o
targets_of_shown s None = refl
targets_of_shown s (Some v) = refl

count_of_shown : (s : Slot) (o : Option Vertex) → ((v : Vertex) → o ≡ Some v → IsModule v)
    → length (vertex_shown s o).targets ≡ length (source_in o).specifiers
count_of_shown s None well = refl
count_of_shown s (Some v) well =
    (well v refl).one_each ∙ sym (length-map v.requests.value (λ (r : Request). r.text))

pub modules_shown : (l : Links) → map module_shown (showing_of l.graph l.slots) ≡ modules_of l
modules_shown l =
    map_twice module_shown (shown_at l.graph) l.slots
    ∙ map_alike (λ s. module_shown (shown_at l.graph s)) (λ s. module_in (value_at l.graph s))
    (λ s. module_of_shown s (value_at l.graph s)) l.slots

slot_there : (g : Places) (slots : List Slot) (j : ℕ) → slot_at (showing_of g slots) j ≡ slice_get slots j
slot_there g slots j = ap (option_map (λ (v : Shown). v.slot)) (slice_get-map (shown_at g) slots j) ∙ back (slice_get slots j)
  where
    back : (o : Option Slot) → option_map (λ (v : Shown). v.slot) (option_map (shown_at g) o) ≡ o
    back None = refl
    back (Some s) = ap Some (slot_of_shown s (value_at g s))

-- ---- the same is shown

pub showing_same : (old new : Links) → ShowsSame old new → showing_of new.graph new.slots ≡ showing_of old.graph old.slots
showing_same old new same =
    ap (showing_of new.graph) same.slots
    ∙ map_alike (shown_at new.graph) (shown_at old.graph) (λ s. ap (vertex_shown s) (same.values s)) old.slots

pub sources_same : (old new : Links) → ShowsSame old new → sources_of new ≡ sources_of old
sources_same old new same =
    ap (λ ss. map (λ s. source_in (value_at new.graph s)) ss) same.slots
    ∙ map_alike (λ s. source_in (value_at new.graph s)) (λ s. source_in (value_at old.graph s))
    (λ s. ap source_in (same.values s)) old.slots

pub sames_itself : (l : Links) → ShowsSame l l
sames_itself l = record { calls = begin; slots = refl; values = λ s. refl; as_many = refl; no_fewer = omega arith }

pub keeps_itself : (l : Links) → KeepsShown l l
keeps_itself l = record { same = sames_itself l; few = omega arith }

-- ---- a copy of a trace

module _ (entries : ℕ) (l new : Links) (all : Gathered) (linked : IsLinked new) (modules : AreModules new.graph) (copy : IsCopyOf l new)
    (count : length l.roots ≡ entries) (of : AreLinksOf l all) where
  abbrev showing : List Shown
  showing = showing_of new.graph new.slots

  each_so : map (λ (v : Shown). length v.targets) showing ≡ map (λ (source : Source). length source.specifiers) all.sources
  each_so =
      map_twice (λ (v : Shown). length v.targets) (shown_at new.graph) new.slots
      ∙ (map_alike (λ s. length (shown_at new.graph s).targets) (λ s. length (source_in (value_at new.graph s)).specifiers)
      (λ s. count_of_shown s (value_at new.graph s) (λ v is. live_is_module new.graph s v modules is)) new.slots
      ∙ (sym (map_twice (λ (source : Source). length source.specifiers) (λ s. source_in (value_at new.graph s)) new.slots)
      ∙ ap (map (λ (source : Source). length source.specifiers)) (copy.sources ∙ of.sources)))

  behind_entries : drop entries all.targets ≡ map (led_to l.graph) (all_targets l)
  behind_entries =
      ap (λ ts. drop entries ts) (sym of.targets)
      ∙ (ap (λ n. drop n (targets_of l)) (sym count) ∙ drop_front (led_to l.graph) l.roots (all_targets l))

  at_lead : (lead : ℕ) → lead < length l.slots → slice_get all.modules lead ≡ Some (led_to l.graph (led_by l.slots lead))
  at_lead lead within =
      ap (λ ms. slice_get ms lead) (sym of.modules)
      ∙ (slice_get-map (λ s. module_in (value_at l.graph s)) l.slots lead
      ∙ ap (option_map (λ s. module_in (value_at l.graph s)))
      (slice_get-get_or l.slots lead (record { index = 0; generation = 0 }) within))

  led_so : map (λ lead. slice_get all.modules lead) copy.leads ≡ map Some (drop entries all.targets)
  led_so =
      map_all (λ lead. lead < length l.slots) (λ lead. slice_get all.modules lead)
      (λ lead. Some (led_to l.graph (led_by l.slots lead))) at_lead copy.leads copy.within
      ∙ (sym (map_twice Some (λ lead. led_to l.graph (led_by l.slots lead)) copy.leads)
      ∙ ap (map Some)
      (sym (map_twice (led_to l.graph) (led_by l.slots) copy.leads)
      ∙ (ap (map (led_to l.graph)) copy.led ∙ sym behind_entries)))

  slot_led : (lead : ℕ) → lead < length l.slots → led_by new.slots lead ≡ slot_at showing lead
  slot_led lead within =
      let few = copy.count in
      sym
      (slot_there new.graph new.slots lead
      ∙ slice_get-get_or new.slots lead (record { index = 0; generation = 0 }) (omega (arith, within, few)))

  targets_so : flat_map (λ (v : Shown). v.targets) showing ≡ map (λ lead. slot_at showing lead) copy.leads
  targets_so =
      flat_map_twice (λ (v : Shown). v.targets) (shown_at new.graph) new.slots
      ∙ (flat_map_alike (λ s. (shown_at new.graph s).targets) (λ s. targets_in (value_at new.graph s))
      (λ s. targets_of_shown s (value_at new.graph s)) new.slots
      ∙ (copy.led_so
      ∙ map_all (λ lead. lead < length l.slots) (led_by new.slots) (λ lead. slot_at showing lead) slot_led copy.leads copy.within))

  pub shows_trace : ShowsTrace entries all (showing_of new.graph new.slots)
  shows_trace = record {
    modules = modules_shown new ∙ (copy.modules ∙ of.modules);
    apart = λ i j s one other.
        apart_at new.slots linked.apart i j s (sym (slot_there new.graph new.slots i) ∙ one)
        (sym (slot_there new.graph new.slots j) ∙ other);
    each = each_so;
    leads = copy.leads;
    led = led_so;
    targets = targets_so;
  }

-- ---- what was planned

module _ (If : (Tree → Type 0) → Type 0) (config : Config) (now : Shows) (new : Links) (plans : PlansFor If config now)
    (next : IsNextShown now.links plans.plan new) where
  repairs_then : Repairs plans.made now.links plans.links new
  repairs_then = next.repairs plans.made plans.links plans.planned

  pub shown_then : (tree : Tree) → TracedSo tree config plans.links → IsShownOf tree config new
  shown_then tree so = record {
    shows = λ all is.
        shows_trace (length config.entries) plans.links new all repairs_then.linked next.modules repairs_then.copy plans.entries (so all is);
    sources = λ all is. repairs_then.copy.sources ∙ (so all is).sources;
  }

pub places_then : (old new : Links) (plan : Plan) → IsPlan old plan → IsNextShown old plan new
    → NoMorePlaces old new
places_then old new plan (made, l, planned) next = (next.repairs made l planned).places

-- ---- a plan for something else

pub plans_as : (If Other : (Tree → Type 0) → Type 0) (config : Config) (now : Shows)
    → ((l : Links) → If (λ tree. TracedSo tree config l) → Other (λ tree. TracedSo tree config l)) → PlansFor If config now
    → PlansFor Other config now
plans_as If Other config now goes plans = record {
  plan = plans.plan;
  is_there = plans.is_there;
  made = plans.made;
  within = plans.within;
  links = plans.links;
  planned = plans.planned;
  linked = plans.linked;
  entries = plans.entries;
  traced_so = goes plans.links plans.traced_so;
}

pub has_plan : (If : (Tree → Type 0) → Type 0) (config : Config) (now : Shows) → PlansFor If config now → is_some now.plan ≡ true
has_plan If config now plans = ap is_some plans.is_there
