-- A plan, from what is found.
--     moved_found, moved_matching      what is found in a graph is found in one with the same modules
--     ready_of                         the parts are ready
--     nothing_found                    what is found in a new graph
--     repairs_by                       a repair by a plan
--     grown_few, begun_few             how many places there are then
use Rattle.std.proofs.Common.{◌≡◌, ◌≢◌, ◌≤◌, ◌<◌, ◌+◌, ◌-◌, ◌%◌, ◌++◌, ℕ, zero, suc, List, [], ◌∷◌, length, map, reverse, replicate, take, Option, Some, None, Result, Ok, Err, IfOk, refl, sym, ap, ◌∙◌, subst, arith, inl, inr}
use Rattle.std.specs.Prelude.{◌⊎◌, All, IfSome, flat_map}
use Rattle.tree_spec.specs.declared.LimitName.TheVariants.{Modules}
use Rattle.tree_spec.specs.Limits.{limit_number}
use Rattle.std.proofs.lemmas.List.{length-map, length-reverse, reverse-reverse}
use Rattle.std.proofs.lemmas.List.Elements.{All-nil, All-weaker}
use Rattle.slot_arena.specs.Slots.{Place, value_at, IsGiven, with_places}
use Rattle.slot_arena.proofs.Reserving.{wanted_few}
use Rattle.slot_arena.proofs.SlotLaws.{each_grows}
use Rattle.slot_arena.specs.Counts.{spare, live, wanted}
use Rattle.slot_arena.specs.declared.slot.Slot.{Slot}
use Rattle.module_graph.specs.declared.module.Module as vertex
use Rattle.module_graph.specs.Graphs.{AreModules}
use Rattle.module_graph.specs.Calls.{Calls, begin, reserved}
use Rattle.module_graph.specs.Modules.{IsModule}
use Rattle.module_graph.specs.Many.{AreApart}
use Rattle.trace_graph.specs.Links.{Links, IsLinked, IsLive, IsSet, module_in, targets_in}
use Rattle.trace_graph.proofs.Showing.{all_reversed}
use Rattle.graph_repair.specs.declared.parts.Parts.{Parts}
use Rattle.graph_repair.specs.declared.parts.Plan.{Plan}
use Rattle.graph_repair.specs.Matching.{AreOnce, somes, missing, filled, IsAlike, AreKept, IsMatching}
use Rattle.graph_repair.specs.Finding.{names, HasLike, IsFound}
use Rattle.graph_repair.specs.Leads.{AreInTheirPlaces}
use Rattle.graph_repair.specs.Repairs.{Repairs, ShowsSame, led_by, most_made, most_at_once}
use Rattle.graph_repair.specs.Plans.{AreAdded, HasRoom, IsReady, IsRepaired, IsBegun, IsPlanned, shown, base}
use Rattle.module_graph.proofs.WellMade.{modules-grown}
use native.Mathlib.Nat.{div-add-mod', mod-lt}
use Rattle.graph_repair.proofs.Joining.{join_all, added_well, added_count, kept_count}

abbrev Vertex : Type 0
Vertex = vertex.Module

abbrev Places : Type 0
Places = List (Place Vertex)

-- ---- in a graph with the same modules

map_same : {X Y : Type 0} (f h : X → Y) → ((x : X) → f x ≡ h x) → (xs : List X) → map f xs ≡ map h xs
map_same f h same [] = refl
map_same f h same (x ∷ xs) = λ i. same x i ∷ map_same f h same xs i

kept_moved : (g h other : Places) → ((s : Slot) → value_at h s ≡ value_at g s) → (keeps : List (Option Slot)) (slots : List Slot) → AreKept g other keeps slots → AreKept h other keeps slots
kept_moved g h other same [] [] kept = tt
kept_moved g h other same [] (s ∷ slots) kept = absurd kept
kept_moved g h other same (None ∷ keeps) [] kept = absurd kept
kept_moved g h other same (Some k ∷ keeps) [] kept = absurd kept
kept_moved g h other same (None ∷ keeps) (s ∷ slots) kept = kept_moved g h other same keeps slots kept
kept_moved g h other same (Some k ∷ keeps) (s ∷ slots) kept = (
  subst (λ o. IsAlike o (value_at other s)) (sym (same k)) kept.0,
  kept_moved g h other same keeps slots kept.1,
)

live_moved : (g h : Places) → ((s : Slot) → value_at h s ≡ value_at g s) → (slots : List Slot) → All (IsLive g) slots → All (IsLive h) slots
live_moved g h same slots all = All-weaker (IsLive g) (IsLive h) (λ s alive. (alive.0, same s ∙ alive.1)) slots all

module _ (g h : Places) (slots : List Slot) (other : Places) (rest : List Slot) (left keeps : List (Option Slot)) (same : (s : Slot) → value_at h s ≡ value_at g s)
    (found : IsFound g slots other rest left keeps) where
  names_same : names h slots ≡ names g slots
  names_same = map_same (λ s. module_in (value_at h s)) (λ s. module_in (value_at g s)) (λ s. ap module_in (same s)) slots

  pub moved_found : IsFound h slots other rest left keeps
  moved_found = record {
    kept = kept_moved g h other same keeps rest found.kept;
    live = live_moved g h same (somes keeps) found.live;
    apart = found.apart;
    stays = found.stays;
    left_apart = found.left_apart;
    left_live = live_moved g h same (somes left) found.left_live;
    counts = found.counts;
    found = λ once other_once i j s t at there alike.
        found.found (subst AreOnce names_same once) other_once i j s t at there (subst (λ o. IsAlike o (value_at other t)) (same s) alike);
    tracked = λ i s at.
        elim (found.tracked i s at) [
          | inl is ↦ inl is
          | inr like ↦ inr (subst (HasLike other rest) (sym (same s)) like)
        ];
  }

pub matching_of : (g : Places) (slots : List Slot) (l : Links) (left keeps : List (Option Slot)) → IsFound g slots l.graph l.slots left keeps
    → IsMatching (shown g slots) l keeps
matching_of g slots l left keeps found = record { kept = found.kept; apart = found.apart; found = found.found }

-- ---- parts that are ready

pub ready_of : (g : Places) (slots : List Slot) (l : Links) (left : List (Option Slot)) (parts : Parts) → IsFound g slots l.graph l.slots left parts.keeps.items → live g ≡ length slots
    → AreModules g → AreModules l.graph → parts.gone.items ≡ somes left → AreAdded l.graph parts.keeps.items l.slots (reverse parts.added.items)
    → AreInTheirPlaces l parts.leads.items → HasRoom parts → missing parts.keeps.items ≤ spare g → IsReady g l parts
ready_of g slots l left parts found many own theirs gone all leads room enough =
    let keeps = parts.keeps.items in
    let joined = join_all g l.graph parts.keeps.items l.slots (reverse parts.added.items) own theirs found.kept all in
    let count = added_count l.graph parts.keeps.items l.slots (reverse parts.added.items) all in
    let reversed = length-reverse parts.added.items in
    record {
      modules = joined.modules;
      are = joined.are;
      modules_are = joined.modules_are;
      sources_are = joined.sources_are;
      well_made = joined.well_made;
      added_well = subst (All IsModule) (reverse-reverse parts.added.items)
          (all_reversed IsModule (reverse parts.added.items) (added_well l.graph parts.keeps.items l.slots (reverse parts.added.items) all));
      within = leads.within;
      led = leads.led;
      counted = joined.counted ∙ (sym (ap length leads.led) ∙ length-map parts.leads.items (led_by l.slots));
      apart = found.apart;
      stays = subst (λ gone. All (λ s. All (λ t. t ≢ s) gone) (somes parts.keeps.items)) (sym gone) found.stays;
      gone_apart = subst AreApart (sym gone) found.left_apart;
      gone_live = subst (All (IsLive g)) (sym gone) found.left_live;
      alone = (let left_too = ap length gone in let counts = found.counts in omega (arith, left_too, counts, many));
      enough = count ∙ reversed;
      count = kept_count g l.graph parts.keeps.items l.slots found.kept;
      has_spare = omega (arith, count, reversed, enough);
      room = room;
    }

-- ---- a new graph

none_kept : (g other : Places) (slots : List Slot) → AreKept g other (replicate (length slots) None) slots
none_kept g other [] = tt
none_kept g other (s ∷ slots) = none_kept g other slots

no_somes : (n : ℕ) → somes (replicate n None) ≡ []
no_somes zero = refl
no_somes (suc n) = no_somes n

pub nothing_found : (g other : Places) (slots : List Slot) (keeps : List (Option Slot)) → keeps ≡ replicate (length slots) None → IsFound g [] other slots [] keeps
nothing_found g other slots keeps is =
    let none : somes keeps ≡ [] = ap somes is ∙ no_somes (length slots) in
    record {
      kept = subst (λ ks. AreKept g other ks slots) (sym is) (none_kept g other slots);
      live = subst (All (IsLive g)) (sym none) (All-nil (IsLive g));
      apart = subst AreApart (sym none) tt;
      stays = subst (All (λ s. All (λ t. t ≢ s) [])) (sym none) (All-nil (λ s. All (λ t. t ≢ s) []));
      left_apart = tt;
      left_live = All-nil (IsLive g);
      counts = (let many = ap length none in omega (arith, many));
      found = λ once other_once i j s t at. absurd (let bad : None ≡ Some s = at in cc);
      tracked = λ i s at. absurd (let bad : None ≡ Some s = at in cc);
    }

-- ---- a repair by a plan

places_by : (old : Places) (begun : Option Places) (n : ℕ) → IfSome begun (λ g. length g ≤ most_at_once) → n ≡ length (base old begun)
    → (n ≡ length old) ⊎ (n ≤ most_at_once)
places_by old None n few is = inl is
places_by old (Some g) n few is = inr (omega (arith, few, is))

renewed_by : (old : Places) (begun : Option Places) (n : ℕ) → IfSome begun (λ g. length g ≤ most_at_once) → n ≡ length (base old begun) → (begun ≡ None → ⊥) → n ≤ most_at_once
renewed_by old None n few is other = absurd (other refl)
renewed_by old (Some g) n few is other = omega (arith, few, is)

pub repairs_by : (made : ℕ) (old l : Links) (plan : Plan) (new : Links) → IsPlanned made old l plan → IsRepaired (base old.graph plan.begun) l plan.parts new
    → Repairs made old l new
repairs_by made old l plan new planned repaired = record {
  copy = repaired.copy;
  linked = repaired.linked;
  keeps = planned.keeps;
  matching = planned.matching;
  lasts = λ few.
      (let none : plan.begun ≡ None = planned.renews.1 few in
      let same : base old.graph plan.begun ≡ old.graph = ap (base old.graph) none in
      record {
        calls = subst (λ g. Calls g new.graph) same repaired.lasts.calls;
        given = repaired.lasts.given;
        slots = repaired.lasts.slots ∙ ap (λ ks. filled ks repaired.lasts.given) (planned.going none);
        never = subst (λ g. All (λ s. IsGiven g s → ⊥) repaired.lasts.given) same repaired.lasts.never;
      });
  places = places_by old.graph plan.begun (length new.graph) planned.few repaired.made;
  renewed = λ full. renewed_by old.graph plan.begun (length new.graph) planned.few repaired.made (λ none. (let few = planned.renews.0 none in omega (arith, few, full)));
}

-- ---- a graph that shows the same

values_same : (g h : Places) → ((s : Slot) → value_at h s ≡ value_at g s) → value_at h ≡ value_at g
values_same g h same = λ i s. same s i

pub linked_moved : (g h : Places) (slots : List Slot) → ShowsSame (shown g slots) (shown h slots) → IsLinked (shown g slots) → IsLinked (shown h slots)
linked_moved g h slots same linked = record {
  slots = live_moved g h same.values slots linked.slots;
  roots = All-nil (IsLive h);
  targets = subst (All (IsSet h)) (ap (λ (f : Slot → Option Vertex). flat_map (λ s. targets_in (f s)) slots) (sym (values_same g h same.values)))
      (All-weaker (IsSet g) (IsSet h) set_moved (flat_map (λ s. targets_in (value_at g s)) slots) linked.targets);
  apart = linked.apart;
  alone = same.as_many ∙ linked.alone;
}
  where
    set_moved : (target : Option Slot) → IsSet g target → IsSet h target
    set_moved None set = set
    set_moved (Some s) alive = (alive.0, same.values s ∙ alive.1)

pub shows_itself : (l : Links) → ShowsSame l l
shows_itself l = record { calls = begin; slots = refl; values = λ s. refl; as_many = refl; no_fewer = omega arith }

pub shows_same : (g h : Places) (slots : List Slot) → h ≡ g → ShowsSame (shown g slots) (shown h slots)
shows_same g h slots is = subst (λ a. ShowsSame (shown g slots) (shown a slots)) (sym is) (shows_itself (shown g slots))

pub shows_grown : (g h : Places) (n : ℕ) (slots : List Slot) → h ≡ with_places g n → ShowsSame (shown g slots) (shown h slots)
shows_grown g h n slots is =
    let law = each_grows Vertex g n in
    record {
      calls = subst (Calls g) (sym is) (reserved n begin);
      slots = refl;
      values = λ s. ap (λ a. value_at a s) is ∙ law.everywhere s;
      as_many = ap live is ∙ law.as_live;
      no_fewer = (let more = law.made in let same = ap length is in omega (arith, more, same));
    }

pub grown_few : (g h : Places) (n : ℕ) → n ≤ limit_number Modules → h ≡ with_places g (wanted (spare g) n) → length h ≤ length g + most_at_once
grown_few g h n few is =
    let made = (each_grows Vertex g (wanted (spare g) n)).made in
    let same = ap length is in
    let less = wanted_few (spare g) n in
    omega (arith, made, same, less, few)

pub begun_few : (empty h : Places) (n : ℕ) → empty ≡ [] → n ≤ limit_number Modules → h ≡ with_places empty (wanted (spare empty) n) → length h ≤ most_at_once
begun_few empty h n none few is =
    let nothing = ap length none in let all = grown_few empty h n few is in omega (arith, nothing, all)

-- ---- a plan that keeps the graph, and one that begins another

pub planned_on : (made : ℕ) (g h : Places) (slots : List Slot) (l : Links) (left : List (Option Slot)) (plan : Plan) → ((s : Slot) → value_at h s ≡ value_at g s) → live h ≡ live g
    → IsFound g slots l.graph l.slots left plan.parts.keeps.items → live g ≡ length slots → plan.begun ≡ None → made + missing plan.parts.keeps.items < most_made
    → (IsFound h slots l.graph l.slots left plan.parts.keeps.items → live h ≡ length slots → IsReady h l plan.parts) → IsPlanned made (shown h slots) l plan
planned_on made g h slots l left plan same many found alone none few ready =
    let there = moved_found g h slots l.graph l.slots left plan.parts.keeps.items same found in
    record {
      keeps = plan.parts.keeps.items;
      matching = matching_of h slots l left plan.parts.keeps.items there;
      renews = (λ is. few, λ below. none);
      going = λ is. refl;
      few = subst (λ b. IfSome b (λ g. length g ≤ most_at_once)) (sym none) tt;
      ready = subst (λ b. IsReady (base h b) l plan.parts) (sym none) (ready there (many ∙ alone));
    }

pub planned_anew : (made : ℕ) (h : Places) (slots : List Slot) (l : Links) (left keeps : List (Option Slot)) (plan : Plan) → IsFound h slots l.graph l.slots left keeps
    → (made + missing keeps < most_made → ⊥) → IsBegun l plan → IsPlanned made (shown h slots) l plan
planned_anew made h slots l left keeps plan found many begun = record {
  keeps = keeps;
  matching = matching_of h slots l left keeps found;
  renews = (λ is. absurd (let bad : None ≡ Some begun.graph = sym is ∙ begun.begun in cc), λ below. absurd (many below));
  going = λ is. absurd (let bad : None ≡ Some begun.graph = sym is ∙ begun.begun in cc);
  few = subst (λ b. IfSome b (λ g. length g ≤ most_at_once)) (sym begun.begun) begun.few;
  ready = subst (λ b. IsReady (base h b) l plan.parts) (sym begun.begun) begun.ready;
}

-- ---- a new graph

no_modules : AreModules []
no_modules zero m is = absurd (let bad : None ≡ Some m = is in cc)
no_modules (suc i) m is = absurd (let bad : None ≡ Some m = is in cc)

all_missing : (n : ℕ) → missing (replicate n None) ≡ n
all_missing zero = refl
all_missing (suc n) = let rest = all_missing n in omega (arith, rest)

none_taken : (n : ℕ) (xs : List (Option Slot)) → xs ≡ [] → take n xs ≡ []
none_taken zero xs none = refl
none_taken (suc n) [] none = refl
none_taken (suc n) (x ∷ xs) none = absurd (cc)

wanted_enough : (have n : ℕ) → n ≤ have + wanted have n
wanted_enough have n =
    let r : (n - have + 63) % 64 < 64 = mod-lt (n - have + 63) (omega arith) in
    omega (arith, div-add-mod' (n - have + 63) 64, r)

spare_enough : (empty graph : Places) (n : ℕ) → graph ≡ with_places empty (wanted (spare empty) n) → n ≤ spare graph
spare_enough empty graph n is =
    let more = (each_grows Vertex empty (wanted (spare empty) n)).more_spare in
    let same = ap spare is in
    let enough = wanted_enough (spare empty) n in
    omega (arith, more, same, enough)

none_live : (empty graph : Places) (n : ℕ) → empty ≡ [] → graph ≡ with_places empty n → live graph ≡ 0
none_live empty graph n none is = ap live is ∙ ((each_grows Vertex empty n).as_live ∙ ap live none)

pub begun_so : (empty h : Places) (l : Links) (keeps : List (Option Slot)) (gone : List Slot) (parts : Parts) → empty ≡ [] → h ≡ with_places empty (wanted (spare empty) (length l.slots))
    → keeps ≡ replicate (length l.slots) None → gone ≡ [] → parts.gone.items ≡ gone → parts.keeps.items ≡ keeps → AreModules l.graph
    → AreAdded l.graph keeps l.slots (reverse parts.added.items) → AreInTheirPlaces l parts.leads.items → HasRoom parts → IsReady h l parts
begun_so empty h l keeps gone parts none grown all_none gone_none gone_is keeps_are theirs added leads room =
    let keeps_so : parts.keeps.items ≡ replicate (length l.slots) None = keeps_are ∙ all_none in
    let count = ap missing keeps_so in
    let many = all_missing (length l.slots) in
    let enough = spare_enough empty h (length l.slots) grown in
    ready_of h [] l [] parts (nothing_found h l.graph l.slots parts.keeps.items keeps_so) (none_live empty h (wanted (spare empty) (length l.slots)) none grown)
    (subst AreModules (sym grown) (modules-grown empty (wanted (spare empty) (length l.slots)) (subst AreModules (sym none) no_modules))) theirs (gone_is ∙ gone_none)
    (subst (λ ks. AreAdded l.graph ks l.slots (reverse parts.added.items)) (sym keeps_are) added) leads room (omega (arith, count, many, enough))

-- ---- the graph that goes on

pub going_on : (g h : Places) (slots : List Slot) (l : Links) (left : List (Option Slot)) (gone : List Slot) (keeps : List (Option Slot)) (n : ℕ) (plan : Plan)
    → h ≡ with_places g (wanted (spare g) n) → n ≡ missing keeps → length g + n < most_made → plan.begun ≡ None → plan.parts.keeps.items ≡ keeps → plan.parts.gone.items ≡ gone → gone ≡ somes left
    → AreModules g → AreModules l.graph → AreAdded l.graph keeps l.slots (reverse plan.parts.added.items) → AreInTheirPlaces l plan.parts.leads.items → HasRoom plan.parts
    → IsFound g slots l.graph l.slots left keeps → live g ≡ length slots → IsPlanned (length g) (shown h slots) l plan
going_on g h slots l left gone keeps n plan grown count few none keeps_are gone_is gone_so own theirs added leads room found alone =
    let same = shows_grown g h (wanted (spare g) n) slots grown in
    let enough = spare_enough g h n grown in
    let kept = ap missing keeps_are in
    planned_on (length g) g h slots l left plan same.values same.as_many (subst (IsFound g slots l.graph l.slots left) (sym keeps_are) found) alone none (omega (arith, kept, few, count))
    (λ there many. ready_of h slots l left plan.parts there many (subst AreModules (sym grown) (modules-grown g (wanted (spare g) n) own)) theirs (gone_is ∙ gone_so)
    (subst (λ ks. AreAdded l.graph ks l.slots (reverse plan.parts.added.items)) (sym keeps_are) added) leads room (omega (arith, kept, count, enough)))

pub if_ok : {X E : Type 0} (r : Result X E) (P Q : X → Type 0) → IfOk r P → ((x : X) → P x → Q x) → IfOk r Q
if_ok (Ok x) P Q is next = next x is
if_ok (Err e) P Q is next = tt

pub resized : (n m k : ℕ) (old new : List (Option Slot)) → new ≡ take n old ++ replicate (n - k) None → old ≡ [] → k ≡ 0 → n ≡ m → new ≡ replicate m None
resized n m k old new is none nothing same =
    let count : n - k ≡ m = omega (arith, nothing, same) in
    is
    ∙ (ap (λ xs. xs ++ replicate (n - k) None) (none_taken n old none) ∙ ap (λ j. replicate j None) count)
