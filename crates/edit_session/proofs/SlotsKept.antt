-- Two showings, one after another.
--     shown_there         what is shown at a place
--     next_showing        what stays in both trees has one slot
--     showing_itself      where nothing else is shown
use Rattle.std.proofs.Common.{◌≡◌, ◌≤◌, ◌<◌, ◌⊎◌, ◌+◌, ℕ, zero, suc, List, [], ◌∷◌, length, map, Option, Some, None, Ok, refl, sym, ap, ◌∙◌, subst, inl, inr, arith}
use Rattle.std.specs.FinMap.{get}
use Rattle.std.specs.Prelude.{All, slice_get, option_map}
use Rattle.std.proofs.lemmas.List.{length-map}
use Rattle.std.proofs.lemmas.Option.{slice_get-map, slice_get_within, get_or_from_slice_get}
use Rattle.tree_spec.specs.LookAskings.{Sights}
use Rattle.tree_spec.specs.Limits.{limit_number}
use Rattle.tree_spec.specs.Trees.{Tree}
use Rattle.tree_spec.specs.declared.Entry.TheVariants.{Stored}
use Rattle.tree_spec.specs.declared.LimitName.TheVariants.{Modules}
use Rattle.slot_arena.specs.Slots.{Place, value_at}
use Rattle.slot_arena.specs.declared.slot.Slot.{Slot}
use Rattle.module_spec.specs.declared.request.Request.{Request}
use Rattle.module_spec.specs.Outlines.{Outline, ReadsOutline}
use Rattle.module_spec.proofs.OutlineLaws.{one_outline}
use Rattle.module_graph.specs.declared.module.Module as vertex
use Rattle.trace_spec.specs.Checks.{Gathered}
use Rattle.trace_spec.specs.Laws.{HasSource}
use Rattle.trace_spec.specs.Modules.{Config, Module}
use Rattle.trace_spec.specs.Questions.{Source}
use Rattle.trace_spec.specs.Traces.{traced, source}
use Rattle.trace_spec.proofs.Sources.{sources_are_read}
use Rattle.trace_spec.proofs.Traces.{modules_once, few_modules, goes_in_order}
use Rattle.trace_graph.specs.Links.{Links, IsLive, module_in, source_in, modules_of, sources_of}
use Rattle.graph_repair.specs.Matching.{AreOnce, missing, IsAlike}
use Rattle.graph_repair.specs.Neighbours.{LastsBetween}
use Rattle.graph_repair.specs.Repairs.{Repairs}
use Rattle.graph_repair.proofs.Filling.{missing_few}
use Rattle.graph_repair.proofs.Joining.{kept_count}
use Rattle.graph_repair.proofs.Neighbours.{slots_last}
use Rattle.slot_arena.proofs.Times.{below_or_not}
use Rattle.session_spec.specs.Showings.{Shown, module_shown, ShowsTrace, KeepsSlots, most_made}
use Rattle.session_watch.specs.Seen.{shown_at, showing_of}
use Rattle.edit_session.specs.Shown.{Shows, AreLinksOf, IsShownOf, PlansFor, IsNextShown, SlotsGo}
use Rattle.edit_session.proofs.ShownTraces.{module_of_shown, slot_of_shown, modules_shown}

abbrev Vertex : Type 0
Vertex = vertex.Module

abbrev Places : Type 0
Places = List (Place Vertex)

-- ---- places of lists

pub record IsShownAt (g : Places) (slots : List Slot) (i : ℕ) (v : Shown) : Type 0 where
  pub slot : Slot
  pub at : slice_get slots i ≡ Some slot
  pub is : v ≡ shown_at g slot

pub shown_there : (g : Places) (slots : List Slot) (i : ℕ) (v : Shown) → slice_get (showing_of g slots) i ≡ Some v → IsShownAt g slots i v
shown_there g [] i v at = absurd (let bad : None ≡ Some v = at in cc)
shown_there g (s ∷ slots) zero v at = record { slot = s; at = refl; is = (let both : Some (shown_at g s) ≡ Some v = at in cc) }
shown_there g (s ∷ slots) (suc i) v at =
    (let more = shown_there g slots i v at in record { slot = more.slot; at = more.at; is = more.is })

mapped_at : {X Y : Type 0} (f : X → Y) (xs : List X) (i : ℕ) (x : X) → slice_get xs i ≡ Some x → slice_get (map f xs) i ≡ Some (f x)
mapped_at f xs i x at = slice_get-map f xs i ∙ ap (option_map f) at

-- ---- sources

own_source : (sights : Sights) (config : Config) (all : Gathered) → traced sights config ≡ Ok all → (i : ℕ) (m : Module) (own : Source)
    → slice_get all.modules i ≡ Some m → slice_get all.sources i ≡ Some own → source sights m ≡ Some own
own_source sights config all is i m own at there =
    let left : slice_get (map Some all.sources) i ≡ Some (Some own) = mapped_at Some all.sources i own there in
    let right : slice_get (map (source sights) all.modules) i ≡ Some (source sights m) = mapped_at (source sights) all.modules i m at in
    let same = ap (λ xs. slice_get xs i) (goes_in_order sights config all is).sources in
    let both : Some (source sights m) ≡ Some (Some own) = sym right ∙ (sym same ∙ left) in
    cc

same_source : (sights other : Sights) (m n : Module) (one two : Source) → source sights m ≡ Some one → source other n ≡ Some two → m ≡ n
    → sights m.path ≡ other m.path → one ≡ two
same_source sights other m n one two is is_two same agree =
    let here : HasSource sights m one = (sources_are_read sights m one).0 is in
    let there : HasSource other n two = (sources_are_read other n two).0 is_two in
    let both : Some (Stored one.bytes) ≡ Some (Stored two.bytes) =
    sym here.stored ∙ (agree ∙ (ap (λ (k : Module). other k.path) same ∙ there.stored)) in
    let stored : Stored one.bytes ≡ Stored two.bytes = cc in
    let bytes : one.bytes ≡ two.bytes = cc in
    let read : Ok here.outline ≡ Ok there.outline =
    one_outline one.bytes (Ok here.outline) (Ok there.outline) here.reads
    (subst (λ text. ReadsOutline text (Ok there.outline)) (sym bytes) there.reads) in
    let outline : here.outline ≡ there.outline = cc in
    let specifiers : one.specifiers ≡ two.specifiers =
    here.asks ∙ (ap (λ (o : Outline). map (λ (r : Request). r.text) o.requests) outline ∙ sym there.asks) in
    λ i. record { bytes = bytes i; specifiers = specifiers i }

-- ---- modules

alike_of : (o p : Option Vertex) (v w : Vertex) → o ≡ Some v → p ≡ Some w → module_in o ≡ module_in p → source_in o ≡ source_in p → IsAlike o p
alike_of None p v w is there modules sources = absurd (let bad : None ≡ Some v = is in cc)
alike_of (Some a) None v w is there modules sources = absurd (let bad : None ≡ Some w = there in cc)
alike_of (Some a) (Some b) v w is there modules sources = record { module_is = modules; source_is = sources }

alike_module : (o p : Option Vertex) → IsAlike o p → module_in o ≡ module_in p
alike_module None p alike = absurd alike
alike_module (Some v) None alike = absurd alike
alike_module (Some v) (Some w) alike = alike.module_is

pub live_at : (g : Places) (slots : List Slot) (i : ℕ) (s : Slot) → slice_get slots i ≡ Some s → All (IsLive g) slots → IsLive g s
live_at g slots i s at all = subst (IsLive g) (get_or_from_slice_get slots i s s at) (all i s (slice_get_within slots i s at))

-- ---- behind a repair

module _ (now : Shows) (new : Links) (tree later : Tree) (config next_config : Config) (shown : IsShownOf tree config now.links)
    (all : Gathered) (is_all : traced (get tree) config ≡ Ok all) (plans : PlansFor (λ P. P later) next_config now)
    (other : Gathered) (is_other : traced (get later) next_config ≡ Ok other) (next : IsNextShown now.links plans.plan new)
  where
    abbrev old : Links
    old = now.links

    links_so : AreLinksOf plans.links other
    links_so = plans.traced_so other is_other

    repairs_so : Repairs plans.made old plans.links new
    repairs_so = next.repairs plans.made plans.links plans.planned

    modules_before : modules_of old ≡ all.modules
    modules_before = sym (modules_shown old) ∙ (shown.shows all is_all).modules

    modules_behind : modules_of new ≡ other.modules
    modules_behind = repairs_so.copy.modules ∙ links_so.modules

    sources_behind : sources_of new ≡ other.sources
    sources_behind = repairs_so.copy.sources ∙ links_so.sources

    once_before : AreOnce (modules_of old)
    once_before = subst AreOnce (sym modules_before) (modules_once (get tree) config all is_all)

    once_behind : AreOnce (modules_of plans.links)
    once_behind = subst AreOnce (sym links_so.modules) (modules_once (get later) next_config other is_other)

    missing_within : missing repairs_so.keeps ≤ limit_number Modules
    missing_within =
        let many = ap length links_so.modules in
        let same = length-map plans.links.slots (λ s. module_in (value_at plans.links.graph s)) in
        let most : length other.modules ≤ limit_number Modules = few_modules (get later) next_config other is_other in
        let some = missing_few repairs_so.keeps in
        let count = kept_count old.graph plans.links.graph repairs_so.keeps plans.links.slots repairs_so.matching.kept in
        omega (arith, many, same, most, some, count)

    module _ (lasts : LastsBetween old new) (i j : ℕ) (v w : Shown) (here : IsShownAt old.graph old.slots i v) (there : IsShownAt new.graph new.slots j w) where
      abbrev before : Option Vertex
      before = value_at old.graph here.slot

      abbrev behind : Option Vertex
      behind = value_at new.graph there.slot

      module_before : module_shown v ≡ module_in before
      module_before = ap module_shown here.is ∙ module_of_shown here.slot before

      module_behind : module_shown w ≡ module_in behind
      module_behind = ap module_shown there.is ∙ module_of_shown there.slot behind

      slot_before : v.slot ≡ here.slot
      slot_before = ap (λ (x : Shown). x.slot) here.is ∙ slot_of_shown here.slot before

      slot_behind : w.slot ≡ there.slot
      slot_behind = ap (λ (x : Shown). x.slot) there.is ∙ slot_of_shown there.slot behind

      source_before : source (get tree) (module_in before) ≡ Some (source_in before)
      source_before =
          own_source (get tree) config all is_all i (module_in before) (source_in before)
          (ap (λ xs. slice_get xs i) (sym modules_before) ∙ mapped_at (λ s. module_in (value_at old.graph s)) old.slots i here.slot here.at)
          (ap (λ xs. slice_get xs i) (sym (shown.sources all is_all))
          ∙ mapped_at (λ s. source_in (value_at old.graph s)) old.slots i here.slot here.at)

      source_behind : source (get later) (module_in behind) ≡ Some (source_in behind)
      source_behind =
          own_source (get later) next_config other is_other j (module_in behind) (source_in behind)
          (ap (λ xs. slice_get xs j) (sym modules_behind) ∙ mapped_at (λ s. module_in (value_at new.graph s)) new.slots j there.slot there.at)
          (ap (λ xs. slice_get xs j) (sym sources_behind)
          ∙ mapped_at (λ s. source_in (value_at new.graph s)) new.slots j there.slot there.at)

      kept_so : module_shown v ≡ module_shown w → get tree v.path ≡ get later v.path → v.slot ≡ w.slot
      kept_so same agree =
          let modules : module_in before ≡ module_in behind = sym module_before ∙ (same ∙ module_behind) in
          let path = ap (λ (m : Module). m.path) module_before in
          let agree_so : get tree (module_in before).path ≡ get later (module_in before).path =
          subst (λ p. get tree p ≡ get later p) path agree in
          let sources = same_source (get tree) (get later) (module_in before) (module_in behind) (source_in before) (source_in behind)
          source_before source_behind modules agree_so in
          let alive = live_at old.graph old.slots i here.slot here.at next.linked.slots in
          let alive_then = live_at new.graph new.slots j there.slot there.at repairs_so.linked.slots in
          slot_before
          ∙ (lasts.kept i j here.slot there.slot here.at there.at
          (alike_of before behind alive.0 alive_then.0 alive.1 alive_then.1 modules sources)
          ∙ sym slot_behind)

      apart_so : v.slot ≡ w.slot → module_shown v ≡ module_shown w
      apart_so same =
          let one : there.slot ≡ here.slot = sym slot_behind ∙ (sym same ∙ slot_before) in
          let alike = lasts.one i j here.slot here.at (there.at ∙ ap Some one) in
          module_before
          ∙ (alike_module before (value_at new.graph here.slot) alike
          ∙ (ap (λ s. module_in (value_at new.graph s)) (sym one) ∙ sym module_behind))

    keeps_slots : LastsBetween old new → KeepsSlots tree (showing_of old.graph old.slots) later (showing_of new.graph new.slots)
    keeps_slots lasts = record {
      kept = λ i j v w at there.
          kept_so lasts i j v w (shown_there old.graph old.slots i v at) (shown_there new.graph new.slots j w there);
      apart = λ i j v w at there.
          apart_so lasts i j v w (shown_there old.graph old.slots i v at) (shown_there new.graph new.slots j w there);
    }

    slots_go : (plans.made + missing repairs_so.keeps < most_made) ⊎ (most_made ≤ plans.made + missing repairs_so.keeps) → SlotsGo old new tree later
    slots_go (inl few) = inl (keeps_slots (slots_last plans.made old plans.links new next.linked plans.linked repairs_so few once_before once_behind))
    slots_go (inr full) = inr record {
      links = plans.links;
      modules = repairs_so.copy.modules;
      sources = repairs_so.copy.sources;
      keeps = repairs_so.keeps;
      matching = repairs_so.matching;
      full = (let within = plans.within in omega (arith, within, full));
      most = missing_within;
      few = repairs_so.renewed full;
    }

pub next_showing : (now : Shows) (new : Links) (tree later : Tree) (config next_config : Config) → IsShownOf tree config now.links
    → (all : Gathered) → traced (get tree) config ≡ Ok all → (plans : PlansFor (λ P. P later) next_config now)
    → (other : Gathered) → traced (get later) next_config ≡ Ok other → IsNextShown now.links plans.plan new → SlotsGo now.links new tree later
next_showing now new tree later config next_config shown all is_all plans other is_other next =
    slots_go now new tree later config next_config shown all is_all plans other is_other next
    (below_or_not (plans.made + missing (repairs_so now new tree later config next_config shown all is_all plans other is_other next).keeps) most_made)

-- ---- where nothing else is shown

module _ (entries : ℕ) (all : Gathered) (showing : List Shown) (shows : ShowsTrace entries all showing) (once : AreOnce all.modules) where
  one_place : (i j : ℕ) (v w : Shown) → slice_get showing i ≡ Some v → slice_get showing j ≡ Some w → i ≡ j → v ≡ w
  one_place i j v w at there same =
      let both : Some v ≡ Some w = sym at ∙ (ap (λ n. slice_get showing n) same ∙ there) in cc

  module_at : (i : ℕ) (v : Shown) → slice_get showing i ≡ Some v → slice_get all.modules i ≡ Some (module_shown v)
  module_at i v at = ap (λ xs. slice_get xs i) (sym shows.modules) ∙ mapped_at module_shown showing i v at

  pub showing_itself : (tree later : Tree) → KeepsSlots tree showing later showing
  showing_itself tree later = record {
    kept = λ i j v w at there same agree.
        ap (λ (x : Shown). x.slot)
        (one_place i j v w at there (once i j (module_shown v) (module_at i v at) (module_at j w there ∙ ap Some (sym same))));
    apart = λ i j v w at there same.
        ap module_shown
        (one_place i j v w at there
        (shows.apart i j v.slot (ap (option_map (λ (x : Shown). x.slot)) at)
        (ap (option_map (λ (x : Shown). x.slot)) there ∙ ap Some (sym same))));
  }
