-- What is kept and what is added, joined in trace order.
--     join_all       the modules at all places are those of the trace
--     added_well, added_count, kept_count      how many they are, and that they are well made
use Rattle.std.proofs.Common.{◌≡◌, ◌+◌, ◌++◌, ℕ, suc, List, [], ◌∷◌, ◌≤◌, length, map, drop, reverse, Option, Some, None, refl, sym, ap, ◌∙◌, subst, arith, length-append}
use Rattle.std.specs.Prelude.{All, flat_map, slice_get}
use Rattle.std.proofs.lemmas.List.{length-map, reverse-append, drop_all}
use Rattle.shared_types.proofs.ListSteps.{drop_at}
use Rattle.std.proofs.lemmas.List.Elements.{All-nil, All-cons}
use Rattle.slot_arena.specs.Slots.{Place, value_at}
use Rattle.slot_arena.specs.declared.slot.Slot.{Slot}
use Rattle.module_spec.specs.declared.request.Request.{Request}
use Rattle.module_graph.specs.declared.module.Module as vertex
use Rattle.module_graph.specs.Graphs.{AreModules}
use Rattle.module_graph.specs.Modules.{IsModule, IsUntied}
use Rattle.module_graph.specs.Many.{requests_in}
use Rattle.module_graph.proofs.WellMade.{live_is_module}
use Rattle.trace_spec.specs.Questions.{Source}
use Rattle.trace_graph.specs.Links.{module_of, source_of, module_in, source_in, targets_in}
use Rattle.graph_repair.specs.Matching.{missing, IsSame, IsAlike, AreKept}
use Rattle.graph_repair.specs.Plans.{merged, AreAdded, AddsOne, IsUntiedFrom}

abbrev Vertex : Type 0
Vertex = vertex.Module

abbrev Places : Type 0
Places = List (Place Vertex)

pub record Joined (g other : Places) (keeps : List (Option Slot)) (slots : List Slot) (more : List Vertex) : Type 0 where
  pub modules : List Vertex
  pub are : merged g keeps more ≡ map Some modules
  pub modules_are : map module_of modules ≡ map (λ s. module_in (value_at other s)) slots
  pub sources_are : map source_of modules ≡ map (λ s. source_in (value_at other s)) slots
  pub well_made : All IsModule modules
  pub counted : requests_in modules ≡ length (flat_map (λ s. targets_in (value_at other s)) slots)

-- a module at a place: v, which is to stand there, is the one of the trace
record Fits (other : Places) (s : Slot) (v : Vertex) : Type 0 where
  of : Vertex
  there : value_at other s ≡ Some of
  same : IsSame v of
  well : IsModule v
  of_well : IsModule of

as_many : (v : Vertex) → length v.requests.value ≡ length (source_of v).specifiers
as_many v = sym (length-map v.requests.value (λ (r : Request). r.text))

fit_count : (other : Places) (s : Slot) (v : Vertex) → Fits other s v → length v.requests.value ≡ length (targets_in (value_at other s))
fit_count other s v fits =
    let own = as_many v in
    let theirs = as_many fits.of in
    let same = ap (λ (source : Source). length source.specifiers) fits.same.source_is in
    let each = fits.of_well.one_each in
    let there = ap (λ o. length (targets_in o)) fits.there in
    omega (arith, own, theirs, same, each, there)

join_one : (g other : Places) (keep : Option Slot) (keeps : List (Option Slot)) (s : Slot) (slots : List Slot) (before more : List Vertex) (v : Vertex)
    → Fits other s v → merged g (keep ∷ keeps) before ≡ Some v ∷ merged g keeps more → Joined g other keeps slots more → Joined g other (keep ∷ keeps) (s ∷ slots) before
join_one g other keep keeps s slots before more v fits front rest = record {
  modules = v ∷ rest.modules;
  are = front ∙ ap (λ os. Some v ∷ os) rest.are;
  modules_are = λ i. (fits.same.module_is ∙ sym (ap module_in fits.there)) i ∷ rest.modules_are i;
  sources_are = λ i. (fits.same.source_is ∙ sym (ap source_in fits.there)) i ∷ rest.sources_are i;
  well_made = All-cons IsModule v rest.modules fits.well rest.well_made;
  counted = (let one = fit_count other s v fits in
      let both = length-append (targets_in (value_at other s)) (flat_map (λ s. targets_in (value_at other s)) slots) in
      let behind = rest.counted in omega (arith, one, both, behind));
}

-- what is kept is there
record Kept (g other : Places) (k s : Slot) : Type 0 where
  v : Vertex
  here : value_at g k ≡ Some v
  fits : Fits other s v

kept_by : (g other : Places) (k s : Slot) (o p : Option Vertex) → AreModules g → AreModules other → value_at g k ≡ o → value_at other s ≡ p → IsAlike o p → Kept g other k s
kept_by g other k s None p own theirs is there alike = absurd alike
kept_by g other k s (Some v) None own theirs is there alike = absurd alike
kept_by g other k s (Some v) (Some w) own theirs is there alike = record {
  v = v;
  here = is;
  fits = record { of = w; there = there; same = alike; well = live_is_module g k v own is; of_well = live_is_module other s w theirs there };
}

added_fits : (other : Places) (s : Slot) (m : Vertex) → AreModules other → IsUntiedFrom other s m → Fits other s m
added_fits other s m theirs from = record {
  of = from.of;
  there = from.there;
  same = record {
    module_is = (λ i. record { path = from.untied.path i; suffix = from.untied.suffix i });
    source_is = (λ i. record { bytes = from.untied.source i; specifiers = map (λ (r : Request). r.text) (from.untied.requests i) });
  };
  well = from.untied.well_made;
  of_well = live_is_module other s from.of theirs from.there;
}

pub join_all : (g other : Places) (keeps : List (Option Slot)) (slots : List Slot) (more : List Vertex) → AreModules g → AreModules other → AreKept g other keeps slots → AreAdded other keeps slots more
    → Joined g other keeps slots more
join_all g other [] [] [] own theirs kept all = record { modules = []; are = refl; modules_are = refl; sources_are = refl; well_made = All-nil IsModule; counted = refl }
join_all g other [] [] (m ∷ more) own theirs kept all = absurd all
join_all g other [] (s ∷ slots) more own theirs kept all = absurd kept
join_all g other (None ∷ keeps) [] more own theirs kept all = absurd kept
join_all g other (Some k ∷ keeps) [] more own theirs kept all = absurd kept
join_all g other (None ∷ keeps) (s ∷ slots) [] own theirs kept all = absurd all
join_all g other (None ∷ keeps) (s ∷ slots) (m ∷ more) own theirs kept all =
    join_one g other None keeps s slots (m ∷ more) more m (added_fits other s m theirs all.0) refl (join_all g other keeps slots more own theirs kept all.1)
join_all g other (Some k ∷ keeps) (s ∷ slots) more own theirs kept all =
    let one = kept_by g other k s (value_at g k) (value_at other s) own theirs refl refl kept.0 in
    join_one g other (Some k) keeps s slots more more one.v one.fits (ap (λ o. o ∷ merged g keeps more) one.here) (join_all g other keeps slots more own theirs kept.1 all)

pub added_well : (other : Places) (keeps : List (Option Slot)) (slots : List Slot) (more : List Vertex) → AreAdded other keeps slots more → All IsModule more
added_well other [] slots [] all = All-nil IsModule
added_well other [] slots (m ∷ more) all = absurd all
added_well other (None ∷ keeps) [] more all = absurd all
added_well other (Some k ∷ keeps) [] more all = absurd all
added_well other (None ∷ keeps) (s ∷ slots) [] all = absurd all
added_well other (None ∷ keeps) (s ∷ slots) (m ∷ more) all = All-cons IsModule m more all.0.untied.well_made (added_well other keeps slots more all.1)
added_well other (Some k ∷ keeps) (s ∷ slots) more all = added_well other keeps slots more all

pub added_count : (other : Places) (keeps : List (Option Slot)) (slots : List Slot) (more : List Vertex) → AreAdded other keeps slots more → missing keeps ≡ length more
added_count other [] slots [] all = refl
added_count other [] slots (m ∷ more) all = absurd all
added_count other (None ∷ keeps) [] more all = absurd all
added_count other (Some k ∷ keeps) [] more all = absurd all
added_count other (None ∷ keeps) (s ∷ slots) [] all = absurd all
added_count other (None ∷ keeps) (s ∷ slots) (m ∷ more) all = let rest = added_count other keeps slots more all.1 in omega (arith, rest)
added_count other (Some k ∷ keeps) (s ∷ slots) more all = added_count other keeps slots more all

pub kept_count : (g other : Places) (keeps : List (Option Slot)) (slots : List Slot) → AreKept g other keeps slots → length keeps ≡ length slots
kept_count g other [] [] kept = refl
kept_count g other [] (s ∷ slots) kept = absurd kept
kept_count g other (None ∷ keeps) [] kept = absurd kept
kept_count g other (Some k ∷ keeps) [] kept = absurd kept
kept_count g other (None ∷ keeps) (s ∷ slots) kept = ap (λ n. suc n) (kept_count g other keeps slots kept)
kept_count g other (Some k ∷ keeps) (s ∷ slots) kept = ap (λ n. suc n) (kept_count g other keeps slots kept.1)

-- the module at a place, in front of those behind it
pub added_at : (other : Places) (keeps : List (Option Slot)) (theirs : List Slot) (p q : ℕ) (k : Option Slot) (t : Slot) (more after : List Vertex) → slice_get keeps p ≡ Some k
    → slice_get theirs p ≡ Some t → q ≡ p + 1 → AreAdded other (drop q keeps) (drop q theirs) more → AddsOne other k t more after → AreAdded other (drop p keeps) (drop p theirs) after
added_at other keeps theirs p q k t more after kept at next all one =
    subst (λ ks. AreAdded other ks (drop p theirs) after) (sym (drop_at keeps p k kept))
    (subst (λ ts. AreAdded other (k ∷ drop (p + 1) keeps) ts after) (sym (drop_at theirs p t at))
    (one (drop (p + 1) keeps) (drop (p + 1) theirs) (subst (λ n. AreAdded other (drop n keeps) (drop n theirs) more) next all)))

pub adds_untied : (other : Places) (s : Slot) (m of : Vertex) (more after : List Vertex) → value_at other s ≡ Some of → IsUntied of m → after ≡ more ++ m ∷ []
    → AddsOne other None s (reverse more) (reverse after)
adds_untied other s m of more after there untied is keeps slots all =
    subst (AreAdded other (None ∷ keeps) (s ∷ slots)) (sym (ap reverse is ∙ reverse-append more (m ∷ [])))
    (record { of = of; there = there; untied = untied }, all)

pub none_added : (other : Places) (keeps : List (Option Slot)) (theirs : List Slot) (n : ℕ) → length keeps ≤ n → AreAdded other (drop n keeps) (drop n theirs) []
none_added other keeps theirs n past = subst (λ ks. AreAdded other ks (drop n theirs) []) (sym (drop_all n keeps past)) tt

pub adds_kept : (other : Places) (keep : Option Slot) (k : Slot) (s : Slot) (more : List Vertex) → keep ≡ Some k → AddsOne other keep s more more
adds_kept other keep k s more is keeps slots all = subst (λ o. AreAdded other (o ∷ keeps) (s ∷ slots) more) (sym is) all
