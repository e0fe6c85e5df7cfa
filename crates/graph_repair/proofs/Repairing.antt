-- A repair, call by call.
--     Called                     the calls of a repair, and what they leave
--     live_behind, apart_behind, within_behind      what targets can be set behind them
--     repaired                   what is repaired then
use Rattle.std.proofs.Common.{◌≡◌, ◌≢◌, ◌<◌, ◌+◌, ◌++◌, suc, List, [], ◌∷◌, length, map, reverse, Option, Some, None, refl, sym, ap, ◌∙◌, subst, arith}
use Rattle.std.specs.Prelude.{All, flat_map, slice_index_or}
use Rattle.std.proofs.lemmas.List.{length-map, length-reverse}
use Rattle.std.proofs.lemmas.List.Elements.{All-nil, All-cons, All-head, All-tail, All-weaker}
use Rattle.slot_arena.specs.Slots.{Place, value_at, IsGiven}
use Rattle.slot_arena.specs.Counts.{live}
use Rattle.slot_arena.specs.declared.slot.Slot.{Slot}
use Rattle.slot_arena.proofs.SlotLaws.{is_given}
use Rattle.module_graph.specs.declared.module.Module as vertex
use Rattle.module_graph.specs.Many.{AreApart, AddsAll, RemovesAll, AreLive, ConnectsAll, dealt, slot_in}
use Rattle.module_graph.proofs.Many.{calls_on}
use Rattle.module_graph.proofs.Dealing.{deals_in_order}
use Rattle.trace_graph.specs.Links.{Links, IsLive, targets_in}
use Rattle.trace_graph.specs.Building.{AreLinked}
use Rattle.trace_graph.proofs.Showing.{is_graph_of, is_linked}
use Rattle.graph_repair.specs.declared.parts.Parts.{Parts}
use Rattle.graph_repair.specs.Matching.{somes, missing, filled}
use Rattle.graph_repair.specs.Repairs.{led_by}
use Rattle.graph_repair.proofs.GivenSlots.{stays_given}
use Rattle.graph_repair.specs.Plans.{merged, IsReady, IsRepaired, shown}

abbrev Vertex : Type 0
Vertex = vertex.Module

abbrev Places : Type 0
Places = List (Place Vertex)

-- ---- lists

pub all_both : {X : Type 0} (P Q R : X → Type 0) → ((x : X) → P x → Q x → R x) → (xs : List X) → All P xs → All Q xs → All R xs
all_both P Q R both xs one other k d lt = both (slice_index_or xs k d) (one k d lt) (other k d lt)

map_twice : {X Y Z : Type 0} (f : Y → Z) (h : X → Y) (xs : List X) → map f (map h xs) ≡ map (λ x. f (h x)) xs
map_twice f h [] = refl
map_twice f h (x ∷ xs) = ap (λ ys. f (h x) ∷ ys) (map_twice f h xs)

flat_map_twice : {X Y Z : Type 0} (f : Y → List Z) (h : X → Y) (xs : List X) → flat_map f (map h xs) ≡ flat_map (λ x. f (h x)) xs
flat_map_twice f h [] = refl
flat_map_twice f h (x ∷ xs) = ap (λ ys. f (h x) ++ ys) (flat_map_twice f h xs)

-- ---- what is kept, and the others

pub kept_live : (g : Places) (keeps : List (Option Slot)) (added : List Vertex) (modules : List Vertex) → merged g keeps added ≡ map Some modules
    → All (IsLive g) (somes keeps)
kept_live g [] added modules are = All-nil (IsLive g)
kept_live g (Some s ∷ keeps) added [] are = absurd (cc)
kept_live g (Some s ∷ keeps) added (m ∷ modules) are =
    let here : value_at g s ≡ Some m = cc in
    let rest : merged g keeps added ≡ map Some modules = cc in
    All-cons (IsLive g) s (somes keeps) (m, here) (kept_live g keeps added modules rest)
kept_live g (None ∷ keeps) [] [] are = absurd (cc)
kept_live g (None ∷ keeps) [] (m ∷ modules) are = absurd (cc)
kept_live g (None ∷ keeps) (a ∷ added) [] are = absurd (cc)
kept_live g (None ∷ keeps) (a ∷ added) (m ∷ modules) are =
    let rest : merged g keeps added ≡ map Some modules = cc in kept_live g keeps added modules rest

merged_length : (g : Places) (keeps : List (Option Slot)) (added : List Vertex) → length (merged g keeps added) ≡ length keeps
merged_length g [] added = refl
merged_length g (Some s ∷ keeps) added = ap (λ n. suc n) (merged_length g keeps added)
merged_length g (None ∷ keeps) [] = ap (λ n. suc n) (merged_length g keeps [])
merged_length g (None ∷ keeps) (a ∷ added) = ap (λ n. suc n) (merged_length g keeps added)

pub kept_and_missing : (keeps : List (Option Slot)) → length keeps ≡ length (somes keeps) + missing keeps
kept_and_missing [] = refl
kept_and_missing (Some s ∷ keeps) = let rest = kept_and_missing keeps in omega (arith, rest)
kept_and_missing (None ∷ keeps) = let rest = kept_and_missing keeps in omega (arith, rest)

filled_values : (g new : Places) (keeps : List (Option Slot)) (given : List Slot) (added : List Vertex) → All (λ s. value_at new s ≡ value_at g s) (somes keeps)
    → map (value_at new) given ≡ map Some added → missing keeps ≡ length given → map (value_at new) (filled keeps given) ≡ merged g keeps added
filled_values g new [] given added same under count = refl
filled_values g new (Some s ∷ keeps) given added same under count =
    λ i. All-head (λ s. value_at new s ≡ value_at g s) s (somes keeps) same i
    ∷ filled_values g new keeps given added (All-tail (λ s. value_at new s ≡ value_at g s) s (somes keeps) same) under count i
filled_values g new (None ∷ keeps) [] added same under count = absurd (omega (arith, count))
filled_values g new (None ∷ keeps) (t ∷ given) [] same under count = absurd (cc)
filled_values g new (None ∷ keeps) (t ∷ given) (a ∷ added) same under count =
    let here : value_at new t ≡ Some a = cc in
    let rest : map (value_at new) given ≡ map Some added = cc in
    λ i. here i ∷ filled_values g new keeps given added same rest (omega (arith, count)) i

filled_all : (P : Slot → Type 0) (keeps : List (Option Slot)) (given : List Slot) → All P (somes keeps) → All P given → All P (filled keeps given)
filled_all P [] given kept all = All-nil P
filled_all P (Some s ∷ keeps) given kept all =
    All-cons P s (filled keeps given) (All-head P s (somes keeps) kept) (filled_all P keeps given (All-tail P s (somes keeps) kept) all)
filled_all P (None ∷ keeps) [] kept all = filled_all P keeps [] kept all
filled_all P (None ∷ keeps) (t ∷ given) kept all =
    All-cons P t (filled keeps given) (All-head P t given all) (filled_all P keeps given kept (All-tail P t given all))

filled_apart : (keeps : List (Option Slot)) (given : List Slot) → AreApart (somes keeps) → AreApart given
    → All (λ s. All (λ t. t ≢ s) given) (somes keeps) → AreApart (filled keeps given)
filled_apart [] given apart own cross = tt
filled_apart (Some s ∷ keeps) given apart own cross = (
  filled_all (λ t. t ≢ s) keeps given apart.0 (All-head (λ s. All (λ t. t ≢ s) given) s (somes keeps) cross),
  filled_apart keeps given apart.1 own (All-tail (λ s. All (λ t. t ≢ s) given) s (somes keeps) cross),
)
filled_apart (None ∷ keeps) [] apart own cross = filled_apart keeps [] apart own cross
filled_apart (None ∷ keeps) (t ∷ given) apart own cross = (
  filled_all (λ u. u ≢ t) keeps given
      (All-weaker (λ s. All (λ t. t ≢ s) (t ∷ given)) (λ s. s ≢ t) (λ s none same. All-head (λ u. u ≢ s) t given none (sym same)) (somes keeps) cross)
      own.0,
  filled_apart keeps given apart own.1
      (All-weaker (λ s. All (λ t. t ≢ s) (t ∷ given)) (λ s. All (λ t. t ≢ s) given) (λ s none. All-tail (λ u. u ≢ s) t given none) (somes keeps) cross),
)

-- ---- the calls of a repair

pub record Called (g g1 g2 : Places) (l : Links) (parts : Parts) (given slots : List Slot) : Type 0 where
  pub ready : IsReady g l parts
  pub removes : RemovesAll g g1 parts.gone.items
  pub adds : AddsAll g1 g2 (reverse parts.added.items) given
  pub filled_so : slots ≡ filled parts.keeps.items given

pub called_of : (g g1 g2 : Places) (l : Links) (parts : Parts) (given gone slots lent : List Slot) (keeps : List (Option Slot)) → IsReady g l parts
    → RemovesAll g g1 gone → gone ≡ parts.gone.items
    → (new : List Slot) × (given ≡ parts.given.items ++ new) × AddsAll g1 g2 (reverse parts.added.items) new
    → slots ≡ filled keeps lent → keeps ≡ parts.keeps.items → lent ≡ given → Called g g1 g2 l parts given slots
called_of g g1 g2 l parts given gone slots lent keeps ready removes gone_is (new, more, adds) filled_is keeps_are lent_is =
    let same : given ≡ new = more ∙ ap (λ front. front ++ new) ready.room.none_given in
    record {
      ready = ready;
      removes = subst (RemovesAll g g1) gone_is removes;
      adds = subst (AddsAll g1 g2 (reverse parts.added.items)) (sym same) adds;
      filled_so = filled_is ∙ (λ i. filled (keeps_are i) (lent_is i));
    }

record Stays (g g2 : Places) (given : List Slot) (s : Slot) : Type 0 where
  value : value_at g2 s ≡ value_at g s
  apart : All (λ t. t ≢ s) given

module _ (g g1 g2 : Places) (l : Links) (parts : Parts) (given slots : List Slot) (called : Called g g1 g2 l parts given slots) where
  abbrev keeps : List (Option Slot)
  keeps = parts.keeps.items

  stays_at : (s : Slot) → IsLive g s → All (λ t. t ≢ s) parts.gone.items → Stays g g2 given s
  stays_at s alive none =
      let same : value_at g1 s ≡ value_at g s = called.removes.elsewhere s none in
      let was : IsGiven g1 s = is_given Vertex g1 s alive.0 (same ∙ alive.1) in
      let apart : All (λ t. t ≢ s) given =
      All-weaker (λ t. IsGiven g1 t → ⊥) (λ t. t ≢ s) (λ t never is. never (subst (IsGiven g1) (sym is) was)) given called.adds.never in
      record { value = called.adds.elsewhere s apart ∙ same; apart = apart }

  stay : All (Stays g g2 given) (somes parts.keeps.items)
  stay = all_both (IsLive g) (λ s. All (λ t. t ≢ s) parts.gone.items) (Stays g g2 given) stays_at (somes parts.keeps.items)
      (kept_live g parts.keeps.items (reverse parts.added.items) called.ready.modules called.ready.are) called.ready.stays

  pub given_count : length given ≡ length parts.added.items
  given_count =
      sym (length-map given (value_at g2)) ∙ (ap length called.adds.under ∙ (length-map (reverse parts.added.items) Some ∙ length-reverse parts.added.items))

  pub under_behind : map (value_at g2) slots ≡ map Some called.ready.modules
  under_behind =
      ap (map (value_at g2)) called.filled_so
      ∙ (filled_values g g2 parts.keeps.items given (reverse parts.added.items)
      (All-weaker (Stays g g2 given) (λ s. value_at g2 s ≡ value_at g s) (λ s stays. stays.value) (somes parts.keeps.items) stay)
      called.adds.under (called.ready.enough ∙ sym given_count)
      ∙ called.ready.are)

  pub count_behind : length slots ≡ length l.slots
  count_behind =
      sym (length-map slots (value_at g2))
      ∙ (ap length under_behind
      ∙ (sym (ap length called.ready.are) ∙ (merged_length g parts.keeps.items (reverse parts.added.items) ∙ called.ready.count)))

  pub live_behind : AreLive g2 slots (length parts.leads.items)
  live_behind = record { modules = called.ready.modules; under = under_behind; few = (let same = called.ready.counted in omega (arith, same)) }

  pub apart_behind : AreApart slots
  apart_behind =
      subst AreApart (sym called.filled_so)
      (filled_apart parts.keeps.items given called.ready.apart called.adds.apart
      (All-weaker (Stays g g2 given) (λ s. All (λ t. t ≢ s) given) (λ s stays. stays.apart) (somes parts.keeps.items) stay))

  pub within_behind : All (λ lead. lead < length slots) parts.leads.items
  within_behind = subst (λ n. All (λ lead. lead < n) parts.leads.items) (sym count_behind) called.ready.within

  live_count : live g2 ≡ length slots
  live_count =
      let kept = kept_and_missing parts.keeps.items in
      let fewer = called.removes.fewer called.ready.gone_apart called.ready.gone_live in
      let more = called.adds.more in
      let reversed = length-reverse parts.added.items in
      let enough = called.ready.enough in
      let alone = called.ready.alone in
      let count = called.ready.count in
      let behind = count_behind in
      omega (arith, kept, fewer, more, reversed, enough, alone, count, behind)

  never_before : All (λ s. IsGiven g s → ⊥) given
  never_before =
      All-weaker (λ s. IsGiven g1 s → ⊥) (λ s. IsGiven g s → ⊥) (λ s never was. never (stays_given g g1 s called.removes.calls was)) given called.adds.never

  module _ (g3 : Places) (connects : ConnectsAll g2 g3 slots (map (slot_in slots) parts.leads.items)) where
    linked_so : AreLinked g3 slots called.ready.modules parts.leads.items
    linked_so = record {
      under = connects.under called.ready.modules under_behind;
      apart = apart_behind;
      alone = connects.as_live ∙ live_count;
      count = sym (length-map slots (value_at g2)) ∙ (ap length under_behind ∙ length-map called.ready.modules Some);
    }

    led_there : flat_map (λ s. targets_in (value_at g3 s)) slots ≡ map (led_by slots) parts.leads.items
    led_there =
        sym (flat_map_twice targets_in (value_at g3) slots)
        ∙ (ap (flat_map targets_in) (connects.under called.ready.modules under_behind)
        ∙ (flat_map_twice targets_in Some (dealt called.ready.modules (map (slot_in slots) parts.leads.items))
        ∙ ((deals_in_order called.ready.modules (map (slot_in slots) parts.leads.items) called.ready.well_made
        (called.ready.counted ∙ sym (length-map parts.leads.items (slot_in slots)))).in_order
        ∙ map_twice Some (slot_in slots) parts.leads.items)))

    pub repaired : IsRepaired g l parts (shown g3 slots)
    repaired =
        let told = is_graph_of g3 slots [] called.ready.modules [] parts.leads.items linked_so called.ready.well_made called.ready.counted
        (All-nil (λ lead. lead < length slots)) within_behind refl parts.leads.items refl within_behind in
        record {
          copy = record {
            modules = told.modules_are ∙ called.ready.modules_are;
            sources = told.sources_are ∙ called.ready.sources_are;
            count = count_behind;
            leads = parts.leads.items;
            within = called.ready.within;
            led = called.ready.led;
            led_so = led_there;
          };
          linked = is_linked g3 slots [] called.ready.modules [] parts.leads.items linked_so called.ready.well_made called.ready.counted
              (All-nil (λ lead. lead < length slots)) within_behind refl;
          lasts = record {
            calls = calls_on g g1 g3 called.removes.calls (calls_on g1 g2 g3 called.adds.calls connects.calls);
            given = given;
            slots = called.filled_so;
            never = never_before;
          };
          made = connects.made ∙ (called.adds.made ∙ called.removes.made);
        }
