-- A plan: what a repair does to a graph, all of whose memory is there.
--     merged graph keeps added   what is to stand at each place: the module under the slot that is kept, and else the
--                                next of those that are added
--     AreAdded graph keeps slots added     those that are added are the modules at the places at which none is kept,
--                                without their targets
--     AddsOne graph keep s added after     one is put in front of those that are added, unless one is kept at its place
--     HasRoom parts              the lists that a repair fills have room
--     IsReady g l parts          the parts make the graph g a copy of the trace l
--     IsNext keep given s left   the slot at a place where this one is kept or none, and the given ones that are left
--     IsRepaired g l parts new   so they did
--     IsBegun l plan             a new graph is begun for the trace
--     IsPlanned made old l plan      the plan is one for what is shown and this trace, made where there were so many
--                                places: it begins a new graph where these and the added modules reach the most
use Rattle.std.specs.Prelude.{◌≡◌, ⊤, ℕ, ◌+◌, ◌≤◌, ◌<◌, List, [], ◌∷◌, All, length, map, reverse, Option, Some, None}
use Rattle.std.specs.Prelude.{◌↔◌, ◌≢◌, IfSome, vec_len, vec_capacity}
use Rattle.slot_arena.specs.Slots.{Place, value_at}
use Rattle.slot_arena.specs.Counts.{spare, live}
use Rattle.slot_arena.specs.declared.slot.Slot.{Slot}
use Rattle.module_graph.specs.declared.module.Module as vertex
use Rattle.module_graph.specs.Modules.{IsModule, IsUntied}
use Rattle.module_graph.specs.Many.{AreApart, requests_in}
use Rattle.trace_graph.specs.Links.{Links, IsLinked, IsLive, module_of, source_of, modules_of, sources_of, all_targets}
use Rattle.graph_repair.specs.Matching.{somes, missing, IsMatching}
use Rattle.graph_repair.specs.Repairs.{IsCopyOf, Lasts, led_by, most_made, most_at_once}
use Rattle.graph_repair.specs.declared.parts.Parts.{Parts}
use Rattle.graph_repair.specs.declared.parts.Plan.{Plan}

abbrev pub merged : List (Place vertex.Module) → List (Option Slot) → List vertex.Module → List (Option vertex.Module)
merged graph [] added = []
merged graph (Some s ∷ keeps) added = value_at graph s ∷ merged graph keeps added
merged graph (None ∷ keeps) [] = None ∷ merged graph keeps []
merged graph (None ∷ keeps) (m ∷ added) = Some m ∷ merged graph keeps added

pub record IsUntiedFrom (graph : List (Place vertex.Module)) (s : Slot) (v : vertex.Module) : Type 0 where
  pub of : vertex.Module
  pub there : value_at graph s ≡ Some of
  pub untied : IsUntied of v

abbrev pub AreAdded : List (Place vertex.Module) → List (Option Slot) → List Slot → List vertex.Module → Type 0
AreAdded graph [] slots [] = ⊤
AreAdded graph [] slots (m ∷ added) = ⊥
AreAdded graph (None ∷ keeps) [] added = ⊥
AreAdded graph (Some k ∷ keeps) [] added = ⊥
AreAdded graph (None ∷ keeps) (s ∷ slots) [] = ⊥
AreAdded graph (None ∷ keeps) (s ∷ slots) (m ∷ added) = IsUntiedFrom graph s m × AreAdded graph keeps slots added
AreAdded graph (Some k ∷ keeps) (s ∷ slots) added = AreAdded graph keeps slots added

-- what is put behind these is right in front of them
abbrev pub AddsOne : List (Place vertex.Module) → Option Slot → Slot → List vertex.Module → List vertex.Module → Type 0
AddsOne graph keep s added after =
    (keeps : List (Option Slot)) (slots : List Slot) → AreAdded graph keeps slots added
    → AreAdded graph (keep ∷ keeps) (s ∷ slots) after

pub record HasRoom (parts : Parts) : Type 0 where
  pub none_given : parts.given.items ≡ []
  pub none_there : parts.slots.items ≡ []
  pub for_given : vec_len parts.added ≤ vec_capacity parts.given
  pub for_slots : vec_len parts.keeps ≤ vec_capacity parts.slots

pub record IsReady (g : List (Place vertex.Module)) (l : Links) (parts : Parts) : Type 0 where
  pub modules : List vertex.Module
  pub are : merged g parts.keeps.items (reverse parts.added.items) ≡ map Some modules
  pub modules_are : map module_of modules ≡ modules_of l
  pub sources_are : map source_of modules ≡ sources_of l
  pub well_made : All IsModule modules
  pub added_well : All IsModule parts.added.items
  pub within : All (λ lead. lead < length l.slots) parts.leads.items
  pub led : map (led_by l.slots) parts.leads.items ≡ all_targets l
  pub counted : requests_in modules ≡ length parts.leads.items
  pub apart : AreApart (somes parts.keeps.items)
  pub stays : All (λ s. All (λ t. t ≢ s) parts.gone.items) (somes parts.keeps.items)
  pub gone_apart : AreApart parts.gone.items
  pub gone_live : All (IsLive g) parts.gone.items
  pub alone : length parts.gone.items + length (somes parts.keeps.items) ≡ live g
  pub enough : missing parts.keeps.items ≡ length parts.added.items
  pub count : length parts.keeps.items ≡ length l.slots
  pub has_spare : length parts.added.items ≤ spare g
  pub room : HasRoom parts

-- the slot at a place, and the given ones that are left
abbrev pub IsNext : Option Slot → List Slot → Slot → List Slot → Type 0
IsNext (Some k) given s left = (s ≡ k) × (left ≡ given)
IsNext None given s left = given ≡ s ∷ left

abbrev pub shown : List (Place vertex.Module) → List Slot → Links
shown graph slots = record { graph = graph; slots = slots; roots = [] }

pub record IsRepaired (g : List (Place vertex.Module)) (l : Links) (parts : Parts) (new : Links) : Type 0 where
  pub copy : IsCopyOf l new
  pub linked : IsLinked new
  pub lasts : Lasts (shown g []) new parts.keeps.items
  pub made : length new.graph ≡ length g

-- the graph that is repaired: what is shown, or one that is begun
abbrev pub base : List (Place vertex.Module) → Option (List (Place vertex.Module)) → List (Place vertex.Module)
base graph None = graph
base graph (Some begun) = begun

-- a new graph is begun for all of the trace
pub record IsBegun (l : Links) (plan : Plan) : Type 0 where
  pub graph : List (Place vertex.Module)
  pub begun : plan.begun ≡ Some graph
  pub few : length graph ≤ most_at_once
  pub ready : IsReady graph l plan.parts

pub record IsPlanned (made : ℕ) (old l : Links) (plan : Plan) : Type 0 where
  pub keeps : List (Option Slot)
  pub matching : IsMatching old l keeps
  pub renews : (plan.begun ≡ None) ↔ (made + missing keeps < most_made)
  pub going : plan.begun ≡ None → plan.parts.keeps.items ≡ keeps
  pub few : IfSome plan.begun (λ g. length g ≤ most_at_once)
  pub ready : IsReady (base old.graph plan.begun) l plan.parts
