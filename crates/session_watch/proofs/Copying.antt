-- Copies of what is shown.
--     next_target         one target more
--     next_shown          one module more
use Rattle.std.proofs.Common.{◌≡◌, ◌<◌, ◌+◌, ◌++◌, ℕ, zero, suc, List, [], ◌∷◌, length, map, take, Option, refl, sym, ap, ◌∙◌, subst, arith, append_assoc}
use Rattle.std.specs.Prelude.{All, slice_get}
use Rattle.std.proofs.lemmas.List.Elements.{All-head, All-tail}
use Rattle.slot_arena.specs.Slots.{Place}
use Rattle.slot_arena.specs.declared.slot.Slot.{Slot}
use Rattle.module_graph.specs.declared.module.Module.{Module}
use Rattle.module_graph.specs.Modules.{set_one}
use Rattle.trace_graph.specs.Links.{IsLive}
use Rattle.session_spec.specs.Showings.{Shown}
use Rattle.session_watch.specs.Seen.{shown_at, showing_of}

pub next_target : (targets : List (Option Slot)) (i : ℕ) → i < length targets → take (i + 1) targets ≡ take i targets ++ set_one (slice_get targets i) ∷ []
next_target [] i below = absurd (omega (arith, below))
next_target (t ∷ targets) zero below = refl
next_target (t ∷ targets) (suc i) below =
    let next : suc i + 1 ≡ suc (i + 1) = omega arith in
    ap (λ (n : ℕ). take n (t ∷ targets)) next ∙ ap (λ (ts : List (Option Slot)). t ∷ ts) (next_target targets i (omega (arith, below)))

module _ (graph : List (Place Module)) (front after : List Shown) (slot : Slot) (more rest slots : List Slot) (is : rest ≡ slot ∷ more) where
  pub next_shown : (one : Shown) → one ≡ shown_at graph slot → after ≡ front ++ one ∷ [] → front ++ showing_of graph rest ≡ showing_of graph slots → after ++ showing_of graph more ≡ showing_of graph slots
  next_shown one shown pushed so_far =
      ap (λ (l : List Shown). l ++ showing_of graph more) (pushed ∙ ap (λ (v : Shown). front ++ v ∷ []) shown)
      ∙ (append_assoc front (shown_at graph slot ∷ []) (showing_of graph more) ∙ (ap (λ (l : List Slot). front ++ showing_of graph l) (sym is) ∙ so_far))

  pub live_here : All (IsLive graph) rest → IsLive graph slot
  live_here live = All-head (IsLive graph) slot more (subst (All (IsLive graph)) is live)

  pub live_then : All (IsLive graph) rest → All (IsLive graph) more
  live_then live = All-tail (IsLive graph) slot more (subst (All (IsLive graph)) is live)
