-- Rows that are sorted are in order, and are those of the needs.
use Rattle.std.proofs.Common.{sym, ap, ◌∙◌, arith}
use Rattle.std.proofs.lemmas.List.{take_more, take_all}
use Rattle.std.proofs.lemmas.List.Sorted.{ranks_by, sorted_far, Contains-permutation, IsPermutation-sym}
use Rattle.std.specs.Cmp.{IsTotalOrder, then_total, on_total}
use Rattle.std.specs.Cmp.Lexicographic.{nat_list_cmp_total}
use Rattle.std.specs.List.Sorted.{IsSorted, IsPermutation}
use Rattle.std.specs.Ordering.{ordering_reverse, is_lt, is_gt}
use Rattle.std.specs.Prelude.{◌≡◌, ◌↔◌, ℕ, suc, ◌+◌, ◌<◌, ◌≤◌, false, List, [], ◌∷◌, ◌++◌, length, take, get_or, Some, Contains, slice_get}
use Rattle.std.specs.declared.cmp.Ordering.{Ordering}
use Rattle.std.specs.declared.cmp.Ordering.TheVariants.{Less, Equal, Greater}
use Rattle.layout_spec.specs.declared.Need.{Need}
use Rattle.place_nodes.proofs.Steps.{read}
use Rattle.place_nodes.specs.Rows.{need_cmp, UpTo, InOrder}

need_total : IsTotalOrder need_cmp
need_total = then_total (on_total (λ (need : Need). need.asked) nat_list_cmp_total) (on_total (λ (need : Need). need.referrer) nat_list_cmp_total)

flipped : (o r : Ordering) → o ≡ ordering_reverse r → is_lt r ≡ false → is_gt o ≡ false
flipped o Less e l = absurd (cc)
flipped o Equal e l = ap is_gt e
flipped o Greater e l = ap is_gt e

up_to : (one other : Need) → is_lt (need_cmp other one) ≡ false → UpTo one other
up_to one other l = flipped (need_cmp one other) (need_cmp other one) (need_total.antisymm one other) l

-- no need is less than an earlier one
abbrev Rises : List Need → Type 0
Rises needs = (i j : ℕ) (d : Need) → i ≤ j → j < length needs → is_lt (need_cmp (get_or needs j d) (get_or needs i d)) ≡ false

rises_in_order : (needs : List Need) → Rises needs → InOrder needs
rises_in_order [] rises = tt
rises_in_order (need ∷ behind) rises = (
  (λ other c. up_to need other (ap (λ n. is_lt (need_cmp n need)) (sym c.2) ∙ rises 0 (suc c.0) other (omega arith) (let l = c.1 in omega arith))),
  rises_in_order behind (λ i j d l below. rises (suc i) (suc j) d (omega arith) (omega arith)),
)

pub sorted_in_order : (needs : List Need) → IsSorted need_cmp needs → InOrder needs
sorted_in_order needs sorted = rises_in_order needs (sorted_far (λ one other. is_lt (need_cmp one other)) (ranks_by need_total (λ need. need)) needs sorted)

pub same_needs : (needs copied sorted : List Need) → copied ≡ needs → IsPermutation copied sorted → (need : Need) → Contains needs need ↔ Contains sorted need
same_needs needs copied sorted same moved need = (
  (λ c. Contains-permutation copied sorted need moved (rw same c)),
  (λ c. rw (← same) (Contains-permutation sorted copied need (IsPermutation-sym copied sorted moved) c)),
)

pub one_copied : (needs rows after : List Need) (i : ℕ) (need : Need) → Some need ≡ slice_get needs i → rows ≡ take i needs → after ≡ rows ++ need ∷ [] → after ≡ take (i + 1) needs
one_copied needs rows after i need is done pushed =
    let at = read needs i need is in
    pushed ∙ ((λ k. done k ++ sym at.1 k ∷ []) ∙ sym (take_more needs i need at.0))

pub all_copied : (needs rows : List Need) (i : ℕ) → length needs ≤ i → rows ≡ take i needs → rows ≡ needs
all_copied needs rows i past done = done ∙ take_all i needs past
