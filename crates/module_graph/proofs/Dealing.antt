-- Targets that are dealt out to modules.
use Rattle.std.proofs.Common.{◌≡◌, ◌≤◌, ◌+◌, ◌++◌, ℕ, zero, suc, List, [], ◌∷◌, length, map, take, drop, Some, refl, sym, ap, ◌∙◌, arith, append-nil, append_assoc, length-set}
use Rattle.std.specs.Prelude.{All}
use Rattle.std.proofs.lemmas.Grind.{take-set_at}
use Rattle.std.proofs.lemmas.List.{map-append, take_all, length-take-le}
use Rattle.std.proofs.lemmas.List.Elements.{All-head, All-tail}
use Rattle.slot_arena.specs.declared.slot.Slot.{Slot}
use Rattle.module_graph.specs.declared.module.Module.{Module}
use Rattle.module_graph.specs.Modules.{IsModule, with_target}
use Rattle.module_graph.specs.Many.{with_targets, requests_in}
use Rattle.module_graph.specs.Laws.{Deals, DealsInOrder}

-- what isn't a target stays
record Keeps (m n : Module) : Type 0 where
  path : n.path ≡ m.path
  suffix : n.suffix ≡ m.suffix
  source : n.source ≡ m.source
  requests : n.requests ≡ m.requests

keeps : (m : Module) (k : ℕ) (targets : List Slot) → Keeps m (with_targets m k targets)
keeps m k [] = record { path = refl; suffix = refl; source = refl; requests = refl }
keeps m k (target ∷ more) =
    let rest = keeps (with_target m k target) (k + 1) more in
    record { path = rest.path; suffix = rest.suffix; source = rest.source; requests = rest.requests }

-- the targets from a request on are these
targets_are : (m : Module) (k : ℕ) (targets : List Slot) → k + length targets ≡ length m.targets → (with_targets m k targets).targets ≡ take k m.targets ++ map Some targets
targets_are m k [] count = sym (append-nil (take k m.targets) ∙ take_all k m.targets (omega (arith, count)))
targets_are m k (target ∷ more) count =
    targets_are (with_target m k target) (k + 1) more (let same = length-set m.targets k (Some target) in omega (arith, count, same))
    ∙ (ap (λ front. front ++ map Some more) (take-set_at m.targets k (k + 1) (Some target) refl (omega (arith, count)))
    ∙ append_assoc (take k m.targets) (Some target ∷ []) (map Some more))

taken_dropped : {X : Type 0} (n : ℕ) (xs : List X) → take n xs ++ drop n xs ≡ xs
taken_dropped zero xs = refl
taken_dropped (suc n) [] = refl
taken_dropped (suc n) (x ∷ xs) = ap (λ ys. x ∷ ys) (taken_dropped n xs)

length_dropped : {X : Type 0} (n : ℕ) (xs : List X) → n ≤ length xs → length (drop n xs) + n ≡ length xs
length_dropped zero xs few = omega arith
length_dropped (suc n) [] few = absurd (omega (arith, few))
length_dropped (suc n) (x ∷ xs) few = let rest = length_dropped n xs (omega (arith, few)) in omega (arith, rest)

deals : (modules : List Module) (targets : List Slot) → All IsModule modules → requests_in modules ≡ length targets → Deals modules targets
deals [] [] all count = record { paths = refl; suffixes = refl; sources = refl; requests = refl; in_order = refl }
deals [] (target ∷ targets) all count = absurd (omega (arith, count))
deals (m ∷ more) targets all count =
    let own : IsModule m = All-head IsModule m more all in
    let few : length m.requests.value ≤ length targets = omega (arith, count) in
    let taken = length-take-le (length m.requests.value) targets few in
    let dropped = length_dropped (length m.requests.value) targets few in
    let one = keeps m 0 (take (length m.requests.value) targets) in
    let are = targets_are m 0 (take (length m.requests.value) targets) (let each = own.one_each in omega (arith, taken, each)) in
    let rest = deals more (drop (length m.requests.value) targets) (All-tail IsModule m more all) (omega (arith, count, dropped)) in
    record {
      paths = λ i. one.path i ∷ rest.paths i;
      suffixes = λ i. one.suffix i ∷ rest.suffixes i;
      sources = λ i. one.source i ∷ rest.sources i;
      requests = λ i. one.requests i ∷ rest.requests i;
      in_order = (λ i. are i ++ rest.in_order i)
          ∙ (sym (map-append Some (take (length m.requests.value) targets) (drop (length m.requests.value) targets))
          ∙ ap (map Some) (taken_dropped (length m.requests.value) targets));
    }

pub deals_in_order : DealsInOrder
deals_in_order modules targets all count = deals modules targets all count
