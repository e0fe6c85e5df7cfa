-- Lists in key order are the entries of their finite map.
use Rattle.std.proofs.Common.{◌≡◌, ℕ, List, [], ◌∷◌, ◌++◌, Some, refl, sym, ap, subst, ◌∙◌, append_assoc}
use Rattle.std.specs.Prelude.{T, map, All}
use Rattle.std.specs.List.{AllByRecursion}
use Rattle.std.specs.List.Sorted.{IsStrictlySortedBy}
use Rattle.std.specs.Ordering.{nat_cmp}
use Rattle.std.specs.Cmp.Lexicographic.{slice_cmp, nat_list_cmp_total}
use Rattle.std.specs.FinMap.{entries, from_entries, from_sorted, get-from_entries, get-from_sorted, same_map, slice_cmp-IsAntisymmetric, nat_cmp-IsAntisymmetric}
use Rattle.std.proofs.lemmas.List.{map-append}
use Rattle.std.proofs.lemmas.List.Elements.{All-head, All-tail}
use Rattle.scope_builder.specs.Keys.{InKeyOrder}
use Rattle.scope_builder.proofs.KeyOrder.{sorted, entries_of, same_keys}
use Rattle.scope_builder.specs.Lists.{scope_entries, scope_entry}
use Rattle.layout.specs.Grouped.{Scope, grouped_scope, listed_scope}
use Rattle.layout.proofs.Updates.{mapped}

pub entries_mapped : {X Y : Type 0} (f : X → Y) (es : List (List ℕ × X)) → InKeyOrder es → entries (from_entries {R = slice_cmp nat_cmp} (mapped f es)) ≡ mapped f es
entries_mapped f es h =
    let order : InKeyOrder (mapped f es) = subst (IsStrictlySortedBy (slice_cmp nat_cmp)) (sym (same_keys (λ e. (e.0, f e.1)) (λ e. refl) es)) h in
    ap entries
    (same_map nat_list_cmp_total (slice_cmp-IsAntisymmetric nat_cmp-IsAntisymmetric) (from_entries (mapped f es)) (from_sorted (mapped f es))
    (λ q. get-from_entries nat_list_cmp_total (mapped f es) q ∙ sym (get-from_sorted (slice_cmp nat_cmp) (mapped f es) q (subst T (sym (sorted (mapped f es) order)) tt))))
    ∙ entries_of (mapped f es) order

pub scopes_listed : (es : List (List ℕ × Scope)) → All (λ scope. InKeyOrder scope.1) (map listed_scope es) → map scope_entries (map grouped_scope es) ≡ map scope_entry (map listed_scope es)
scopes_listed [] each = refl
scopes_listed (e ∷ es) each =
    let here : InKeyOrder e.1.entries = All-head (λ (scope : List ℕ × List (List ℕ × List ℕ)). InKeyOrder scope.1) (listed_scope e) (map listed_scope es) each in
    let later = All-tail (λ (scope : List ℕ × List (List ℕ × List ℕ)). InKeyOrder scope.1) (listed_scope e) (map listed_scope es) each in
    λ i. (e.0, entries_mapped Some e.1.entries here i) ∷ scopes_listed es later i

front_below : (P : List ℕ → Type 0) (ks ls : List (List ℕ)) → AllByRecursion P (ks ++ ls) → AllByRecursion P ks
front_below P [] ls h = tt
front_below P (k ∷ ks) ls h = (h.0, front_below P ks ls h.1)

front_sorted : (ks ls : List (List ℕ)) → IsStrictlySortedBy (slice_cmp nat_cmp) (ks ++ ls) → IsStrictlySortedBy (slice_cmp nat_cmp) ks
unfolding IsStrictlySortedBy
front_sorted [] ls h = tt
front_sorted (k ∷ ks) ls h = (front_below _ ks ls h.0, front_sorted ks ls h.1)

-- a front of a list in key order
pub front_in_order : {V : Type 0} (front later whole : List (List ℕ × V)) → front ++ later ≡ whole → InKeyOrder whole → InKeyOrder front
front_in_order front later whole e h =
    front_sorted (map (λ p. p.0) front) (map (λ p. p.0) later) (subst (IsStrictlySortedBy (slice_cmp nat_cmp)) (map-append (λ p. p.0) front later) (subst InKeyOrder (sym e) h))

pub listed_in_order : (es : List (List ℕ × Scope)) → InKeyOrder es → InKeyOrder (map listed_scope es)
listed_in_order es h = subst (IsStrictlySortedBy (slice_cmp nat_cmp)) (sym (same_keys listed_scope (λ e. refl) es)) h

-- the scope that is listed next
pub next_listed : (done : List (List ℕ × List (List ℕ × List ℕ))) (left more : List (List ℕ × Scope)) (referrer : List ℕ) (scope : Scope) (mappings : List (List ℕ × List ℕ)) {all : List (List ℕ × List (List ℕ × List ℕ))} → done ++ map listed_scope left ≡ all → left ≡ (referrer, scope) ∷ more → mappings ≡ scope.entries → (done ++ (referrer, mappings) ∷ []) ++ map listed_scope more ≡ all
next_listed done left more referrer scope mappings e is are =
    append_assoc done ((referrer, mappings) ∷ []) (map listed_scope more)
    ∙ (ap (λ ms. done ++ (referrer, ms) ∷ map listed_scope more) are ∙ (ap (λ es. done ++ map listed_scope es) (sym is) ∙ e))
