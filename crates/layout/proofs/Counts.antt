-- How many mappings stand in maps and lists.
use Rattle.std.proofs.Common.{◌≡◌, ℕ, ◌+◌, ◌≤◌, List, [], ◌∷◌, Option, length, take, refl, sym, ap, ◌∙◌}
use Rattle.std.specs.Prelude.{map}
use Rattle.std.specs.List.{sum_by}
use Rattle.std.specs.FinMap.{entries, len, len-entries}
use Rattle.std.proofs.lemmas.List.Sums.{sum_by-cons}
use Rattle.std.proofs.lemmas.List.{length-map, take_all}
use Rattle.import_map_spec.specs.ParsedMap.{Addresses, ParsedMap}
use Rattle.scope_builder.specs.declared.keyed.Layout.{Layout}
use Rattle.scope_builder.specs.Lists.{address_entry, scope_entries, scope_entry, Lists}
use Rattle.layout_spec.specs.Counting.{mapping_count}
use Rattle.layout.specs.Counting.{listed_count}

scopes_count : (scopes : List (List ℕ × Addresses)) → sum_by (λ scope. len scope.1) scopes ≡ sum_by (λ scope. length scope.1) (map scope_entries scopes)
scopes_count [] = refl
scopes_count (scope ∷ more) =
    sum_by-cons (λ (s : List ℕ × Addresses). len s.1) scope more
    ∙ ((λ i. len-entries scope.1 i + scopes_count more i) ∙ sym (sum_by-cons (λ (s : List ℕ × List (List ℕ × Option (List ℕ))). length s.1) (scope_entries scope) (map scope_entries more)))

lists_count : (scopes : List (List ℕ × List (List ℕ × List ℕ))) → sum_by (λ scope. length scope.1) (map scope_entry scopes) ≡ sum_by (λ scope. length scope.1) scopes
lists_count [] = refl
lists_count (scope ∷ more) =
    sum_by-cons (λ (s : List ℕ × List (List ℕ × Option (List ℕ))). length s.1) (scope_entry scope) (map scope_entry more)
    ∙ ((λ i. length-map scope.1 address_entry i + lists_count more i) ∙ sym (sum_by-cons (λ (s : List ℕ × List (List ℕ × List ℕ)). length s.1) scope more))

pub counted : (layout : Layout) (integrity : List (List ℕ × List ℕ)) (m : ParsedMap) → Lists layout integrity m → listed_count layout ≡ mapping_count m
counted layout integrity m l =
    sym (λ i. (len-entries m.imports ∙ (ap length l.imports ∙ length-map layout.imports address_entry)) i
    + (scopes_count (entries m.scopes) ∙ (ap (sum_by (λ scope. length scope.1)) l.scopes ∙ lists_count layout.scopes)) i)

pub all_counted : (count n i : ℕ) (scopes slice : List (List ℕ × List (List ℕ × List ℕ))) → slice ≡ scopes → length slice ≤ i → count ≡ n + sum_by (λ scope. length scope.1) (take i slice) → count ≡ n + sum_by (λ scope. length scope.1) scopes
all_counted count n i scopes slice is past e = e ∙ ap (λ ss. n + sum_by (λ scope. length scope.1) ss) (take_all i slice past ∙ is)
