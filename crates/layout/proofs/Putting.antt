-- A mapping that is put into maps in memory is put into the import map that they make up.
use Rattle.std.proofs.Common.{◌≡◌, ℕ, List, [], ◌∷◌, Option, Some, None, length, refl, sym, ap, ◌∙◌, subst}
use Rattle.std.proofs.lemmas.List.{nil_from_length}
use Rattle.std.specs.Prelude.{map, option_map, unwrap_or, All}
use Rattle.std.specs.Ordering.{nat_cmp}
use Rattle.std.specs.Cmp.Lexicographic.{slice_cmp}
use Rattle.std.specs.BTreeMap as tree
use Rattle.std.specs.BTreeMap.{BTreeMap, Updates}
use Rattle.std.specs.FinMap.{insert, empty, from_entries}
use Rattle.std.specs.List.Sorted.{IsStrictlySortedBy}
use Rattle.import_map_spec.proofs.Entries.{no_entries}
use Rattle.import_map_spec.specs.ParsedMap.{Addresses, ParsedMap}
use Rattle.layout_spec.specs.PutMappings.{nothing_mapped, mapped_at}
use Rattle.layout_spec.specs.Serving.{scope_of}
use Rattle.scope_builder.proofs.KeyOrder.{same_keys}
use Rattle.scope_builder.specs.Keys.{InKeyOrder}
use Rattle.scope_builder.specs.Lists.{address_entry, scope_entries, scope_entry, Lists}
use Rattle.layout.proofs.Ordered.{entries_mapped, scopes_listed}
use Rattle.layout.proofs.Updates.{get_finite, finite_insert}
use Rattle.layout.specs.Grouped as grouped
use Rattle.layout.specs.Grouped.{Scope, addresses_of, scopes_of, listed_scope}

abbrev addresses : Scope → Addresses
addresses scope = addresses_of scope.entries

in_scope : (m n : BTreeMap (List ℕ) Scope) (place asked target : List ℕ) (scope after : Scope) → scope_of (scopes_of m) place ≡ addresses scope → Updates (slice_cmp nat_cmp) scope after asked (Some target) → Updates (slice_cmp nat_cmp) m n place (Some after) → scopes_of n ≡ insert (scopes_of m) place (insert (scope_of (scopes_of m) place) asked (Some target))
in_scope m n place asked target scope after was inner outer =
    finite_insert addresses m n place after outer
    ∙ ap (insert (scopes_of m) place) (finite_insert Some scope after asked target inner ∙ ap (λ (s : Addresses). insert s asked (Some target)) (sym was))

pub in_scope_there : (m n : BTreeMap (List ℕ) Scope) (place asked target : List ℕ) (scope after : Scope) → Some scope ≡ tree.get (slice_cmp nat_cmp) m place → Updates (slice_cmp nat_cmp) scope after asked (Some target) → Updates (slice_cmp nat_cmp) m n place (Some after) → scopes_of n ≡ insert (scopes_of m) place (insert (scope_of (scopes_of m) place) asked (Some target))
in_scope_there m n place asked target scope after there inner outer =
    in_scope m n place asked target scope after (ap (λ (o : Option Addresses). unwrap_or o empty) (get_finite addresses m place ∙ ap (option_map addresses) (sym there))) inner outer

pub in_scope_new : (m n : BTreeMap (List ℕ) Scope) (place asked target : List ℕ) (scope after : Scope) → None ≡ tree.get (slice_cmp nat_cmp) m place → scope.entries ≡ [] → Updates (slice_cmp nat_cmp) scope after asked (Some target) → Updates (slice_cmp nat_cmp) m n place (Some after) → scopes_of n ≡ insert (scopes_of m) place (insert (scope_of (scopes_of m) place) asked (Some target))
in_scope_new m n place asked target scope after absent none inner outer =
    in_scope m n place asked target scope after (ap (λ (o : Option Addresses). unwrap_or o empty) (get_finite addresses m place ∙ ap (option_map addresses) (sym absent)) ∙ ap addresses_of (sym none)) inner outer

-- ---- the places

abbrev made_of : Addresses → BTreeMap (List ℕ) Scope → ParsedMap
made_of imports scopes = record { imports = imports; scopes = scopes_of scopes; integrity = empty }

pub at_top : (place asked target key value : List ℕ) (imports after : Scope) (scopes : BTreeMap (List ℕ) Scope) → length place ≡ 0 → key ≡ asked → value ≡ target → Updates (slice_cmp nat_cmp) imports after key (Some value) → made_of (addresses after) scopes ≡ mapped_at place asked target (made_of (addresses imports) scopes)
at_top place asked target key value imports after scopes top key_is value_is put =
    ap (λ (i : Addresses). made_of i scopes) (finite_insert Some imports after key value put ∙ (λ i. insert (addresses imports) (key_is i) (Some (value_is i))))
    ∙ ap (λ p. mapped_at p asked target (made_of (addresses imports) scopes)) (sym (nil_from_length place top))

pub at_scope : (place asked target : List ℕ) (imports : Scope) (scopes after : BTreeMap (List ℕ) Scope) → (length place ≡ 0 → ⊥) → scopes_of after ≡ insert (scopes_of scopes) place (insert (scope_of (scopes_of scopes) place) asked (Some target)) → made_of (addresses imports) after ≡ mapped_at place asked target (made_of (addresses imports) scopes)
at_scope [] asked target imports scopes after some put = absurd (some refl)
at_scope (b ∷ rest) asked target imports scopes after some put = λ i. record { imports = addresses imports; scopes = put i; integrity = empty }

pub nothing_yet : (imports : Scope) (scopes : BTreeMap (List ℕ) Scope) → imports.entries ≡ [] → scopes.entries ≡ [] → made_of (addresses imports) scopes ≡ nothing_mapped
nothing_yet imports scopes none no_scope = λ i. record { imports = addresses_of (none i); scopes = from_entries (map grouped.grouped_scope (no_scope i)); integrity = empty }

-- ---- the lists

pub laid_lists : (imports : Scope) (scopes : BTreeMap (List ℕ) Scope) (listed_imports : List (List ℕ × List ℕ)) (listed : List (List ℕ × List (List ℕ × List ℕ))) → listed_imports ≡ imports.entries → InKeyOrder listed_imports → listed ≡ map listed_scope scopes.entries → InKeyOrder listed → All (λ scope. InKeyOrder scope.1) listed → Lists (record { imports = listed_imports; scopes = listed }) [] (made_of (addresses imports) scopes)
laid_lists imports scopes listed_imports listed are in_order are_listed listed_in_order each =
    let keys : InKeyOrder scopes.entries = subst (IsStrictlySortedBy (slice_cmp nat_cmp)) (same_keys listed_scope (λ e. refl) scopes.entries) (subst InKeyOrder are_listed listed_in_order) in
    record {
      imports = entries_mapped Some imports.entries (subst InKeyOrder are in_order) ∙ ap (map address_entry) (sym are);
      scopes = ap (map scope_entries) (entries_mapped addresses scopes.entries keys)
          ∙ (scopes_listed scopes.entries (subst (All (λ scope. InKeyOrder scope.1)) are_listed each) ∙ ap (map scope_entry) (sym are_listed));
      integrity_texts = no_entries (List ℕ);
    }
