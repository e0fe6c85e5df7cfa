-- Lists in key order are the entries of a map.
use Rattle.std.specs.Prelude.{◌≡◌, ℕ, true, T, List, [], ◌∷◌, ◌++◌, map}
use Rattle.std.proofs.Common.{refl, sym, ap, ◌∙◌, subst}
use Rattle.std.proofs.lemmas.Bool.{and_from}
use Rattle.std.specs.List.{AllByRecursion}
use Rattle.std.specs.List.Sorted.{IsStrictlySortedBy}
use Rattle.std.specs.Ordering.{nat_cmp, is_lt}
use Rattle.std.specs.Cmp.Lexicographic.{slice_cmp}
use Rattle.std.specs.declared.cmp.Ordering.TheVariants.{Less}
use Rattle.std.specs.FinMap.{entries, from_sorted, entries-from_sorted}
use Rattle.std.specs.FinMap.Entries.{below_all, is_sorted}
use Rattle.std.specs.Map.{keys_of}
use Rattle.import_map_spec.specs.ParsedMap.{Addresses}
use Rattle.scope_builder.specs.Keys.{InKeyOrder}
use Rattle.scope_builder.specs.Lists.{address_entry, scope_entries, scope_entry}
use Rattle.scope_builder.specs.SomeMap.{SomeMap}

pub none_in_order : IsStrictlySortedBy (slice_cmp nat_cmp) []
unfolding IsStrictlySortedBy
none_in_order = tt

-- a list that begins is in order
pub first_in_order : {V : Type 0} (before : List (List ℕ × V)) (pair : List ℕ × V) → before ≡ [] → InKeyOrder (before ++ pair ∷ [])
unfolding IsStrictlySortedBy
first_in_order before pair none = subst (λ pairs. InKeyOrder (pairs ++ pair ∷ [])) (sym none) (tt, tt)

module _ {X : Type 0} where
  below_rest : (key : List ℕ) (es : List (List ℕ × X)) → AllByRecursion (λ other. slice_cmp nat_cmp key other ≡ Less) (keys_of es) → below_all (slice_cmp nat_cmp) key es ≡ true
  below_rest key [] all = refl
  below_rest key (e ∷ es) all = and_from _ _ (ap is_lt all.0) (below_rest key es all.1)

  pub sorted : (es : List (List ℕ × X)) → InKeyOrder es → is_sorted (slice_cmp nat_cmp) es ≡ true
  unfolding IsStrictlySortedBy
  sorted [] order = refl
  sorted (e ∷ es) order = and_from _ _ (below_rest e.0 es order.0) (sorted es order.1)

  -- entries in order are those of a map
  pub entries_of : (es : List (List ℕ × X)) → InKeyOrder es → entries (from_sorted {R = slice_cmp nat_cmp} es) ≡ es
  entries_of es order = entries-from_sorted (slice_cmp nat_cmp) es (subst T (sym (sorted es order)) tt)

-- what stands at a key may change, and the keys are the same
pub same_keys : {X Y : Type 0} (f : List ℕ × X → List ℕ × Y) → ((pair : List ℕ × X) → (f pair).0 ≡ pair.0) → (pairs : List (List ℕ × X)) → keys_of (map f pairs) ≡ keys_of pairs
same_keys f same [] = refl
same_keys f same (pair ∷ more) = λ i. same pair i ∷ same_keys f same more i

abbrev addresses : List (List ℕ × List ℕ) → Addresses
addresses pairs = from_sorted (map address_entry pairs)

address_entries : (pairs : List (List ℕ × List ℕ)) → InKeyOrder pairs → entries (addresses pairs) ≡ map address_entry pairs
address_entries pairs order = entries_of (map address_entry pairs) (subst (IsStrictlySortedBy (slice_cmp nat_cmp)) (sym (same_keys address_entry (λ pair. refl) pairs)) order)

abbrev scope_of : List ℕ × List (List ℕ × List ℕ) → List ℕ × Addresses
scope_of scope = (scope.0, addresses scope.1)

all_scopes : (scopes : List (List ℕ × List (List ℕ × List ℕ))) → AllByRecursion (λ scope. InKeyOrder scope.1) scopes → map scope_entries (map scope_of scopes) ≡ map scope_entry scopes
all_scopes [] all = refl
all_scopes (scope ∷ more) all = λ i. (scope.0, address_entries scope.1 all.0 i) ∷ all_scopes more all.1 i

pub some_map : SomeMap
some_map layout integrity imports scopes each digests = record {
  m = record { imports = addresses layout.imports; scopes = from_sorted (map scope_of layout.scopes); integrity = from_sorted integrity };
  lists = record {
    imports = address_entries layout.imports imports;
    scopes = ap (map scope_entries) (entries_of (map scope_of layout.scopes) (subst (IsStrictlySortedBy (slice_cmp nat_cmp)) (sym (same_keys scope_of (λ scope. refl) layout.scopes)) scopes)) ∙ all_scopes layout.scopes each;
    integrity_texts = entries_of integrity digests;
  };
}
