-- Entries that are put to those of a project, and entries that are taken out.
use Rattle.std.proofs.Common.{◌≡◌, ◌≤◌, refl, ℕ, Bool, true, false, List, [], ◌∷◌, ◌++◌, length, arith, ◌≢◌}
use Rattle.std.proofs.Common.{All, Contains, sym, ap, ◌∙◌, true≢false}
use Rattle.std.specs.List.{IsDistinct, list_any, AllByRecursion}
use Rattle.std.specs.Prelude.{bytes_eq, filter, not, if◌then◌else◌}
use Rattle.std.proofs.lemmas.Cmp.{nat_list_eq_equiv}
use Rattle.std.proofs.lemmas.List.Elements.{All-nil, All-cons, All-contains, All-contains_itself, All-filter}
use Rattle.std.proofs.lemmas.List.Elements.{filter_passes, Contains-append_left, Contains-push}
use Rattle.std.proofs.lemmas.Map.Views.{Contains-from_any}
use Rattle.std.proofs.lemmas.Slice.Eq.{bytes_eq-Decides}
use Rattle.std.proofs.lemmas.Map.Keys.{IsDistinct-push}
use Rattle.std.proofs.lemmas.List.Kept.{AllPairs-filter}
use Rattle.std.proofs.lemmas.List.Sums.{length-filter, count_by-le-length}
use Rattle.std.proofs.lemmas.Map.Made.{AllPairs-from_IsDistinct, IsDistinct-from_AllPairs}
use Rattle.config_spec.specs.Projects.{once_onto, without}

pub onto_distinct : (seen texts : List (List ℕ)) → IsDistinct bytes_eq seen → IsDistinct bytes_eq (once_onto seen texts)
onto_distinct seen [] distinct = distinct
onto_distinct seen (text ∷ texts) distinct =
    onto_distinct (if list_any (bytes_eq text) seen then seen else seen ++ text ∷ []) texts
    (by (list_any (bytes_eq text) seen) refl)
  where
    by : (there : Bool) → list_any (bytes_eq text) seen ≡ there
        → IsDistinct bytes_eq (if there then seen else seen ++ text ∷ [])
    by true e = distinct
    by false e = IsDistinct-push nat_list_eq_equiv seen text distinct e

pub filtered_distinct :
    (test : List ℕ → Bool) (texts : List (List ℕ)) → IsDistinct bytes_eq texts
    → IsDistinct bytes_eq (filter test texts)
filtered_distinct test texts distinct =
    IsDistinct-from_AllPairs bytes_eq-Decides (filter test texts)
    (AllPairs-filter (λ x y. x ≢ y) test texts (AllPairs-from_IsDistinct bytes_eq-Decides texts distinct))

pub filtered_fewer : (test : List ℕ → Bool) (texts : List (List ℕ)) → length (filter test texts) ≤ length texts
filtered_fewer test texts =
    let counted = length-filter test texts in
    let fewer = count_by-le-length test texts in
    omega arith

-- ---- what is put is there

onto_keeps :
    (seen texts : List (List ℕ)) (text : List ℕ) → Contains seen text → Contains (once_onto seen texts) text
onto_keeps seen [] text held = held
onto_keeps seen (other ∷ texts) text held =
    onto_keeps (if list_any (bytes_eq other) seen then seen else seen ++ other ∷ []) texts text
    (by (list_any (bytes_eq other) seen))
  where
    by : (there : Bool) → Contains (if there then seen else seen ++ other ∷ []) text
    by true = held
    by false = Contains-append_left seen (other ∷ []) text held

pub onto_holds : (seen texts : List (List ℕ)) → All (Contains (once_onto seen texts)) texts
onto_holds seen [] = All-nil (Contains seen)
onto_holds seen (text ∷ texts) =
    let next = if list_any (bytes_eq text) seen then seen else seen ++ text ∷ [] in
    All-cons (Contains (once_onto next texts)) text texts
    (onto_keeps next texts text (by (list_any (bytes_eq text) seen) refl)) (onto_holds next texts)
  where
    by : (there : Bool) → list_any (bytes_eq text) seen ≡ there
        → Contains (if there then seen else seen ++ text ∷ []) text
    by true e = Contains-from_any {eq = bytes_eq} (λ one other same. (bytes_eq-Decides one other).0 same) text seen e
    by false e = Contains-push seen text

-- ---- what is taken out is gone

pub without_lacks : (entry : List ℕ) (entries : List (List ℕ)) → Contains (without entry entries) entry → ⊥
without_lacks entry entries held =
    let test : List ℕ → Bool = λ other. not (bytes_eq entry other) in
    let passes : not (bytes_eq entry entry) ≡ true =
    All-contains (λ x. test x ≡ true) (filter test entries) entry (filter_passes test entries) held in
    let same : bytes_eq entry entry ≡ true = (bytes_eq-Decides entry entry).1 refl in
    true≢false (sym passes ∙ ap not same)

pub without_within :
    (entry : List ℕ) (entries : List (List ℕ)) (text : List ℕ) → Contains (without entry entries) text
    → Contains entries text
without_within entry entries text held =
    All-contains (Contains entries) (without entry entries) text
    (All-filter (λ other. not (bytes_eq entry other)) (Contains entries) entries (All-contains_itself entries)) held

-- ---- what is taken out one after another is named once

-- what is there without an entry isn't that entry
without_other :
    (entry : List ℕ) (entries : List (List ℕ)) (text : List ℕ) → Contains (without entry entries) text
    → bytes_eq entry text ≡ false
without_other entry entries text held =
    let test : List ℕ → Bool = λ other. not (bytes_eq entry other) in
    by (bytes_eq entry text) (All-contains (λ x. test x ≡ true) (filter test entries) text (filter_passes test entries) held)
  where
    by : (b : Bool) → not b ≡ true → b ≡ false
    by true e = absurd (true≢false (sym e))
    by false e = refl

pub apart_without :
    (entry : List ℕ) (entries named : List (List ℕ)) → AllByRecursion (Contains (without entry entries)) named
    → AllByRecursion (λ other. bytes_eq entry other ≡ false) named
apart_without entry entries [] held = tt
apart_without entry entries (text ∷ named) held =
    (without_other entry entries text held.0, apart_without entry entries named held.1)

pub all_within :
    (entry : List ℕ) (entries named : List (List ℕ)) → AllByRecursion (Contains (without entry entries)) named
    → AllByRecursion (Contains entries) named
all_within entry entries [] held = tt
all_within entry entries (text ∷ named) held =
    (without_within entry entries text held.0, all_within entry entries named held.1)
