-- The finite map that a list of entries stands for.
--     first_wins entries, last_wins entries      where a key stands twice, it has the first value, or the last
--     IsAscending entries      the keys don't fall
--     IsPlace text entries at      the keys before that place are below the text, and the others aren't
use Rattle.std.specs.Prelude.{◌≡◌, ℕ, List, reverse, true, false}
use Rattle.std.specs.Ordering.{nat_cmp, is_lt}
use Rattle.std.specs.Cmp.Lexicographic.{slice_cmp}
use Rattle.std.specs.List.Sorted.{IsSortedByKey, IsPartitionPoint}
use Rattle.std.specs.FinMap.{FinMap, from_entries}

unfoldable pub first_wins : {X : Type 0} → List (List ℕ × X) → FinMap (slice_cmp nat_cmp) X
first_wins entries = from_entries entries

unfoldable pub last_wins : {X : Type 0} → List (List ℕ × X) → FinMap (slice_cmp nat_cmp) X
last_wins entries = from_entries (reverse entries)

abbrev pub IsAscending : {X : Type 0} → List (List ℕ × X) → Type 0
IsAscending {X} entries = IsSortedByKey (λ (e : List ℕ × X). e.0) (slice_cmp nat_cmp) entries

abbrev pub IsPlace : {X : Type 0} → List ℕ → List (List ℕ × X) → ℕ → Type 0
IsPlace {X} text entries at =
    IsPartitionPoint (λ (e : List ℕ × X). is_lt (slice_cmp nat_cmp e.0 text) ≡ true)
    (λ (e : List ℕ × X). is_lt (slice_cmp nat_cmp e.0 text) ≡ false) entries at
