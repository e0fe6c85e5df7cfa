-- Lists of pairs in the byte order of their keys.
--     InKeyOrder pairs      each key is below those after it
--     IsPlace pairs key place      the keys before that place are below the key, and the others aren't
--     with_value pairs key value      the pairs, with the value at the key, where it is there
use Rattle.std.specs.Prelude.{◌≡◌, ℕ, List, [], ◌∷◌, Bool, true, false, bytes_eq, if◌then◌else◌}
use Rattle.std.specs.Ordering.{nat_cmp, is_lt}
use Rattle.std.specs.Cmp.Lexicographic.{slice_cmp}
use Rattle.std.specs.List.Sorted.{IsStrictlySortedBy, IsPartitionPoint}
use Rattle.std.specs.Map.{keys_of}

-- own: each key is below those after it, in the order of bytes
abbrev pub InKeyOrder : {V : Type 0} → List (List ℕ × V) → Type 0
InKeyOrder pairs = IsStrictlySortedBy (slice_cmp nat_cmp) (keys_of pairs)

abbrev pub is_below : {V : Type 0} → List ℕ → List ℕ × V → Bool
is_below key pair = is_lt (slice_cmp nat_cmp pair.0 key)

abbrev pub IsPlace : {V : Type 0} → List (List ℕ × V) → List ℕ → ℕ → Type 0
IsPlace pairs key place =
    IsPartitionPoint (λ pair. is_below key pair ≡ true) (λ pair. is_below key pair ≡ false) pairs place

-- own: the keys stay
abbrev pub with_value : {V : Type 0} → List (List ℕ × V) → List ℕ → V → List (List ℕ × V)
with_value [] key value = []
with_value (pair ∷ more) key value =
    (pair.0, if bytes_eq pair.0 key then value else pair.1) ∷ with_value more key value
