-- The members of a map's value have distinct names.
use Rattle.std.proofs.Common.{ap, sym, ◌∙◌}
use Rattle.std.specs.List.{IsDistinct}
use Rattle.std.specs.Cmp.Lexicographic.{slice_cmp}
use Rattle.std.specs.FinMap.{entries, entries_sorted}
use Rattle.std.specs.Ordering.{nat_cmp, is_lt}
use Rattle.std.specs.Prelude.{◌≡◌, ℕ, true, false, ◌≢◌, T, List, [], ◌∷◌}
use Rattle.json_spec.proofs.NewNames.{IsNewName}
use Rattle.json_spec.specs.Value.{Json, AreDistinct}
use Rattle.import_map_spec.proofs.Entries.{same_key, same_key_itself, parts, not_same, Below, Sorted}
use Rattle.import_map_spec.specs.ParsedMap.{Texts}
use Rattle.layout_spec.specs.PrintedMap.{members_of}
use Rattle.tree_spec.proofs.ByteLists.{other_text}

-- what comes later has another name
pub below_apart : (key other : List ℕ) → T (is_lt (slice_cmp nat_cmp key other)) → key ≢ other
below_apart key other l same =
    let t = same_key_itself key in
    let f : same_key key other ≡ false = not_same _ l in
    let g : same_key key other ≡ true = ap (same_key key) (sym same) ∙ t in
    absurd (cc)

-- a member for each entry
module _ {X : Type 0} where
  pub names_apart : (key : List ℕ) (value : X → Json) (es : List (List ℕ × X)) → Below key es → IsNewName key (members_of value es)
  names_apart key value [] b = tt
  names_apart key value (e ∷ es) b =
      let p = parts _ _ b in (other_text key e.0 (not_equal p.0), names_apart key value es p.1)
    where
      not_equal : {other : List ℕ} → T (is_lt (slice_cmp nat_cmp key other)) → key ≢ other
      not_equal {other} l same = let t = same_key_itself key in let f : same_key key other ≡ false = not_same _ l in absurd (never (ap (same_key key) (sym same) ∙ t) f)
        where
          never : same_key key other ≡ true → same_key key other ≡ false → ⊥
          never p q = cc

  members_apart : (value : X → Json) (es : List (List ℕ × X)) → Sorted es → AreDistinct (members_of value es)
  unfolding IsDistinct
  members_apart value [] s = tt
  members_apart value (e ∷ es) s = let p = parts _ _ s in (names_apart e.0 value es p.0, members_apart value es p.1)

  pub distinct_members : (value : X → Json) (m : Texts X) → AreDistinct (members_of value (entries m))
  distinct_members value m = members_apart value (entries m) (entries_sorted m)
