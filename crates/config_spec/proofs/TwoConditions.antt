-- Two names that can be conditions.
use Rattle.std.proofs.Common.{◌≡◌, ◌<◌, ◌≤◌, ℕ, true, false, List, [], ◌∷◌, All, length, lit≤}
use Rattle.std.specs.List.{list_all}
use Rattle.std.specs.Prelude.{codes, bytes_eq}
use Rattle.std.proofs.lemmas.Bool.{and_parts}
use Rattle.std.proofs.lemmas.List.Elements.{All-nil, All-cons}
use Rattle.std.proofs.lemmas.Map.Keys.{IsDistinct-cons}
use Rattle.tree_spec.proofs.ByteLists.{texts_differ}
use Rattle.tree_spec.proofs.FootprintSets.{distinct_one}
use Rattle.node_spec.specs.Conditions.{is_name_byte, AreConditions, IsCondition}

plain_by_test : (name : List ℕ) → list_all is_name_byte name ≡ true → All (λ b. is_name_byte b ≡ true) name
plain_by_test [] e = All-nil (λ b. is_name_byte b ≡ true)
plain_by_test (b ∷ name) e =
    let parts = and_parts (is_name_byte b) (list_all is_name_byte name) e in
    All-cons (λ c. is_name_byte c ≡ true) b name parts.0 (plain_by_test name parts.1)

-- what is tested of a name
pub record IsTested (name : List ℕ) : Type 0 where
  pub nonempty : 0 < length name
  pub short : length name ≤ 64
  pub plain : list_all is_name_byte name ≡ true
  pub other : bytes_eq name (codes "default") ≡ false

tested : (name : List ℕ) → IsTested name → IsCondition name
tested name is = record {
  nonempty = is.nonempty;
  short = is.short;
  plain = plain_by_test name is.plain;
  other = texts_differ name (codes "default") is.other;
}

pub two_conditions :
    (some other : List ℕ) → IsTested some → IsTested other → bytes_eq some other ≡ false
    → AreConditions (some ∷ other ∷ [])
two_conditions some other is is_too e =
    record {
      few = lit≤ tt;
      each =
          All-cons IsCondition some (other ∷ []) (tested some is)
          (All-cons IsCondition other [] (tested other is_too) (All-nil IsCondition));
      distinct = IsDistinct-cons bytes_eq some (other ∷ []) (e, tt) (distinct_one other);
    }
