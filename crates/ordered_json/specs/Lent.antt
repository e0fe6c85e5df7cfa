-- Members that are lent one by one.
--     lent pairs      the members that these are
--     HasIndices count pairs numbered      the map holds those of the pairs whose names are array indices, by number,
--         each under its number and a count below this one
use Rattle.std.specs.Prelude.{◌≡◌, ◌<◌, ℕ, List, [], ◌∷◌, map, ⊤}
use Rattle.std.specs.BTreeMap.{BTreeMap}
use Rattle.std.specs.Map.{values_of}
use denote.Ref.{Bor}
use Rattle.json_spec.specs.PropertyOrder.{number_of, index_members}
use Rattle.json_spec.specs.Value.{Members}
use Rattle.ordered_json.specs.Shown.{members_of}
use Rattle.ordered_json.specs.declared.value.Value.{Value}

abbrev pub lent : List (Bor (List ℕ × Value)) → Members
lent pairs = members_of (map (λ (pair : Bor (List ℕ × Value)). pair.now) pairs)

abbrev pub AreNumbered : ℕ → List ((ℕ × ℕ) × Bor (List ℕ × Value)) → Type 0
AreNumbered count [] = ⊤
AreNumbered count (e ∷ es) = (e.0.0 ≡ number_of e.1.now.0) × (e.0.1 < count) × AreNumbered count es

pub record HasIndices (count : ℕ) (pairs : List (List ℕ × Value)) (numbered : BTreeMap (ℕ × ℕ) (Bor (List ℕ × Value)))
    : Type 0 where
  pub members : lent (values_of numbered.entries) ≡ index_members (members_of pairs)
  pub numbers : AreNumbered count numbered.entries
