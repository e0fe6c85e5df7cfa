-- Names that commas part are read back from their text.
use Rattle.std.proofs.Common.{◌≡◌, ◌≢◌, ◌<◌, ◌==◌, ℕ, Bool, true, false, List, [], ◌∷◌, ◌++◌, All, get_or, length, refl, ap, subst, ◌∙◌, append-nil, arith}
use Rattle.std.specs.List.{flat_map, slice_split}
use Rattle.std.specs.Prelude.{◌↔◌, IsTrue, not}
use Rattle.std.proofs.lemmas.List.Elements.{All-head, All-tail, All-weaker, All-from_get_or}
use Rattle.condition_match.proofs.ConditionLemmas.{cut_there, cut_nowhere, names_of}
use Rattle.node_spec.specs.Conditions.{is_name_byte, names_in, IsCondition, AreConditions}
use Rattle.project_file.specs.Names.{IsName, joined}

abbrev behind_commas : List (List ℕ) → List ℕ
behind_commas names = flat_map (λ name. (44 ∷ []) ++ name) names

split_joined : (first : List ℕ) (names : List (List ℕ)) → All IsName (first ∷ names) → slice_split (λ b. b == 44) (first ++ behind_commas names) ≡ first ∷ names
split_joined first [] are =
    let here = (All-head IsName first [] are).no_comma in
    ap (slice_split (λ b. b == 44)) (append-nil first) ∙ cut_nowhere first (λ i below. here i 0 below)
split_joined first (name ∷ names) are =
    let here = (All-head IsName first (name ∷ names) are).no_comma in
    cut_there (first ++ behind_commas (name ∷ names)) first (name ++ behind_commas names) refl (λ i below. here i 0 below)
    ∙ ap (λ ns. first ∷ ns) (split_joined name names (All-tail IsName first (name ∷ names) are))

nonempty : (text rest : List ℕ) → text ≢ [] → 0 < length (text ++ rest)
nonempty [] rest some = absurd (some refl)
nonempty (b ∷ text) rest some = omega arith

pub names_joined : (names : List (List ℕ)) → All IsName names → names_in (joined names) ≡ names
names_joined [] are = refl
names_joined (first ∷ names) are =
    names_of (first ++ behind_commas names) (nonempty first (behind_commas names) (All-head IsName first names are).nonempty)
    ∙ split_joined first names are

no_comma : (b : ℕ) → is_name_byte b ≡ true → b ≢ 44
no_comma b is comma = let wrong : is_name_byte 44 ≡ true = subst (λ c. is_name_byte c ≡ true) comma is in cc

condition_name : (name : List ℕ) → IsCondition name → IsName name
condition_name name is = record {
  nonempty = λ e. let none : length name ≡ 0 = ap length e in let some = is.nonempty in omega arith;
  no_comma = All-weaker (λ b. is_name_byte b ≡ true) (λ b. b ≢ 44) no_comma name is.plain;
}

pub conditions_names : (names : List (List ℕ)) → AreConditions names → All IsName names
conditions_names names are = All-weaker IsCondition IsName condition_name names are.each

pub name_if : (text : List ℕ) (found : Bool) → text ≢ [] → (found ≡ true → (k : ℕ) × (k < length text) × (get_or text k 0 ≡ 44)) × ((k : ℕ) → k < length text → get_or text k 0 ≡ 44 → found ≡ true) → IsTrue (not found) ↔ IsName text
name_if text true some n = ((λ f. cc), (λ is. let at = n.0 refl in absurd (is.no_comma at.0 0 at.1 at.2)))
name_if text false some n = (
  (λ f. record { nonempty = some; no_comma = All-from_get_or (λ b. b ≢ 44) text 0 (λ k below e. let wrong : false ≡ true = n.1 k below e in cc) }),
  (λ is. refl),
)
