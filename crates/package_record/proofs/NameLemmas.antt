-- Tests of names, by tests of the members.
use Rattle.std.proofs.Common.{◌≡◌, ◌&&◌, ◌||◌, ℕ, Bool, List, [], ◌∷◌, refl, sym, ap, ◌∙◌, subst}
use Rattle.std.specs.Prelude.{Result, Ok, Err, IfOk}
use Rattle.std.specs.List.{list_any, list_all}
use Rattle.std.specs.declared.alloc.AllocError.{AllocError}
use Rattle.node_spec.specs.PackageExportsResolve.{is_dotted, has_dotted}
use Rattle.exports_patterns.specs.Indexes.{IsIndex}
use Rattle.package_record.specs.Indexed.{HasKeys, IsIndexOf}
use Rattle.package_record.specs.declared.subpaths.Index.{Index}
use Rattle.json_spec.specs.Value.{Members, an_object, names_of}
use Rattle.ordered_json.specs.Shown.{json_of, members_of, IsNoObject}
use Rattle.ordered_json.specs.declared.value.Value.{Value}

pub any_key : (test : List ℕ → Bool) (pairs : List (List ℕ × Value)) → list_any (λ (pair : List ℕ × Value). test pair.0) pairs ≡ list_any test (names_of (members_of pairs))
any_key test [] = refl
any_key test (pair ∷ pairs) = ap (λ b. test pair.0 || b) (any_key test pairs)

pub all_keys : (test : List ℕ → Bool) (pairs : List (List ℕ × Value)) → list_all (λ (pair : List ℕ × Value). test pair.0) pairs ≡ list_all test (names_of (members_of pairs))
all_keys test [] = refl
all_keys test (pair ∷ pairs) = ap (λ b. test pair.0 && b) (all_keys test pairs)

-- ---- the index of a value

pub any_index : (value : Value) (result : Result Index AllocError) → IsNoObject (json_of value) → IfOk result (IsIndexOf value)
any_index value (Ok index) none = λ members is. absurd (none members is)
any_index value (Err fault) none = tt

pub index_there : (value : Value) (members : Members) (index : Index) → json_of value ≡ an_object members → IsIndex (names_of members) index.keys → index.has_dotted ≡ has_dotted members → index.are_dotted ≡ list_all is_dotted (names_of members) → IsIndexOf value index
index_there value members index is keys has are others also =
    let same : members ≡ others = (let e : an_object members ≡ an_object others = sym is ∙ also in cc) in
    subst (λ m. HasKeys m index) same (record { keys = keys; has_dotted = has; are_dotted = are })
