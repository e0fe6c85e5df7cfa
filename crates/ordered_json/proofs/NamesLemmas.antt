-- Names that are looked for one after another, each among those behind it.
use Rattle.std.specs.Prelude.{◌≡◌, ℕ, false, List, [], ◌∷◌, length, bytes_eq}
use Rattle.std.specs.List.{AllByRecursion, IsDistinct, list_any}
use Rattle.std.proofs.Common.{subst, sym}
use Rattle.std.proofs.lemmas.Bool.{or_parts}
use Rattle.json_spec.specs.Value.{names_of, AreDistinct}
use Rattle.ordered_json.specs.declared.value.Value.{Value}
use Rattle.ordered_json.specs.Shown.{members_of}

none_among : (name : List ℕ) (names : List (List ℕ)) → list_any (bytes_eq name) names ≡ false
    → AllByRecursion (λ other. bytes_eq name other ≡ false) names
none_among name [] e = tt
none_among name (other ∷ names) e =
    let parts = or_parts (bytes_eq name other) (list_any (bytes_eq name) names) e in
    (parts.0, none_among name names parts.1)

pub distinct_before : (pair : List ℕ × Value) (rest more : List (List ℕ × Value)) → rest ≡ pair ∷ more
    → list_any (bytes_eq pair.0) (names_of (members_of more)) ≡ false → AreDistinct (members_of more)
    → AreDistinct (members_of rest)
unfolding IsDistinct
distinct_before pair rest more is new distinct =
    subst (λ pairs. AreDistinct (members_of pairs)) (sym is)
    (none_among pair.0 (names_of (members_of more)) new, distinct)

pub distinct_at_end : (rest : List (List ℕ × Value)) → length rest ≡ 0 → AreDistinct (members_of rest)
unfolding IsDistinct
distinct_at_end [] is = tt
distinct_at_end (pair ∷ rest) is = cc
