-- Members of which no name is an array index stand in property order.
--     ArePlain members      no name is an array index
use Rattle.std.proofs.Common.{◌≡◌, ℕ, false, List, [], ◌∷◌, length, refl, sym, ap, ◌∙◌, subst}
use Rattle.std.specs.Prelude.{◌&&◌, nat_le, ⊤}
use Rattle.std.specs.List.{list_all}
use Rattle.std.specs.Char.{is_ascii_digit}
use Rattle.std.proofs.lemmas.Bool.{cond-false}
use Rattle.json_spec.specs.PropertyOrder.{is_array_index, has_no_leading_zero, number_of, index_members, other_members, joined, in_property_order}
use Rattle.json_spec.specs.Value.{Members, no_members, a_member}
use Rattle.ordered_json.specs.Shown.{members_of}
use Rattle.ordered_json.specs.declared.value.Value.{Value}

abbrev pub ArePlain : Members → Type 0
ArePlain no_members = ⊤
ArePlain (a_member key value more) = (is_array_index key ≡ false) × ArePlain more

no_index : (ms : Members) → ArePlain ms → index_members ms ≡ no_members
no_index no_members plain = refl
no_index (a_member key value more) plain = cond-false _ _ _ plain.0 ∙ no_index more plain.1

all_others : (ms : Members) → ArePlain ms → other_members ms ≡ ms
all_others no_members plain = refl
all_others (a_member key value more) plain = cond-false _ _ _ plain.0 ∙ ap (a_member key value) (all_others more plain.1)

pub as_written : (ms : Members) → ArePlain ms → in_property_order ms ≡ ms
as_written ms plain = ap (λ front. joined front (other_members ms)) (no_index ms plain) ∙ all_others ms plain

empty_name : is_array_index [] ≡ false
unfolding is_array_index
empty_name = refl

no_digit : (b : ℕ) (rest : List ℕ) → is_ascii_digit b ≡ false → is_array_index (b ∷ rest) ≡ false
unfolding is_array_index
no_digit b rest none = ap (λ t. (t && list_all is_ascii_digit rest) && (has_no_leading_zero (b ∷ rest) && nat_le (number_of (b ∷ rest)) 4294967294)) none

-- where this name is no array index, what is behind it decides
pub plain_behind : (rest more : List (List ℕ × Value)) (pair : List ℕ × Value) → rest ≡ pair ∷ more → is_array_index pair.0 ≡ false → ArePlain (members_of more) → ArePlain (members_of rest)
plain_behind rest more pair e none plain = subst (λ ps. ArePlain (members_of ps)) (sym e) (none, plain)

pub plain_at_end : (rest : List (List ℕ × Value)) → length rest ≡ 0 → ArePlain (members_of rest)
plain_at_end [] e = tt
plain_at_end (pair ∷ rest) e = cc

pub no_digit_first : (name rest : List ℕ) (b : ℕ) → name ≡ b ∷ rest → is_ascii_digit b ≡ false → is_array_index name ≡ false
no_digit_first name rest b e none = ap is_array_index e ∙ no_digit b rest none

pub no_byte : (name : List ℕ) → length name ≡ 0 → is_array_index name ≡ false
no_byte [] e = empty_name
no_byte (b ∷ rest) e = cc
