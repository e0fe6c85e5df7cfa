-- Members of the objects in a record, and the key that is taken.
--     mixed_is                     some names pass and some don't
--     no_field, dot_at             the value with a name, by where the name stands
--     distinct_in                  the names of an object whose values all have distinct ones
--     comes_from, comes_to_same    what is left of a target
--     field_passed, field_here     the value with a name, member by member
--     none_first, target_is        the key that is taken
use Rattle.std.proofs.Common.{◌≡◌, ◌&&◌, ◌||◌, ℕ, zero, suc, Bool, true, false, not, List, [], ◌∷◌, Option, Some, None, refl, sym, ap, ◌∙◌, subst}
use Rattle.std.specs.Prelude.{◌≢◌, slice_get, bytes_eq, codes, MatchOption}
use Rattle.std.proofs.lemmas.Slice.Eq.{bytes_eq-Decides}
use Rattle.std.proofs.lemmas.List.Elements.{All-cons, All-nil}
use Rattle.node_spec.specs.PackageExportsResolve.{is_dotted, has_dotted, is_mixed}
use Rattle.std.specs.List.{list_any, list_all, IsDistinct}
use Rattle.std.proofs.lemmas.Bool.{cond-true, cond-false}
use Rattle.std.proofs.lemmas.Cmp.{nat_list_eq_equiv}
use Rattle.std.proofs.lemmas.Option.{same_Some, none-some, slice_get_past}
use Rattle.json_spec.proofs.NewNames.{IsNewName}
use Rattle.json_spec.specs.Value.{AreDistinct, HasDistinctNames, Json, Members, a_null, an_object, names_of}
use Rattle.ordered_json.specs.Shown.{json_of, members_of}
use Rattle.ordered_json.specs.declared.value.Value.{Value}
use Rattle.exports_patterns.proofs.KeyLemmas.{key_stands, no_key}
use Rattle.exports_patterns.specs.Found.{match_shown, IsFound}
use Rattle.exports_patterns.specs.declared.pattern_keys.Match.{Match}
use Rattle.node_spec.proofs.KeyChoice.{finds_key}
use Rattle.node_spec.proofs.PatternChoice.{one_choice}
use Rattle.node_spec.specs.PatternKeyCompare.{KeyFound, first_key, pattern_match}
use Rattle.node_spec.specs.PatternKeys.{HasNoStar, KeyMatch, IsChoice, MatchesNone}
use Rattle.condition_match.specs.Reducing.{ComesAs}
use Rattle.node_spec.specs.Records.{field}
use Rattle.node_resolve.specs.Members.{IsTarget}

abbrev Pairs : Type 0
Pairs = List (List ℕ × Value)

-- ---- tests of names

not_both : (a b : Bool) → (not a || not b) ≡ not (a && b)
not_both true b = refl
not_both false b = refl

not_all : (test : List ℕ → Bool) (keys : List (List ℕ)) → list_any (λ key. not (test key)) keys ≡ not (list_all test keys)
not_all test [] = refl
not_all test (key ∷ keys) =
    ap (λ b. not (test key) || b) (not_all test keys) ∙ not_both (test key) (list_all test keys)

pub mixed_is : (members : Members) (has are : Bool) → has ≡ has_dotted members → are ≡ list_all is_dotted (names_of members)
    → (has && not are) ≡ is_mixed members
mixed_is members has are h a = (λ i. h i && not (a i)) ∙ ap (λ b. has_dotted members && b) (sym (not_all is_dotted (names_of members)))

-- ---- an object's own names

pub distinct_in : (value : Json) (members : Members) → value ≡ an_object members → HasDistinctNames value → AreDistinct members
distinct_in value members e distinct = (subst HasDistinctNames e distinct).0

-- ---- what is left of a target

pub comes_from : (conditions : List (List ℕ)) (imports : Bool) (target other made : Json) → target ≡ other
    → ComesAs conditions imports other made → ComesAs conditions imports target made
comes_from conditions imports target other made e comes = subst (λ t. ComesAs conditions imports t made) (sym e) comes

pub comes_to_same : (conditions : List (List ℕ)) (imports : Bool) (target made : Json) → made ≡ target
    → ComesAs conditions imports target made
comes_to_same conditions imports target made e = subst (λ m. ComesAs conditions imports target m) (sym e) (λ star asked out r. r)

-- ---- the value with a name

pub field_passed : (name : List ℕ) (pair : List ℕ × Value) (pairs : Pairs) → bytes_eq name pair.0 ≡ false
    → field name (members_of (pair ∷ pairs)) ≡ field name (members_of pairs)
field_passed name pair pairs e = cond-false _ (json_of pair.1) (field name (members_of pairs)) e

pub field_here : (name : List ℕ) (pair : List ℕ × Value) (pairs : Pairs) → bytes_eq name pair.0 ≡ true
    → field name (members_of (pair ∷ pairs)) ≡ json_of pair.1
field_here name pair pairs e = cond-true _ (json_of pair.1) (field name (members_of pairs)) e

new_at : (name : List ℕ) (pairs : Pairs) (i : ℕ) (pair : List ℕ × Value) → IsNewName name (members_of pairs)
    → slice_get pairs i ≡ Some pair → bytes_eq name pair.0 ≡ false
new_at name [] i pair n e = absurd (cc)
new_at name (other ∷ pairs) zero pair n e =
    let f : pair ≡ other = cc in ap (λ (p : List ℕ × Value). bytes_eq name p.0) f ∙ n.0
new_at name (other ∷ pairs) (suc i) pair n e = new_at name pairs i pair n.1 e

pub field_at : (pairs : Pairs) (i : ℕ) (pair : List ℕ × Value) → AreDistinct (members_of pairs)
    → slice_get pairs i ≡ Some pair → field pair.0 (members_of pairs) ≡ json_of pair.1
unfolding IsDistinct
field_at [] i pair d e = absurd (cc)
field_at (other ∷ pairs) zero pair d e =
    let f : other ≡ pair = cc in
    field_here pair.0 other pairs (subst (λ (p : List ℕ × Value). bytes_eq pair.0 p.0 ≡ true) (sym f) (nat_list_eq_equiv.refl pair.0))
    ∙ ap (λ (p : List ℕ × Value). json_of p.1) f
field_at (other ∷ pairs) (suc i) pair d e =
    field_passed pair.0 other pairs
    (nat_list_eq_equiv.symm pair.0 other.0 ∙ new_at other.0 pairs i pair d.0 e)
    ∙ field_at pairs i pair d.1 e

-- where no name is this one, there is no value
pub no_field : (name : List ℕ) (pairs : Pairs) → ((i : ℕ) → slice_get (names_of (members_of pairs)) i ≡ Some name → ⊥)
    → field name (members_of pairs) ≡ a_null
no_field name [] none = refl
no_field name (pair ∷ pairs) none =
    field_passed name pair pairs (differs (bytes_eq name pair.0) refl)
    ∙ no_field name pairs (λ i e. none (suc i) e)
  where
    differs : (b : Bool) → bytes_eq name pair.0 ≡ b → bytes_eq name pair.0 ≡ false
    differs true e = absurd (none zero (ap Some (sym ((bytes_eq-Decides name pair.0).0 e))))
    differs false e = e

name_at : (pairs : Pairs) (i : ℕ) (pair : List ℕ × Value) (key : List ℕ) → slice_get pairs i ≡ Some pair
    → slice_get (names_of (members_of pairs)) i ≡ Some key → key ≡ pair.0
name_at pairs i pair key e f = same_Some _ _ (sym f ∙ key_stands pairs i pair e)

pub dot_has_no_star : HasNoStar (codes ".")
dot_has_no_star = All-cons (λ b. b ≢ 42) 46 [] (λ e. cc) (All-nil (λ b. b ≢ 42))

pub dot_at : (pairs : Pairs) (i : ℕ) (pair : List ℕ × Value) → AreDistinct (members_of pairs)
    → slice_get (names_of (members_of pairs)) i ≡ Some (codes ".") → slice_get pairs i ≡ Some pair
    → field (codes ".") (members_of pairs) ≡ json_of pair.1
dot_at pairs i pair distinct name e =
    ap (λ k. field k (members_of pairs)) (name_at pairs i pair (codes ".") e name) ∙ field_at pairs i pair distinct e

-- ---- the key that is taken

first_by : (asked : List ℕ) (keys : List (List ℕ)) (key : List ℕ) (match : KeyMatch) (first : Option KeyFound)
    → MatchOption first (MatchesNone keys asked) (λ (chosen : KeyFound). IsChoice keys asked chosen.key chosen.found)
    → IsChoice keys asked key match → first ≡ Some (record { key = key; found = match })
first_by asked keys key match None none choice = absurd (none key match choice.among choice.matches)
first_by asked keys key match (Some chosen) one choice =
    let same = one_choice keys asked chosen.key key chosen.found match one choice in
    λ i. Some (record { key = same.0 i; found = same.1 i })

none_by : (asked : List ℕ) (keys : List (List ℕ)) (first : Option KeyFound)
    → MatchOption first (MatchesNone keys asked) (λ (chosen : KeyFound). IsChoice keys asked chosen.key chosen.found)
    → MatchesNone keys asked → first ≡ None
none_by asked keys None is none = refl
none_by asked keys (Some chosen) is none = absurd (none chosen.key chosen.found is.among is.matches)

pub not_there : (pairs : Pairs) (i : ℕ) (key : List ℕ)
    → slice_get (names_of (members_of pairs)) i ≡ Some key → slice_get pairs i ≡ None → ⊥
not_there pairs i key e f =
    none-some key (sym (slice_get_past (names_of (members_of pairs)) i (no_key pairs i f)) ∙ e)

pub none_first : (pairs : Pairs) (asked : List ℕ) → MatchesNone (names_of (members_of pairs)) asked
    → first_key asked (names_of (members_of pairs)) ≡ None
none_first pairs asked none =
    none_by asked (names_of (members_of pairs)) (first_key asked (names_of (members_of pairs)))
    (finds_key asked (names_of (members_of pairs))) none

pub target_is : (pairs : Pairs) (asked : List ℕ) (chosen : Match) (pair : List ℕ × Value) (star : Option (List ℕ))
    → AreDistinct (members_of pairs) → IsFound (names_of (members_of pairs)) asked chosen
    → slice_get pairs chosen.index ≡ Some pair → pattern_match asked (match_shown chosen) ≡ star
    → IsTarget (members_of pairs) asked (json_of pair.1) star
target_is pairs asked chosen pair star d is e s =
    let key_is : is.key ≡ pair.0 = name_at pairs chosen.index pair is.key e is.stands in
    record {
      chosen = record { key = is.key; found = match_shown chosen };
      first = first_by asked (names_of (members_of pairs)) is.key (match_shown chosen)
          (first_key asked (names_of (members_of pairs))) (finds_key asked (names_of (members_of pairs))) is.chosen;
      target_is = ap (λ k. field k (members_of pairs)) key_is ∙ field_at pairs chosen.index pair d e;
      star_is = s;
    }
