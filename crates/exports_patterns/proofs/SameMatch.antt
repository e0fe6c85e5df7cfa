-- One match is found: two would stand at one place, and say the same.
use Rattle.std.specs.Prelude.{◌≡◌, ℕ, Bool, true, false, List, [], ◌∷◌, slice_get, Some, bytes_eq, if◌then◌else◌}
use Rattle.std.proofs.Common.{zero, suc, refl, sym, ap, ◌∙◌, subst}
use Rattle.std.specs.List.{AllByRecursion, IsDistinct}
use Rattle.std.proofs.lemmas.Bool.{true≢false}
use Rattle.std.proofs.lemmas.Slice.Eq.{bytes_eq-Decides}
use Rattle.node_spec.specs.PatternKeys.{KeyMatch, Itself, PatternMatch}
use Rattle.node_spec.proofs.PatternChoice.{one_choice}
use Rattle.exports_patterns.specs.declared.pattern_keys.Match.{Match}
use Rattle.exports_patterns.specs.Found.{keys_of, match_shown}
use Rattle.exports_patterns.specs.OneFound.{OneFound}

new_name : (name : List ℕ) (keys : List (List ℕ)) (i : ℕ) → AllByRecursion (λ other. bytes_eq name other ≡ false) keys
    → slice_get keys i ≡ Some name → ⊥
new_name name [] i n e = cc
new_name name (key ∷ keys) zero n e =
    let same : name ≡ key = cc in true≢false (sym ((bytes_eq-Decides name key).1 same) ∙ n.0)
new_name name (key ∷ keys) (suc i) n e = new_name name keys i n.1 e

same_place : (keys : List (List ℕ)) (key : List ℕ) (i j : ℕ) → IsDistinct bytes_eq keys
    → slice_get keys i ≡ Some key → slice_get keys j ≡ Some key → i ≡ j
unfolding IsDistinct
same_place [] key i j d e f = cc
same_place (first ∷ keys) key zero zero d e f = refl
same_place (first ∷ keys) key zero (suc j) d e f =
    let s : first ≡ key = cc in absurd (new_name first keys j d.0 (f ∙ ap Some (sym s)))
same_place (first ∷ keys) key (suc i) zero d e f =
    let s : first ≡ key = cc in absurd (new_name first keys i d.0 (e ∙ ap Some (sym s)))
same_place (first ∷ keys) key (suc i) (suc j) d e f = ap suc (same_place keys key i j d.1 e f)

abbrev NoSpan : Bool → ℕ → ℕ → Type 0
NoSpan exact from to = exact ≡ true → (from ≡ 0) × (to ≡ 0)

abbrev shown : Bool → ℕ → ℕ → KeyMatch
shown exact from to = if exact then Itself else PatternMatch from to

abbrev made : ℕ → Bool → ℕ → ℕ → Match
made index exact from to = record { index = index; exact = exact; from = from; to = to }

same_match : (i j : ℕ) (exact also : Bool) (from to other_from other_to : ℕ) → i ≡ j → NoSpan exact from to
    → NoSpan also other_from other_to → shown exact from to ≡ shown also other_from other_to
    → made i exact from to ≡ made j also other_from other_to
same_match i j true true from to other_from other_to e n m s =
    let f : from ≡ other_from = (n refl).0 ∙ sym (m refl).0 in
    let t : to ≡ other_to = (n refl).1 ∙ sym (m refl).1 in
    cc
same_match i j true false from to other_from other_to e n m s = cc
same_match i j false true from to other_from other_to e n m s = cc
same_match i j false false from to other_from other_to e n m s =
    let f : from ≡ other_from = cc in
    let t : to ≡ other_to = cc in
    cc

pub one_found : OneFound
one_found members asked found other d f g =
    let c = one_choice (keys_of members) asked f.key g.key (match_shown found) (match_shown other) f.chosen g.chosen in
    same_match found.index other.index found.exact other.exact found.from found.to other.from other.to
    (same_place (keys_of members) g.key found.index other.index d
    (subst (λ k. slice_get (keys_of members) found.index ≡ Some k) c.0 f.stands) g.stands)
    f.no_span g.no_span c.1
