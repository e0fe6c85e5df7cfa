-- How a key matches, and where the keys stand.
use Rattle.std.proofs.Common.{◌≡◌, ◌≢◌, ◌<◌, ◌≤◌, ◌+◌, ◌-◌, ℕ, zero, suc, true, false, List, [], ◌∷◌, ◌++◌, length, take, get_or, refl, sym, ap, ◌∙◌, subst, arith, add-one, append_assoc, length-append, Option, Some, None, Bor}
use Rattle.std.specs.Prelude.{MatchOption, slice_get, IsUtf8}
use Rattle.std.proofs.lemmas.List.{take_all}
use Rattle.std.proofs.Math.Seq.{take-append_seam}
use Rattle.std.proofs.lemmas.Str.{IsCharBoundary-start, IsCharBoundary-from_take, IsCharBoundary-at_seam}
use Rattle.std.specs.Str.{IsCharBoundary}
use Rattle.std.proofs.lemmas.List.Elements.{All-from_get_or}
use Rattle.json_spec.specs.Value.{names_of}
use Rattle.ordered_json.specs.Shown.{members_of}
use Rattle.ordered_json.specs.declared.value.Value.{Value}
use Rattle.tree_spec.proofs.PathsAbove.{nonempty}
use Rattle.node_spec.specs.PatternKeys.{HasNoStar, IsPattern, PatternMatch, Matches}
use Rattle.node_spec.specs.PatternKeys.Matches.{by_pattern}
use Rattle.node_spec.specs.Laws.{PartStands}
use Rattle.node_spec.proofs.PatternParts.{part_length, fits_from_part}
use Rattle.exports_patterns.specs.Found.{HasSpan, IsMatch}

-- ---- one key

pub star_parts : (text : List ℕ) (r : Option (Bor (List ℕ) × Bor (List ℕ))) → MatchOption r ((i : ℕ) → i < length text → get_or text i 0 ≢ 42) (λ x. (text ≡ x.0.now ++ (42 ∷ x.1.now)) × ((i : ℕ) → i < length x.0.now → get_or x.0.now i 0 ≢ 42)) → MatchOption r (HasNoStar text) (λ x. (text ≡ x.0.now ++ (42 ∷ x.1.now)) × HasNoStar x.0.now)
star_parts text None none = All-from_get_or (λ b. b ≢ 42) text 0 none
star_parts text (Some x) found = (found.0, All-from_get_or (λ b. b ≢ 42) x.0.now 0 found.1)

pub is_pattern_match : (asked key base trailer part : List ℕ) (index to : ℕ) → IsPattern key base trailer → asked ≡ base ++ (part ++ trailer) → part ≢ [] → to ≡ length base + length part → IsMatch asked key (record { index = index; exact = false; from = length base; to = to })
is_pattern_match asked key base trailer part index to p e n t =
    let s : PartStands asked base trailer = record { part = part; stands = e; some = nonempty part n } in
    let l = part_length asked base trailer s in
    let u : length asked - length trailer ≡ to = omega arith in
    let m : Matches asked key (PatternMatch (length base) (length asked - length trailer)) = by_pattern base trailer p (fits_from_part asked key base trailer p s) in
    record { matches = subst (λ end. Matches asked key (PatternMatch (length base) end)) u m; no_span = λ e. (cc, cc) }

pub span_of_key : (asked : List ℕ) (index : ℕ) → IsUtf8 asked → HasSpan asked (record { index = index; exact = true; from = 0; to = 0 })
span_of_key asked index u = record { ordered = omega arith; begins = IsCharBoundary-start asked u; ends = IsCharBoundary-start asked u }

pub span_of_pattern : (asked base trailer part : List ℕ) (index to : ℕ) → IsUtf8 asked → IsUtf8 base → IsUtf8 trailer → asked ≡ base ++ (part ++ trailer) → to ≡ length base + length part → HasSpan asked (record { index = index; exact = false; from = length base; to = to })
span_of_pattern asked base trailer part index to u v w e t =
    let l : length asked ≡ length base + length (part ++ trailer) = ap length e ∙ length-append base (part ++ trailer) in
    let front : base ≡ take (length base) asked = sym (ap (take (length base)) e ∙ take-append_seam base (part ++ trailer)) in
    let place : length (base ++ part) ≡ to = length-append base part ∙ sym t in
    record {
      ordered = omega arith;
      begins = IsCharBoundary-from_take asked (length base) u (omega arith) (subst IsUtf8 front v);
      ends = subst (IsCharBoundary asked) place (IsCharBoundary-at_seam asked (base ++ part) trailer (e ∙ sym (append_assoc base part trailer)) w);
    }

-- ---- all keys

pub key_stands : (pairs : List (List ℕ × Value)) (i : ℕ) (pair : List ℕ × Value) → slice_get pairs i ≡ Some pair
    → slice_get (names_of (members_of pairs)) i ≡ Some pair.0
key_stands [] i pair e = absurd (cc)
key_stands (other ∷ pairs) zero pair e =
    let same : other ≡ pair = cc in ap (λ (p : List ℕ × Value). Some p.0) same
key_stands (other ∷ pairs) (suc i) pair e = key_stands pairs i pair e

pub no_key : (pairs : List (List ℕ × Value)) (i : ℕ) → slice_get pairs i ≡ None
    → length (names_of (members_of pairs)) ≤ i
no_key [] i e = omega arith
no_key (other ∷ pairs) zero e = absurd (cc)
no_key (other ∷ pairs) (suc i) e = let past = no_key pairs i e in omega (arith, past)

pub names_length : (pairs : List (List ℕ × Value)) → length (names_of (members_of pairs)) ≡ length pairs
names_length [] = refl
names_length (pair ∷ pairs) = ap suc (names_length pairs)

pub all_names : (pairs : List (List ℕ × Value)) (i : ℕ) → length pairs ≤ i → take i (names_of (members_of pairs)) ≡ names_of (members_of pairs)
all_names pairs i past = take_all i (names_of (members_of pairs)) (omega (arith, names_length pairs, past))

pub next_key : (keys : List (List ℕ)) (i : ℕ) (key : List ℕ) → slice_get keys i ≡ Some key → take (i + 1) keys ≡ take i keys ++ key ∷ []
next_key [] i key e = cc
next_key (k ∷ keys) zero key e = let s : k ≡ key = cc in ap (λ x. x ∷ []) s
next_key (k ∷ keys) (suc i) key e = rw add-one (ap (λ xs. k ∷ xs) (rw add-one at (next_key keys i key e)))

pub length_before : (keys : List (List ℕ)) (i : ℕ) (key : List ℕ) → slice_get keys i ≡ Some key → length (take i keys) ≡ i
length_before [] i key e = cc
length_before (k ∷ keys) zero key e = refl
length_before (k ∷ keys) (suc i) key e = ap suc (length_before keys i key e)
