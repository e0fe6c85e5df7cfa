-- The worked examples of keys that are chosen.
use Rattle.std.proofs.Common.{zero, suc, subst, arith, refl, ap, lit<, lit≤, sym, ◌∙◌}
use Rattle.std.proofs.lemmas.Bool.{and_parts, eqb-false, not-true}
use Rattle.std.proofs.lemmas.List.{append-nil, append_cancel_left}
use Rattle.std.proofs.lemmas.List.Elements.{All-nil, All-cons}
use Rattle.std.specs.List.{slice_index_or}
use Rattle.std.specs.Prelude.{◌&&◌, ◌==◌, not, ℕ, Bool, true, List, [], ◌∷◌, ◌≡◌, ◌≢◌, ◌++◌, ◌<◌, ◌-◌, length, ⊤, Contains, ◌≤◌, codes}
use mathlib.Core.Logic.{inl, inr}
use Rattle.node_spec.proofs.PatternOrder.{one_match, precedes_before, never_before_itself}
use Rattle.node_spec.proofs.PatternParts.{fits_from_part, no_pattern_match, many_stars}
use Rattle.node_spec.specs.PatternExamples.{three_keys, PatternExamples}
use Rattle.node_spec.specs.PatternKeys.{HasNoStar, IsPattern, PatternMatch, Matches, KeyMatch, GoesBefore, IsChoice, MatchesNone, Itself}
use Rattle.node_spec.specs.PatternKeys.Matches.{by_pattern, by_itself}

abbrev has_no_star : List ℕ → Bool
has_no_star [] = true
has_no_star (b ∷ text) = not (b == 42) && has_no_star text

no_star : (text : List ℕ) → has_no_star text ≡ true → HasNoStar text
no_star [] e = All-nil (λ b. b ≢ 42)
no_star (b ∷ text) e =
    let parts = and_parts (not (b == 42)) (has_no_star text) e in
    All-cons (λ x. x ≢ 42) b text (eqb-false b 42 (not-true _ parts.0)) (no_star text parts.1)

pattern : (key base trailer : List ℕ) → key ≡ base ++ 42 ∷ trailer → has_no_star base ≡ true → has_no_star trailer ≡ true → IsPattern key base trailer
pattern key base trailer e b t = record { parts = e; before_star = no_star base b; after_star = no_star trailer t }

part_matches : (asked key base part trailer : List ℕ) → IsPattern key base trailer → asked ≡ base ++ (part ++ trailer) → 0 < length part → Matches asked key (PatternMatch (length base) (length asked - length trailer))
part_matches asked key base part trailer p e l = by_pattern base trailer p (fits_from_part asked key base trailer p (record { part = part; stands = e; some = l }))

-- ---- lists of keys

abbrev Each : (List ℕ → Type 0) → List (List ℕ) → Type 0
Each P [] = ⊤
Each P (key ∷ keys) = P key × Each P keys

at_place : (P : List ℕ → Type 0) (keys : List (List ℕ)) → Each P keys → (i : ℕ) → i < length keys → (key : List ℕ) → slice_index_or keys i key ≡ key → P key
at_place P [] each i l key e = absurd (omega arith)
at_place P (first ∷ keys) each zero l key e = subst P e each.0
at_place P (first ∷ keys) each (suc i) l key e = at_place P keys each.1 i (omega arith) key e

abbrev NotBefore : List ℕ → KeyMatch → List ℕ → Type 0
NotBefore asked found other = (also : KeyMatch) → Matches asked other also → GoesBefore also found → ⊥

never_ahead : (asked other : List ℕ) (found way : KeyMatch) → Matches asked other way → (GoesBefore way found → ⊥) → NotBefore asked found other
never_ahead asked other found way m n also a b = n (subst (λ w. GoesBefore w found) (one_match asked other other also way a m) b)

choice : (keys : List (List ℕ)) (asked key : List ℕ) (found : KeyMatch) → Contains keys key → Matches asked key found → Each (NotBefore asked found) keys → IsChoice keys asked key found
choice keys asked key found c m each = record {
  among = c;
  matches = m;
  is_first = λ other also d n p. at_place (NotBefore asked found) keys each d.0 d.1 other d.2 also n (precedes_before asked other key also found n m p);
}

matches_none : (key asked : List ℕ) → ((found : KeyMatch) → Matches asked key found → ⊥) → MatchesNone (key ∷ []) asked
matches_none key asked none other found c m = at_place (λ k. (w : KeyMatch) → Matches asked k w → ⊥) (key ∷ []) (none, tt) c.0 c.1 other c.2 found m

longer_base_first : (from to other_from other_to : ℕ) → from < other_from → GoesBefore (PatternMatch from to) (PatternMatch other_from other_to) → ⊥
longer_base_first from to other_from other_to l (inl b) = omega arith
longer_base_first from to other_from other_to l (inr b) = omega arith

longer_key_first : (from to other_to : ℕ) → other_to ≤ to → GoesBefore (PatternMatch from to) (PatternMatch from other_to) → ⊥
longer_key_first from to other_to l (inl b) = omega arith
longer_key_first from to other_to l (inr b) = omega arith

-- ---- the examples

any_in_a : IsPattern (codes "./a/*") (codes "./a/") []
any_in_a = pattern _ _ _ refl refl refl

scripts_in_a : IsPattern (codes "./a/*.js") (codes "./a/") (codes ".js")
scripts_in_a = pattern _ _ _ refl refl refl

any_from_b : IsPattern (codes "./a/b*") (codes "./a/b") []
any_from_b = pattern _ _ _ refl refl refl

x_is_no_b : (part : List ℕ) → codes "./a/x.js" ≡ codes "./a/b" ++ (part ++ []) → part ≡ []
x_is_no_b part e = let h : ◌≡◌ {A = ℕ} 120 98 = ap (λ (text : List ℕ). slice_index_or text 4 0) e in absurd (omega arith)

longest_base_wins : IsChoice three_keys (codes "./a/bc.js") (codes "./a/b*") (PatternMatch 5 9)
longest_base_wins =
    let asked : List ℕ = codes "./a/bc.js" in
    let way : KeyMatch = PatternMatch 5 9 in
    let by_any : Matches asked (codes "./a/*") (PatternMatch 4 9) = part_matches asked (codes "./a/*") (codes "./a/") (codes "bc.js") [] any_in_a refl (lit< tt) in
    let by_script : Matches asked (codes "./a/*.js") (PatternMatch 4 6) = part_matches asked (codes "./a/*.js") (codes "./a/") (codes "bc") (codes ".js") scripts_in_a refl (lit< tt) in
    let found : Matches asked (codes "./a/b*") way = part_matches asked (codes "./a/b*") (codes "./a/b") (codes "c.js") [] any_from_b refl (lit< tt) in
    choice three_keys asked (codes "./a/b*") way (1, lit< tt, refl) found
    (never_ahead asked (codes "./a/*") way (PatternMatch 4 9) by_any (longer_base_first 4 9 5 9 (lit< tt)), (never_ahead asked (codes "./a/b*") way way found (never_before_itself way), (never_ahead asked (codes "./a/*.js") way (PatternMatch 4 6) by_script (longer_base_first 4 6 5 9 (lit< tt)), tt)))

longest_key_wins : IsChoice three_keys (codes "./a/x.js") (codes "./a/*.js") (PatternMatch 4 5)
longest_key_wins =
    let asked : List ℕ = codes "./a/x.js" in
    let way : KeyMatch = PatternMatch 4 5 in
    let by_any : Matches asked (codes "./a/*") (PatternMatch 4 8) = part_matches asked (codes "./a/*") (codes "./a/") (codes "x.js") [] any_in_a refl (lit< tt) in
    let found : Matches asked (codes "./a/*.js") way = part_matches asked (codes "./a/*.js") (codes "./a/") (codes "x") (codes ".js") scripts_in_a refl (lit< tt) in
    choice three_keys asked (codes "./a/*.js") way (2, lit< tt, refl) found
    (never_ahead asked (codes "./a/*") way (PatternMatch 4 8) by_any (longer_key_first 4 8 5 (lit≤ tt)), ((λ also m b. no_pattern_match asked (codes "./a/b*") (codes "./a/b") [] any_from_b x_is_no_b also m), (never_ahead asked (codes "./a/*.js") way way found (never_before_itself way), tt)))

any_at_all : IsPattern (codes "./*") (codes "./") []
any_at_all = pattern _ _ _ refl refl refl

key_itself_wins : IsChoice (codes "./*" ∷ codes "./x" ∷ []) (codes "./x") (codes "./x") Itself
key_itself_wins =
    let asked : List ℕ = codes "./x" in
    let by_any : Matches asked (codes "./*") (PatternMatch 2 3) = part_matches asked (codes "./*") (codes "./") (codes "x") [] any_at_all refl (lit< tt) in
    let found : Matches asked asked Itself = by_itself refl (no_star asked refl) in
    choice (codes "./*" ∷ codes "./x" ∷ []) asked asked Itself (1, lit< tt, refl) found
    (never_ahead asked (codes "./*") Itself (PatternMatch 2 3) by_any (λ b. b), (never_ahead asked asked Itself Itself found (λ b. b), tt))

no_part_behind : (part : List ℕ) → codes "./a/" ≡ codes "./a/" ++ (part ++ []) → part ≡ []
no_part_behind part e = sym (append-nil part) ∙ append_cancel_left (codes "./a/") (part ++ []) [] (sym e)

pub pattern_examples : PatternExamples
pattern_examples = record {
  longest_base = longest_base_wins;
  longest_key = longest_key_wins;
  key_itself = key_itself_wins;
  base_alone = matches_none (codes "./a/*") (codes "./a/") (no_pattern_match (codes "./a/") (codes "./a/*") (codes "./a/") [] any_in_a no_part_behind);
  two_stars = matches_none (codes "./a/*/b/*") (codes "./a/1/b/2") (many_stars (codes "./a/1/b/2") (codes "./a/*/b/*") (codes "./a/") (codes "/b/*") (codes "/b/") [] refl (no_star (codes "./a/") refl) refl);
}
