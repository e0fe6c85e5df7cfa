-- Names that are taken one after another.
use Rattle.std.proofs.Common.{◌≡◌, ◌≢◌, ◌<◌, ◌==◌, ◌++◌, ℕ, true, false, List, [], ◌∷◌, Option, Some, Bor, length}
use Rattle.std.proofs.Common.{get_or, All, refl, append_assoc, sym, ap, subst, ◌∙◌, arith}
use Rattle.std.specs.Prelude.{bytes_eq, option_map}
use Rattle.std.specs.List.{list_any, slice_split, IsDistinct}
use Rattle.std.proofs.Math.ListN.{get_or-append}
use Rattle.std.proofs.Math.Seq.{get_or-append_seam}
use Rattle.std.proofs.lemmas.Bool.{true≢false, ne_eqb}
use Rattle.std.proofs.lemmas.Cmp.{nat_list_eq_equiv}
use Rattle.std.proofs.lemmas.List.{length-append}
use Rattle.std.proofs.lemmas.List.Splits.{slice_split_at, slice_split_none}
use Rattle.std.proofs.lemmas.List.Elements.{All-nil, All-head, All-tail, All-push, All-from_get_or}
use Rattle.std.proofs.lemmas.List.Folds.{Any-from_list_any}
use Rattle.std.proofs.lemmas.Map.Keys.{apart_from_distinct, IsDistinct-push}
use Rattle.tree_spec.proofs.FootprintSets.{distinct_none}
use Rattle.node_spec.specs.Conditions.{names_in, IsCondition, AreConditions}
use Rattle.condition_match.specs.Names.{names_left}

-- ---- names between commas

pub cut_there : (text front back : List ℕ) → text ≡ front ++ 44 ∷ back → ((i : ℕ) → i < length front → get_or front i 0 ≢ 44) → slice_split (λ b. b == 44) text ≡ front ∷ slice_split (λ b. b == 44) back
cut_there text front back split none =
    ap (slice_split (λ b. b == 44)) split ∙ slice_split_at (λ b. b == 44) front 44 back (All-from_get_or (λ b. (b == 44) ≡ false) front 0 (λ i below. ne_eqb (get_or front i 0) 44 (none i below))) refl

pub cut_nowhere : (text : List ℕ) → ((i : ℕ) → i < length text → get_or text i 0 ≢ 44) → slice_split (λ b. b == 44) text ≡ text ∷ []
cut_nowhere text none = slice_split_none (λ b. b == 44) text (All-from_get_or (λ b. (b == 44) ≡ false) text 0 (λ i below. ne_eqb (get_or text i 0) 44 (none i below)))

pub names_of : (text : List ℕ) → 0 < length text → names_in text ≡ slice_split (λ b. b == 44) text
names_of [] some = absurd (omega arith)
names_of (b ∷ text) some = refl

pub no_names : (text : List ℕ) → length text ≡ 0 → names_in text ≡ []
no_names [] none = refl
no_names (b ∷ text) none = absurd (omega arith)

-- ---- conditions

pub no_conditions : AreConditions []
no_conditions = record { few = omega arith; each = All-nil IsCondition; distinct = distinct_none }

in_middle : (P : List ℕ → Type 0) (front : List (List ℕ)) (name : List ℕ) (back : List (List ℕ)) → All P (front ++ name ∷ back) → P name
in_middle P [] name back all = All-head P name back all
in_middle P (x ∷ front) name back all = in_middle P front name back (All-tail P x (front ++ name ∷ back) all)

pub not_before : (seen texts : List (List ℕ)) (text : List ℕ) → IsDistinct bytes_eq (seen ++ text ∷ texts) → list_any (bytes_eq text) seen ≡ true → ⊥
not_before seen texts text distinct there =
    let found = Any-from_list_any (bytes_eq text) seen there in
    let all = seen ++ text ∷ texts in
    let inside : found.0 < length seen = found.2 in
    let long = length-append seen (text ∷ texts) in
    let within : length seen < length all = omega arith in
    let apart = apart_from_distinct bytes_eq all found.0 (length seen) found.1 distinct inside within in
    let first : get_or all found.0 found.1 ≡ found.1 = get_or-append seen (text ∷ texts) found.1 found.0 inside ∙ found.3 in
    let second : get_or all (length seen) found.1 ≡ text = get_or-append_seam seen text texts found.1 in
    let differ : bytes_eq found.1 text ≡ false = (λ j. bytes_eq (sym first j) (sym second j)) ∙ apart in
    true≢false (sym found.4 ∙ (nat_list_eq_equiv.symm text found.1 ∙ differ))

pub one_more : (names : List (List ℕ)) (name : List ℕ) → AreConditions names → length names ≢ 32 → IsCondition name → list_any (bytes_eq name) names ≡ false → AreConditions (names ++ name ∷ [])
one_more names name are room is new =
    record { few = omega (arith, are.few, room, length-append names (name ∷ [])); each = All-push IsCondition names name are.each is; distinct = IsDistinct-push nat_list_eq_equiv names name are.distinct new }

pub too_many : (all names : List (List ℕ)) (name : List ℕ) (back : List (List ℕ)) → all ≡ names ++ name ∷ back → length names ≡ 32 → AreConditions all → ⊥
too_many all names name back split full are = omega (arith, are.few, full, ap length split, length-append names (name ∷ back))

pub no_condition : (all names : List (List ℕ)) (name : List ℕ) (back : List (List ℕ)) → all ≡ names ++ name ∷ back → (IsCondition name → ⊥) → AreConditions all → ⊥
no_condition all names name back split is_none are = is_none (in_middle IsCondition names name back (subst (All IsCondition) split are.each))

pub stands_twice : (all names : List (List ℕ)) (name : List ℕ) (back : List (List ℕ)) → all ≡ names ++ name ∷ back → list_any (bytes_eq name) names ≡ true → AreConditions all → ⊥
stands_twice all names name back split there are = not_before names back name (subst (IsDistinct bytes_eq) split are.distinct) there

-- ---- the loop

pub none_read : (text : List ℕ) (names : List (List ℕ)) → names ≡ [] → 0 < length text → names_in text ≡ names ++ slice_split (λ b. b == 44) text
none_read text names none some = names_of text some ∙ ap (λ ns. ns ++ slice_split (λ b. b == 44) text) (sym none)

pub name_taken : (all names : List (List ℕ)) (rest : Option (Bor (List ℕ))) (left : Bor (List ℕ)) (name : List ℕ) (back : List (List ℕ)) → all ≡ names ++ names_left (option_map (λ text. text.now) rest) → rest ≡ Some left → slice_split (λ b. b == 44) left.now ≡ name ∷ back → all ≡ names ++ name ∷ back
name_taken all names rest left name back so_far here split = so_far ∙ (ap (λ r. names ++ names_left (option_map (λ (text : Bor (List ℕ)). text.now) r)) here ∙ ap (λ ns. names ++ ns) split)

pub name_put : (all names next : List (List ℕ)) (name copy : List ℕ) (back : List (List ℕ)) → all ≡ names ++ name ∷ back → next ≡ names ++ copy ∷ [] → copy ≡ name → all ≡ next ++ back
name_put all names next name copy back split put same =
    split ∙ (sym (append_assoc names (name ∷ []) back) ∙ ap (λ ns. ns ++ back) (sym (put ∙ ap (λ n. names ++ n ∷ []) same)))

pub still_conditions : (names next : List (List ℕ)) (name copy : List ℕ) → next ≡ names ++ copy ∷ [] → copy ≡ name → AreConditions (names ++ name ∷ []) → AreConditions next
still_conditions names next name copy put same are = subst AreConditions (sym (put ∙ ap (λ n. names ++ n ∷ []) same)) are
