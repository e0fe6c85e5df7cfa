-- The members of a project's file are four, in any order.
use Rattle.std.proofs.Common.{◌≡◌, ◌≢◌, ◌||◌, ℕ, suc, true, List, [], ◌∷◌, All, length, refl, sym, ap, subst, ◌∙◌, ⊎_elim, arith}
use Rattle.std.specs.List.{list_any, sum_by}
use Rattle.std.specs.List.Sorted.{IsPermutation}
use Rattle.std.specs.Prelude.{codes, bytes_eq, Some}
use Rattle.std.proofs.lemmas.Bool.{cases_Bool, cond-true, cond-false, true≢false}
use Rattle.std.proofs.lemmas.List.Elements.{All-nil, All-cons, All-head, All-tail}
use Rattle.std.proofs.lemmas.List.Sorted.{IsPermutation-refl, IsPermutation-cons, IsPermutation-sym, IsPermutation-trans, IsPermutation-middle, All-permutation, list_any-IsPermutation, sum_by-IsPermutation}
use Rattle.std.proofs.lemmas.List.Sums.{sum_by-cons}
use Rattle.std.proofs.lemmas.Slice.Eq.{bytes_eq-Decides}
use Rattle.tree_spec.proofs.ByteLists.{texts_differ, other_text}
use Rattle.json_spec.specs.PropertyOrder.{Pair, pairs_of}
use Rattle.json_spec.specs.Value.{Json, a_text, a_list, Items, Members, no_members, a_member}
use Rattle.import_map_spec.specs.Parsing.{member}
use Rattle.project_spec.specs.Laws.{FourMembers, four_pairs}
use Rattle.project_spec.specs.ProjectFiles.{HasParts}

-- ---- a member is taken out

record Without (members : Members) (name : List ℕ) (value : Json) : Type 0 where
  pub rest : Members
  pub moved : IsPermutation (pairs_of members) ((name, value) ∷ pairs_of rest)
  pub others : (other : List ℕ) → other ≢ name → member other rest ≡ member other members
  pub fewer : length (pairs_of members) ≡ suc (length (pairs_of rest))

here : (name key : List ℕ) (value found : Json) (more : Members) → key ≡ name → found ≡ value → Without (a_member key found more) name value
here name key value found more key_is found_is = record {
  rest = more;
  moved = subst (λ p. IsPermutation ((key, found) ∷ pairs_of more) (p ∷ pairs_of more)) (λ i. (key_is i, found_is i)) (IsPermutation-refl ((key, found) ∷ pairs_of more));
  others = λ other differ. sym (cond-false _ _ _ (other_text other key (λ e. differ (e ∙ key_is))));
  fewer = refl;
}

-- a member that both_members have first
both_members : (other key : List ℕ) (value : Json) (some more : Members) → member other some ≡ member other more → member other (a_member key value some) ≡ member other (a_member key value more)
both_members other key value some more e =
    ⊎_elim (λ yes. cond-true _ _ _ yes ∙ sym (cond-true _ _ _ yes)) (λ no. cond-false _ _ _ no ∙ (e ∙ sym (cond-false _ _ _ no)))
    (cases_Bool (bytes_eq other key))

later : (name key : List ℕ) (value found : Json) (more : Members) → Without more name value → Without (a_member key found more) name value
later name key value found more w =
    let first : Pair = (key, found) in
    let taken : Pair = (name, value) in
    record {
      rest = a_member key found w.rest;
      moved =
          IsPermutation-trans (first ∷ pairs_of more) (first ∷ taken ∷ pairs_of w.rest) (taken ∷ first ∷ pairs_of w.rest)
          (IsPermutation-cons first (pairs_of more) (taken ∷ pairs_of w.rest) w.moved)
          (IsPermutation-middle (first ∷ []) taken (pairs_of w.rest));
      others = λ other differ. both_members other key found w.rest more (w.others other differ);
      fewer = ap suc w.fewer;
    }

without : (members : Members) (name : List ℕ) (value : Json) → member name members ≡ Some value → Without members name value
without no_members name value e = absurd (cc)
without (a_member key found more) name value e =
    ⊎_elim
    (λ yes. let first = cond-true (bytes_eq name key) (Some found) (member name more) yes in here name key value found more (sym ((bytes_eq-Decides name key).0 yes)) (cc))
    (λ no. later name key value found more (without more name value (sym (cond-false (bytes_eq name key) (Some found) (member name more) no) ∙ e)))
    (cases_Bool (bytes_eq name key))

empty : (members : Members) → length (pairs_of members) ≡ 0 → pairs_of members ≡ []
empty no_members none = refl
empty (a_member key value more) none = absurd (omega arith)

-- ---- from the parts

behind : {members : Members} {name : List ℕ} {value : Json} {pairs : List Pair} (w : Without members name value) → IsPermutation (pairs_of w.rest) pairs → IsPermutation (pairs_of members) ((name, value) ∷ pairs)
behind {members} {name} {value} {pairs} w moved =
    IsPermutation-trans (pairs_of members) ((name, value) ∷ pairs_of w.rest) ((name, value) ∷ pairs) w.moved (IsPermutation-cons (name, value) (pairs_of w.rest) pairs moved)

to_four : (members : Members) (base page : List ℕ) (conditions entries : Items) → HasParts members base page conditions entries → IsPermutation (pairs_of members) (four_pairs base page conditions entries)
to_four members base page conditions entries parts =
    let first = without members (codes "base") (a_text base) parts.base_member in
    let second = without first.rest (codes "page") (a_text page) (first.others (codes "page") (texts_differ (codes "page") (codes "base") refl) ∙ parts.page_member) in
    let third = without second.rest (codes "conditions") (a_list conditions) (second.others (codes "conditions") (texts_differ (codes "conditions") (codes "page") refl) ∙ (first.others (codes "conditions") (texts_differ (codes "conditions") (codes "base") refl) ∙ parts.conditions_member)) in
    let fourth = without third.rest (codes "entries") (a_list entries) (third.others (codes "entries") (texts_differ (codes "entries") (codes "conditions") refl) ∙ (second.others (codes "entries") (texts_differ (codes "entries") (codes "page") refl) ∙ (first.others (codes "entries") (texts_differ (codes "entries") (codes "base") refl) ∙ parts.entries_member))) in
    let count = parts.four in
    let one = first.fewer in
    let two = second.fewer in
    let three = third.fewer in
    let four = fourth.fewer in
    let none : length (pairs_of fourth.rest) ≡ 0 = omega arith in
    let last = subst (λ pairs. IsPermutation (pairs_of third.rest) ((codes "entries", a_list entries) ∷ pairs)) (empty fourth.rest none) fourth.moved in
    behind first (behind second (behind third last))

-- ---- to the parts

ones : {X : Type 0} (xs : List X) → sum_by (λ (x : X). 1) xs ≡ length xs
ones [] = refl
ones (x ∷ xs) = let first = sum_by-cons (λ _. 1) x xs in let rest = ones xs in omega arith

as_many : {X : Type 0} (xs ys : List X) → IsPermutation xs ys → length xs ≡ length ys
as_many xs ys moved = sym (ones xs) ∙ (sym (sum_by-IsPermutation (λ x. 1) xs ys moved) ∙ ones ys)

abbrev Means : List ℕ → Json → Pair → Type 0
Means name value pair = name ≡ pair.0 → pair.1 ≡ value

found_in : (name : List ℕ) (value : Json) (members : Members) → list_any (λ (pair : Pair). bytes_eq name pair.0) (pairs_of members) ≡ true → All (Means name value) (pairs_of members) → member name members ≡ Some value
found_in name value no_members some all = absurd (true≢false (sym some))
found_in name value (a_member key found more) some all =
    ⊎_elim
    (λ yes. cond-true _ _ _ yes ∙ ap Some (All-head (Means name value) (key, found) (pairs_of more) all ((bytes_eq-Decides name key).0 yes)))
    (λ no. cond-false _ _ _ no ∙ found_in name value more (ap (λ t. t || list_any (λ (pair : Pair). bytes_eq name pair.0) (pairs_of more)) (sym no) ∙ some) (All-tail (Means name value) (key, found) (pairs_of more) all))
    (cases_Bool (bytes_eq name key))

module _ (members : Members) (base page : List ℕ) (conditions entries : Items) (moved : IsPermutation (pairs_of members) (four_pairs base page conditions entries)) where
  abbrev written : List Pair
  written = four_pairs base page conditions entries

  of_four : (name : List ℕ) (value : Json) → list_any (λ (pair : Pair). bytes_eq name pair.0) written ≡ true → Means name value (codes "base", a_text base) → Means name value (codes "page", a_text page) → Means name value (codes "conditions", a_list conditions) → Means name value (codes "entries", a_list entries) → member name members ≡ Some value
  of_four name value some b p c e =
      let last : List Pair = (codes "entries", a_list entries) ∷ [] in
      let later : List Pair = (codes "conditions", a_list conditions) ∷ last in
      let more : List Pair = (codes "page", a_text page) ∷ later in
      let all_last = All-cons (Means name value) (codes "entries", a_list entries) [] e (All-nil (Means name value)) in
      let all_later = All-cons (Means name value) (codes "conditions", a_list conditions) last c all_last in
      let all = All-cons (Means name value) (codes "base", a_text base) more b (All-cons (Means name value) (codes "page", a_text page) later p all_later) in
      found_in name value members (list_any-IsPermutation (λ (pair : Pair). bytes_eq name pair.0) (pairs_of members) written moved ∙ some)
      (All-permutation (Means name value) written (pairs_of members) (IsPermutation-sym (pairs_of members) written moved) all)

  from_four : HasParts members base page conditions entries
  from_four = record {
    four = as_many (pairs_of members) written moved;
    base_member =
        of_four (codes "base") (a_text base) refl (λ e. refl) (λ e. absurd (texts_differ (codes "base") (codes "page") refl e))
        (λ e. absurd (texts_differ (codes "base") (codes "conditions") refl e)) (λ e. absurd (texts_differ (codes "base") (codes "entries") refl e));
    page_member =
        of_four (codes "page") (a_text page) refl (λ e. absurd (texts_differ (codes "page") (codes "base") refl e)) (λ e. refl)
        (λ e. absurd (texts_differ (codes "page") (codes "conditions") refl e)) (λ e. absurd (texts_differ (codes "page") (codes "entries") refl e));
    conditions_member =
        of_four (codes "conditions") (a_list conditions) refl (λ e. absurd (texts_differ (codes "conditions") (codes "base") refl e))
        (λ e. absurd (texts_differ (codes "conditions") (codes "page") refl e)) (λ e. refl) (λ e. absurd (texts_differ (codes "conditions") (codes "entries") refl e));
    entries_member =
        of_four (codes "entries") (a_list entries) refl (λ e. absurd (texts_differ (codes "entries") (codes "base") refl e))
        (λ e. absurd (texts_differ (codes "entries") (codes "page") refl e)) (λ e. absurd (texts_differ (codes "entries") (codes "conditions") refl e)) (λ e. refl);
  }

pub four_members : FourMembers
four_members members base page conditions entries =
    (to_four members base page conditions entries, from_four members base page conditions entries)
