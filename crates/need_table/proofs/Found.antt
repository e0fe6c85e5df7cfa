-- The need that is found where another asks alike.
use Rattle.std.proofs.Common.{◌≡◌, ℕ, zero, suc, Bool, true, false, List, [], ◌∷◌, ◌++◌, Some, Result, Ok, Err, Contains, refl, sym, ap, ◌∙◌, subst, ⊎_elim}
use Rattle.std.specs.Prelude.{◌≢◌, IfErr, IfOk, IsErrAnd, not, slice_get, take, bytes_eq}
use mathlib.Core.Logic.{inl, inr}
use Rattle.std.specs.List.{find, list_any, IsDistinct, AllByRecursion}
use Rattle.std.specs.Cmp.{first_so, second_so}
use Rattle.std.proofs.lemmas.Bool.{cases_Bool, cond-true, cond-false, and_parts, true≢false, and_from, or_cases}
use Rattle.std.proofs.lemmas.Bool.{or_left, or_right, or_from, false_from_ne_true}
use Rattle.std.proofs.lemmas.Slice.Eq.{bytes_eq-Decides}
use Rattle.layout_spec.specs.declared.Need.{Need}
use Rattle.layout_spec.specs.Needs.{is_need, clashes, NoClash}
use Rattle.layout_spec.proofs.Contained.{contains_here, contains_there, contains_cases, contains_none, contains_at}
use Rattle.layout_spec.proofs.CountedNeeds.{need_itself}
use Rattle.need_table.specs.declared.needs.NeedFault.{NeedFault}
use Rattle.need_table.specs.declared.needs.NeedFault.TheVariants.{Clash, Memory}
use Rattle.need_table.specs.declared.needs.Added.{Added}
use Rattle.need_table.specs.declared.needs.Added.TheVariants.{New, Known}
use Rattle.need_table.specs.Rows.{asks_alike, IsFresh, IsKnown, ClashesAt, Adds}

pub find_passes : {X : Type 0} (test : X → Bool) (xs : List X) (x : X) → Some x ≡ find test xs → test x ≡ true
find_passes test [] x e = absurd (cc)
find_passes test (y ∷ ys) x e =
    ⊎_elim
    (λ passes. let same : x ≡ y = (let f = cond-true (test y) (Some y) (find test ys) passes in cc) in subst (λ z. test z ≡ true) (sym same) passes)
    (λ fails. find_passes test ys x (e ∙ cond-false (test y) (Some y) (find test ys) fails))
    (cases_Bool (test y))

pub same_need : (need other : Need) → asks_alike need other ≡ true → other.target ≡ need.target → other ≡ need
same_need need other alike target =
    let referrers : need.referrer ≡ other.referrer = (bytes_eq-Decides need.referrer other.referrer).0 (first_so _ _ alike) in
    let asked : need.asked ≡ other.asked = (bytes_eq-Decides need.asked other.asked).0 (second_so _ _ alike) in
    λ i. record { referrer = sym referrers i; asked = sym asked i; target = target i }

-- the need itself was found
known : (needs : List Need) (need other : Need) (first : ℕ) → slice_get needs first ≡ Some other → asks_alike need other ≡ true → other.target ≡ need.target → Contains needs need
known needs need other first stored alike target = subst (Contains needs) (same_need need other alike target) (contains_at needs first other stored)

-- ---- tests of lists

found_by : {A : Type 0} (test : A → Bool) (xs : List A) (x : A) → Contains xs x → test x ≡ true → list_any test xs ≡ true
found_by test [] x c e = absurd (contains_none x c)
found_by test (y ∷ xs) x c e =
    elim (contains_cases x y xs c) [
      | inl same ↦ or_left (test y) (list_any test xs) (subst (λ z. test z ≡ true) (sym same) e)
      | inr later ↦ or_right (test y) (list_any test xs) (found_by test xs x later e)
    ]

pub record Passes {A : Type 0} (test : A → Bool) (xs : List A) : Type 0 where
  pub item : A
  pub is_item : Contains xs item
  pub passes : test item ≡ true

passes_by : {A : Type 0} (test : A → Bool) (xs : List A) → list_any test xs ≡ true → Passes test xs
passes_by test [] e = absurd (cc)
passes_by test (y ∷ xs) e =
    elim (or_cases (test y) (list_any test xs) e) [
      | inl here ↦ record { item = y; is_item = contains_here y xs; passes = here }
      | inr later ↦ let rest = passes_by test xs later in record { item = rest.item; is_item = contains_there rest.item y xs rest.is_item; passes = rest.passes }
    ]

-- ---- needs that ask alike

alike_by : (need other : Need) → clashes need other ≡ true → asks_alike need other ≡ true
alike_by need other e =
    let parts = and_parts _ _ (and_parts _ _ e).0 in
    and_from _ _ ((bytes_eq-Decides need.referrer other.referrer).1 (sym ((bytes_eq-Decides _ _).0 parts.0))) ((bytes_eq-Decides need.asked other.asked).1 (sym ((bytes_eq-Decides _ _).0 parts.1)))

same_alike : (need other : Need) → is_need need other ≡ true → asks_alike need other ≡ true
same_alike need other e = (and_parts _ _ e).0

no_clash_itself : (need : Need) → clashes need need ≡ true → ⊥
no_clash_itself need e =
    let apart = (and_parts _ _ e).1 in
    let same = (bytes_eq-Decides need.target need.target).1 refl in
    true≢false (sym apart ∙ ap not same)

none_by : {A : Type 0} (one other : A → Bool) → ((x : A) → other x ≡ true → one x ≡ true) → (xs : List A) → list_any one xs ≡ false → list_any other xs ≡ false
none_by one other is xs none = false_from_ne_true (list_any other xs) (λ some. let found = passes_by other xs some in true≢false (sym (found_by one xs found.item found.is_item (is found.item found.passes)) ∙ none))

pub fresh : (needs after : List Need) (need : Need) → list_any (asks_alike need) needs ≡ false → after ≡ needs ++ need ∷ [] → IsFresh needs need after
fresh needs after need none e = record {
  none_alike = none;
  clear = none_by (asks_alike need) (clashes need) (alike_by need) needs none;
  is_new = e ∙ sym (cond-false _ needs (needs ++ need ∷ []) (none_by (asks_alike need) (is_need need) (same_alike need) needs none));
  at_end = e;
}

all_apart : (e : Need → Need → Bool) (x y : Need) (xs : List Need) → AllByRecursion (λ z. e x z ≡ false) xs → Contains xs y → e x y ≡ false
all_apart e x y [] all c = absurd (contains_none y c)
all_apart e x y (z ∷ xs) all c =
    elim (contains_cases y z xs c) [
      | inl same ↦ subst (λ w. e x w ≡ false) same all.0
      | inr later ↦ all_apart e x y xs all.1 later
    ]

alike_back : (one other : Need) → asks_alike one other ≡ true → asks_alike other one ≡ true
alike_back one other e =
    let parts = and_parts _ _ e in
    and_from _ _ ((bytes_eq-Decides other.referrer one.referrer).1 (sym ((bytes_eq-Decides _ _).0 parts.0))) ((bytes_eq-Decides other.asked one.asked).1 (sym ((bytes_eq-Decides _ _).0 parts.1)))

alike_through : (one middle other : Need) → asks_alike one middle ≡ true → asks_alike middle other ≡ true → asks_alike one other ≡ true
alike_through one middle other e f =
    let parts = and_parts _ _ e in
    let more = and_parts _ _ f in
    and_from _ _
    ((bytes_eq-Decides one.referrer other.referrer).1 ((bytes_eq-Decides _ _).0 parts.0 ∙ (bytes_eq-Decides _ _).0 more.0))
    ((bytes_eq-Decides one.asked other.asked).1 ((bytes_eq-Decides _ _).0 parts.1 ∙ (bytes_eq-Decides _ _).0 more.1))

-- of two needs of one row in a table there is one
one_row : (needs : List Need) → IsDistinct asks_alike needs → (one other : Need) → Contains needs one → Contains needs other → asks_alike one other ≡ true → one ≡ other
unfolding IsDistinct
one_row [] apart one other c d e = absurd (contains_none one c)
one_row (first ∷ needs) apart one other c d e =
    elim (contains_cases one first needs c) [
      | inl here ↦ elim (contains_cases other first needs d) [
        | inl here_too ↦ sym here ∙ here_too
        | inr later ↦ absurd (true≢false (sym (subst (λ n. asks_alike n other ≡ true) (sym here) e) ∙ all_apart asks_alike first other needs apart.0 later))
      ]
      | inr later ↦ elim (contains_cases other first needs d) [
        | inl here_too ↦ absurd (true≢false (sym (subst (λ n. asks_alike n one ≡ true) (sym here_too) (alike_back one other e)) ∙ all_apart asks_alike first one needs apart.0 later))
        | inr later_too ↦ one_row needs apart.1 one other later later_too e
      ]
    ]

pub no_clash : (needs : List Need) → IsDistinct asks_alike needs → NoClash needs
no_clash needs apart one other c d referrer asked =
    ap (λ (need : Need). need.target) (one_row needs apart one other c d (and_from _ _ ((bytes_eq-Decides one.referrer other.referrer).1 referrer) ((bytes_eq-Decides one.asked other.asked).1 asked)))

pub is_known : (needs : List Need) (need other : Need) (first : ℕ) → IsDistinct asks_alike needs → slice_get needs first ≡ Some other → asks_alike need other ≡ true → other.target ≡ need.target → IsKnown needs need
is_known needs need other first apart stored alike target =
    let stands = known needs need other first stored alike target in
    record {
      stands = stands;
      clear = false_from_ne_true (list_any (clashes need) needs) (λ some.
          let found = passes_by (clashes need) needs some in
          let same : need ≡ found.item = one_row needs apart need found.item stands found.is_item (alike_by need found.item found.passes) in
          no_clash_itself need (subst (λ n. clashes need n ≡ true) (sym same) found.passes));
      stays = cond-true _ needs (needs ++ need ∷ []) (found_by (is_need need) needs need stands (need_itself need));
    }

none_clashes_with : (needs : List Need) (need first other : Need) → AllByRecursion (λ z. asks_alike first z ≡ false) needs → Contains needs other → asks_alike need other ≡ true → clashes need first ≡ false
none_clashes_with needs need first other apart c alike =
    false_from_ne_true (clashes need first) (λ clash.
    let back = alike_back need first (alike_by need first clash) in
    true≢false (sym (alike_through first need other back alike) ∙ all_apart asks_alike first other needs apart c))

-- before the place of a need that asks alike none clashes
none_before : (needs : List Need) (need other : Need) (first : ℕ) → IsDistinct asks_alike needs → slice_get needs first ≡ Some other → asks_alike need other ≡ true → list_any (clashes need) (take first needs) ≡ false
unfolding IsDistinct
none_before needs need other zero apart stored alike = refl
none_before [] need other (suc first) apart stored alike = refl
none_before (one ∷ needs) need other (suc first) apart stored alike =
    or_from (clashes need one) (list_any (clashes need) (take first needs))
    (none_clashes_with needs need one other apart.0 (contains_at needs first other stored) alike)
    (none_before needs need other first apart.1 stored alike)

pub clashes_at : (needs : List Need) (need other : Need) (first : ℕ) → IsDistinct asks_alike needs → slice_get needs first ≡ Some other → asks_alike need other ≡ true → other.target ≢ need.target → ClashesAt needs need first
clashes_at needs need other first rows stored alike apart =
    let parts = and_parts _ _ alike in
    let clash : clashes need other ≡ true =
    and_from _ _ (and_from _ _ ((bytes_eq-Decides other.referrer need.referrer).1 (sym ((bytes_eq-Decides _ _).0 parts.0))) ((bytes_eq-Decides other.asked need.asked).1 (sym ((bytes_eq-Decides _ _).0 parts.1))))
    (ap not (false_from_ne_true (bytes_eq other.target need.target) (λ same. apart ((bytes_eq-Decides _ _).0 same)))) in
    record { other = other; stands = stored; alike = alike; apart = apart; clash = clash; found = found_by (clashes need) needs other (contains_at needs first other stored) clash; none_before = none_before needs need other first rows stored alike }

pub clash_by : (needs : List Need) (need other : Need) (first : ℕ) (result : Result Added NeedFault) → IsDistinct asks_alike needs → slice_get needs first ≡ Some other → asks_alike need other ≡ true → IfErr result (λ fault. (fault ≡ Clash first) × (other.target ≢ need.target)) → IfErr result (λ fault. (place : ℕ) → fault ≡ Clash place → ClashesAt needs need place)
clash_by needs need other first (Ok added) rows stored alike is = tt
clash_by needs need other first (Err fault) rows stored alike is = λ place e.
    let same : first ≡ place = (let f = is.0 in cc) in
    subst (ClashesAt needs need) same (clashes_at needs need other first rows stored alike is.1)

-- a need that is judged is known
pub not_new : (result : Result Added NeedFault) (P : Type 0) → IfOk result (λ added. (added ≡ Known) × P) → result ≡ Ok New → ⊥
not_new (Ok added) P is e = absurd (let f = is.0 in cc)
not_new (Err fault) P is e = absurd (cc)

pub known_alike : (result : Result Added NeedFault) (P : Type 0) → IfOk result (λ added. (added ≡ Known) × P) → result ≡ Ok Known → P
known_alike (Ok added) P is e = is.1
known_alike (Err fault) P is e = absurd (cc)

-- a fault of a need that is there isn't want of memory
pub not_lost : (result : Result Added NeedFault) (first : ℕ) (P : Type 0) → IfErr result (λ fault. (fault ≡ Clash first) × P) → result ≡ Err Memory → ⊥
not_lost (Ok added) first P is e = absurd (cc)
not_lost (Err fault) first P is e = absurd (let f = is.0 in cc)

-- with memory wanting, the table is as it was
pub no_memory : (needs after : List Need) (need : Need) (result : Result Added NeedFault) → list_any (asks_alike need) needs ≡ false → IsErrAnd result (λ fault. fault ≡ Memory) → after ≡ needs → Adds needs need after result
no_memory needs after need (Ok added) none is same = absurd is
no_memory needs after need (Err fault) none is same = record {
  lost = λ _. none;
  new = λ e. absurd (cc);
  known = λ e. absurd (cc);
  clash = λ first e. absurd (let f = sym is ∙ e in cc);
  same = λ _. same;
}
