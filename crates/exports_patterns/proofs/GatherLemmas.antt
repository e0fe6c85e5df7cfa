-- One more key is gathered, one more group is made, and what is gathered in the end is the index.
use Rattle.std.proofs.Common.{◌≡◌, ◌≢◌, ◌<◌, ◌++◌, ◌∷◌, ℕ, zero, suc, false, List, [], length, Option, Some, None, refl, sym, ap, ◌∙◌, subst, arith}
use Rattle.std.specs.Prelude.{Result, Ok, Err, OnOk, reverse, slice_get, slice_index_or, unwrap_or, bytes_eq, IsUtf8}
use Rattle.std.specs.Ordering.{nat_cmp}
use Rattle.std.specs.Cmp.Lexicographic.{slice_cmp, nat_list_cmp_total}
use Rattle.std.specs.FinMap.{slice_cmp-IsAntisymmetric, nat_cmp-IsAntisymmetric}
use Rattle.std.specs.BTreeMap.{IsOrdered, Updates, is_at}
use Rattle.std.specs.Map.{lookup}
use Rattle.std.specs.List.{Contains}
use Rattle.std.specs.List.Sorted.{IsPermutation}
use Rattle.std.proofs.lemmas.Bool.{cases_Bool}
use Rattle.std.proofs.lemmas.List.{reverse-reverse}
use Rattle.std.proofs.lemmas.List.Elements.{Contains-append_left, Contains-push, Contains-push_cases}
use Rattle.std.proofs.lemmas.List.Sorted.{Contains-permutation, IsPermutation-sym}
use Rattle.std.proofs.lemmas.Map.Views.{btree_map_get_iff, tells_apart}
use Rattle.std.proofs.lemmas.Slice.Eq.{bytes_eq-Decides}
use mathlib.Core.Logic.{inl, inr, ◌⊎◌, ◌↔◌}
use Rattle.node_spec.specs.PatternKeys.{HasNoStar}
use Rattle.node_spec.proofs.PatternParts.{same_parts, no_star_inside}
use Rattle.exports_patterns.specs.Indexes.{Group, IsPart, IsIndexOf}
use Rattle.exports_patterns.specs.Gathering.{Groups, group_at, IsGathered, PutsPattern, HasGrouped}

nothing_in : {X : Type 0} (x : X) → Contains [] x → ⊥
nothing_in x c = (let l = c.1 in absurd (omega arith))

-- ---- one more name

get_before : (xs ys : List (List ℕ)) (i : ℕ) (x : List ℕ) → slice_get xs i ≡ Some x → slice_get (xs ++ ys) i ≡ Some x
get_before [] ys i x e = cc
get_before (y ∷ xs) ys zero x e = e
get_before (y ∷ xs) ys (suc i) x e = get_before xs ys i x e

get_pushed : (xs : List (List ℕ)) (x : List ℕ) (i : ℕ) → length xs ≡ i → slice_get (xs ++ x ∷ []) i ≡ Some x
get_pushed [] x i e = subst (λ n. slice_get (x ∷ []) n ≡ Some x) e refl
get_pushed (y ∷ xs) x zero e = absurd (omega arith)
get_pushed (y ∷ xs) x (suc i) e = get_pushed xs x i (omega arith)

got_pushed : (xs : List (List ℕ)) (x : List ℕ) (i : ℕ) (y : List ℕ) → slice_get (xs ++ x ∷ []) i ≡ Some y → (slice_get xs i ≡ Some y) ⊎ ((length xs ≡ i) × (x ≡ y))
got_pushed [] x zero y e = inr (refl, cc)
got_pushed [] x (suc i) y e = absurd (cc)
got_pushed (z ∷ xs) x zero y e = inl e
got_pushed (z ∷ xs) x (suc i) y e = elim (got_pushed xs x i y e) [ inl before ↦ inl before | inr here ↦ inr (ap suc here.0, here.1) ]

kept_part : (done : List (List ℕ)) (name base back : List ℕ) (place : ℕ) → IsPart done base back place → IsPart (done ++ name ∷ []) base back place
kept_part done name base back place p = record {
  stands = get_before done (name ∷ []) place _ p.stands;
  before_star = p.before_star;
  after_star = p.after_star;
  is_base = p.is_base;
  is_trailer = p.is_trailer;
}

pub nothing_gathered : (names : List (List ℕ)) (exact : List (List ℕ × ℕ)) (groups : Groups) → names ≡ [] → exact ≡ [] → groups.entries ≡ [] → IsGathered names exact groups
nothing_gathered names exact groups n e g = record {
  key_stands = λ key place c. absurd (nothing_in _ (subst (λ xs. Contains xs (key, place)) e c));
  key_has_no_star = λ key place c. absurd (nothing_in _ (subst (λ xs. Contains xs (key, place)) e c));
  key_listed = λ key place s. absurd (no_name names place key n s);
  pattern_stands = λ base group back place s. absurd (no_group groups base group g s);
  pattern_listed = λ base back place s. absurd (no_name names place _ n s);
}
  where
    no_name : (xs : List (List ℕ)) (i : ℕ) (x : List ℕ) → xs ≡ [] → slice_get xs i ≡ Some x → ⊥
    no_name [] i x e s = cc
    no_name (y ∷ xs) i x e s = cc

    no_group : (m : Groups) (base : List ℕ) (group : Group) → m.entries ≡ [] → group_at m base ≡ Some group → ⊥
    no_group m base group e s = (let none : group_at m base ≡ None = ap (λ es. lookup (is_at (slice_cmp nat_cmp base)) es) e in cc)

module _ (done : List (List ℕ)) (name : List ℕ) (exact : List (List ℕ × ℕ)) (groups : Groups) (index : ℕ) (at : length done ≡ index) (held : IsGathered done exact groups) where
  abbrev more : List (List ℕ)
  more = done ++ name ∷ []

  key_kept : (key : List ℕ) (place : ℕ) → Contains exact (key, place) → slice_get more place ≡ Some key
  key_kept key place c = get_before done (name ∷ []) place key (held.key_stands key place c)

  -- no key, as its name has a star
  key_as_before : (HasNoStar name → ⊥) → (key : List ℕ) (place : ℕ) → slice_get more place ≡ Some key → HasNoStar key → Contains exact (key, place)
  key_as_before starred key place s n =
      elim (got_pushed done name place key s) [
        | inl before ↦ held.key_listed key place before n
        | inr here ↦ absurd (starred (subst HasNoStar (sym here.1) n))
      ]

  pub key_gathered : (after : List (List ℕ × ℕ)) → after ≡ exact ++ (name, index) ∷ [] → HasNoStar name → IsGathered more after groups
  key_gathered after is no_star = record {
    key_stands = λ key place c.
        elim (Contains-push_cases exact (name, index) (key, place) (subst (λ xs. Contains xs (key, place)) is c)) [
          | inl before ↦ key_kept key place before
          | inr here ↦ (let one : name ≡ key = ap (λ (e : List ℕ × ℕ). e.0) here in let two : index ≡ place = ap (λ (e : List ℕ × ℕ). e.1) here in get_pushed done name place (at ∙ two) ∙ ap Some one)
        ];
    key_has_no_star = λ key place c.
        elim (Contains-push_cases exact (name, index) (key, place) (subst (λ xs. Contains xs (key, place)) is c)) [
          | inl before ↦ held.key_has_no_star key place before
          | inr here ↦ subst HasNoStar (ap (λ (e : List ℕ × ℕ). e.0) here) no_star
        ];
    key_listed = λ key place s n.
        subst (λ xs. Contains xs (key, place)) (sym is)
        (elim (got_pushed done name place key s) [
          | inl before ↦ Contains-append_left exact ((name, index) ∷ []) (key, place) (held.key_listed key place before n)
          | inr here ↦ (let two : index ≡ place = sym at ∙ here.0 in subst (λ (e : List ℕ × ℕ). Contains (exact ++ (name, index) ∷ []) e) (λ i. (here.1 i, two i)) (Contains-push exact (name, index)))
        ]);
    pattern_stands = λ base group back place s c. kept_part done name base back place (held.pattern_stands base group back place s c);
    pattern_listed = λ base back place s n m.
        elim (got_pushed done name place (base ++ 42 ∷ reverse back) s) [
          | inl before ↦ held.pattern_listed base back place before n m
          | inr here ↦ absurd (no_star_inside base (reverse back) (subst HasNoStar here.1 no_star))
        ];
  }

  -- a name with more than one star
  pub none_gathered : (base trailer part end : List ℕ) → name ≡ base ++ 42 ∷ trailer → HasNoStar base → trailer ≡ part ++ 42 ∷ end → IsGathered more exact groups
  none_gathered base trailer part end is no_star again = record {
    key_stands = key_kept;
    key_has_no_star = held.key_has_no_star;
    key_listed = key_as_before (λ n. no_star_inside base trailer (subst HasNoStar is n));
    pattern_stands = λ other group back place s c. kept_part done name other back place (held.pattern_stands other group back place s c);
    pattern_listed = λ other back place s n m.
        elim (got_pushed done name place (other ++ 42 ∷ reverse back) s) [
          | inl before ↦ held.pattern_listed other back place before n m
          | inr here ↦ (let same = same_parts other (reverse back) base trailer (sym here.1 ∙ is) n no_star in absurd (no_star_inside part end (subst HasNoStar (same.1 ∙ again) m)))
        ];
  }

  module _ (base trailer : List ℕ) (after : Groups) (is : name ≡ base ++ 42 ∷ trailer) (no_star : HasNoStar base) (none_after : HasNoStar trailer) (is_base : IsUtf8 base) (is_trailer : IsUtf8 trailer) (puts : PutsPattern base (reverse trailer, index) groups after) where
    abbrev was : Group
    was = unwrap_or (group_at groups base) []

    was_there : (group : Group) → group_at groups base ≡ Some group → was ≡ group
    was_there group s = ap (λ (o : Option Group). unwrap_or o []) s

    here_part : (place : ℕ) (back : List ℕ) → ◌≡◌ {A = List ℕ × ℕ} (reverse trailer, index) (back, place) → IsPart more base back place
    here_part place back e =
        let turned : reverse trailer ≡ back = ap (λ (x : List ℕ × ℕ). x.0) e in
        let same : reverse back ≡ trailer = ap reverse (sym turned) ∙ reverse-reverse trailer in
        let two : index ≡ place = ap (λ (x : List ℕ × ℕ). x.1) e in
        record {
          stands = get_pushed done name place (at ∙ two) ∙ ap Some (is ∙ ap (λ t. base ++ 42 ∷ t) (sym same));
          before_star = no_star;
          after_star = subst HasNoStar (sym same) none_after;
          is_base = is_base;
          is_trailer = subst IsUtf8 (sym same) is_trailer;
        }

    stood_there : (back : List ℕ) (place : ℕ) (o : Option Group) → group_at groups base ≡ o → Contains (unwrap_or o []) (back, place) → IsPart done base back place
    stood_there back place None e c = absurd (nothing_in _ c)
    stood_there back place (Some group) e c = held.pattern_stands base group back place e c

    stands_in_base : (group : Group) (back : List ℕ) (place : ℕ) → group_at after base ≡ Some group → Contains group (back, place) → IsPart more base back place
    stands_in_base group back place s c =
        let same : was ++ (reverse trailer, index) ∷ [] ≡ group = (let e : Some (was ++ (reverse trailer, index) ∷ []) ≡ Some group = sym puts.here ∙ s in cc) in
        elim (Contains-push_cases was (reverse trailer, index) (back, place) (subst (λ g. Contains g (back, place)) (sym same) c)) [
          | inl before ↦ kept_part done name base back place (stood_there back place (group_at groups base) refl before)
          | inr here ↦ here_part place back here
        ]

    pub pattern_gathered : IsGathered more exact after
    pattern_gathered = record {
      key_stands = key_kept;
      key_has_no_star = held.key_has_no_star;
      key_listed = key_as_before (λ n. no_star_inside base trailer (subst HasNoStar is n));
      pattern_stands = λ other group back place s c.
          elim (cases_Bool (bytes_eq other base)) [
            | inl same ↦ (let e : other ≡ base = (bytes_eq-Decides other base).0 same in
                subst (λ b. IsPart more b back place) (sym e) (stands_in_base group back place (subst (λ b. group_at after b ≡ Some group) e s) c))
            | inr apart ↦ kept_part done name other back place (held.pattern_stands other group back place (sym (puts.others other (distinct other apart)) ∙ s) c)
          ];
      pattern_listed = λ other back place s n m.
          elim (got_pushed done name place (other ++ 42 ∷ reverse back) s) [
            | inl before ↦ listed_before other back place (held.pattern_listed other back place before n m)
            | inr here ↦ (let same = same_parts other (reverse back) base trailer (sym here.1 ∙ is) n no_star in
                let turned : reverse trailer ≡ back = ap reverse (sym same.1) ∙ reverse-reverse back in
                let two : index ≡ place = sym at ∙ here.0 in (
                  was ++ (reverse trailer, index) ∷ [],
                  ap (group_at after) same.0 ∙ puts.here,
                  subst (λ (e : List ℕ × ℕ). Contains (was ++ (reverse trailer, index) ∷ []) e) (λ i. (turned i, two i)) (Contains-push was (reverse trailer, index)),
                ))
          ];
    }
      where
        distinct : (other : List ℕ) → bytes_eq other base ≡ false → other ≢ base
        distinct other apart e = let t = (bytes_eq-Decides other base).1 e in cc

        listed_before : (other back : List ℕ) (place : ℕ) → ((group : Group) × (group_at groups other ≡ Some group) × Contains group (back, place)) → (group : Group) × (group_at after other ≡ Some group) × Contains group (back, place)
        listed_before other back place g =
            elim (cases_Bool (bytes_eq other base)) [
              | inl same ↦ (let e : other ≡ base = (bytes_eq-Decides other base).0 same in
                  let there : was ≡ g.0 = was_there g.0 (ap (group_at groups) (sym e) ∙ g.1) in (
                    was ++ (reverse trailer, index) ∷ [],
                    ap (group_at after) e ∙ puts.here,
                    Contains-append_left was ((reverse trailer, index) ∷ []) (back, place) (subst (λ (h : Group). Contains h (back, place)) (sym there) g.2),
                  ))
              | inr apart ↦ (g.0, puts.others other (distinct other apart) ∙ g.1, g.2)
            ]

-- ---- one more pattern among the groups

is_apart : (base other : List ℕ) → other ≢ base → is_at (slice_cmp nat_cmp base) other ≡ false
is_apart base other apart =
    elim (cases_Bool (is_at (slice_cmp nat_cmp base) other)) [
      | inl same ↦ absurd (apart (sym (tells_apart (slice_cmp-IsAntisymmetric nat_cmp-IsAntisymmetric) base other same)))
      | inr f ↦ f
    ]

pub puts_there : (groups after : Groups) (base : List ℕ) (entry : List ℕ × ℕ) (before now : Group) → Some before ≡ group_at groups base → now ≡ before ++ entry ∷ [] → Updates (slice_cmp nat_cmp) groups after base (Some now) → PutsPattern base entry groups after
puts_there groups after base entry before now there is put = record {
  here = put.1 ∙ ap Some (is ∙ ap (λ (o : Option Group). unwrap_or o [] ++ entry ∷ []) there);
  others = λ other apart. put.2 other (is_apart base other apart);
}

pub puts_new : (groups after : Groups) (base : List ℕ) (entry : List ℕ × ℕ) (now : Group) → None ≡ group_at groups base → now ≡ entry ∷ [] → Updates (slice_cmp nat_cmp) groups after base (Some now) → PutsPattern base entry groups after
puts_new groups after base entry now absent is put = record {
  here = put.1 ∙ ap Some (is ∙ ap (λ (o : Option Group). unwrap_or o [] ++ entry ∷ []) absent);
  others = λ other apart. put.2 other (is_apart base other apart);
}

pub then_done : {X E A B : Type 0} (result : Result X E) → OnOk result A → (A → B) → OnOk result B
then_done (Ok x) a f = f a
then_done (Err e) a f = a

-- ---- groups in order

pub all_left : (gathered made : List (List ℕ × Group)) → made ≡ [] → HasGrouped gathered gathered made
all_left gathered made e = record {
  within = λ base group c. c;
  stands = λ base group c. absurd (nothing_in _ (subst (λ xs. Contains xs (base, group)) e c));
  listed = λ base before c. inl c;
}

pub next_grouped : (gathered left rest made after : List (List ℕ × Group)) (base : List ℕ) (before group : Group) → left ≡ (base, before) ∷ rest → after ≡ made ++ (base, group) ∷ [] → IsPermutation before group → HasGrouped gathered left made → HasGrouped gathered rest after
next_grouped gathered left rest made after base before group next is moved held = record {
  within = λ other g c. held.within other g (subst (λ xs. Contains xs (other, g)) (sym next) (Contains-behind other g c));
  stands = λ other g c.
      elim (Contains-push_cases made (base, group) (other, g) (subst (λ xs. Contains xs (other, g)) is c)) [
        | inl there ↦ held.stands other g there
        | inr here ↦ (let one : base ≡ other = ap (λ (e : List ℕ × Group). e.0) here in let two : group ≡ g = ap (λ (e : List ℕ × Group). e.1) here in
            (before, subst (λ b. Contains gathered (b, before)) one first_stands, subst (IsPermutation before) two moved))
      ];
  listed = λ other g c.
      elim (held.listed other g c) [
        | inl still ↦ elim (head_or_behind other g (subst (λ xs. Contains xs (other, g)) next still)) [
          | inl here ↦ (let one : base ≡ other = ap (λ (e : List ℕ × Group). e.0) here in let two : before ≡ g = ap (λ (e : List ℕ × Group). e.1) here in
              inr (group, subst (λ xs. Contains xs (other, group)) (sym is) (subst (λ b. Contains (made ++ (base, group) ∷ []) (b, group)) one (Contains-push made (base, group))), subst (λ h. IsPermutation h group) two moved))
          | inr later ↦ inl later
        ]
        | inr done ↦ inr (done.0, subst (λ xs. Contains xs (other, done.0)) (sym is) (Contains-append_left made ((base, group) ∷ []) (other, done.0) done.1), done.2)
      ];
}
  where
    Contains-behind : (other : List ℕ) (g : Group) → Contains rest (other, g) → Contains ((base, before) ∷ rest) (other, g)
    Contains-behind other g c = (suc c.0, (let l = c.1 in omega arith), c.2)

    first_stands : Contains gathered (base, before)
    first_stands = held.within base before (subst (λ xs. Contains xs (base, before)) (sym next) (0, omega arith, refl))

    by_place : (other : List ℕ) (g : Group) (k : ℕ) → k < length ((base, before) ∷ rest) → slice_index_or ((base, before) ∷ rest) k (other, g) ≡ (other, g) → (◌≡◌ {A = List ℕ × Group} (base, before) (other, g)) ⊎ Contains rest (other, g)
    by_place other g zero l e = inl e
    by_place other g (suc k) l e = inr (k, omega arith, e)

    head_or_behind : (other : List ℕ) (g : Group) → Contains ((base, before) ∷ rest) (other, g) → (◌≡◌ {A = List ℕ × Group} (base, before) (other, g)) ⊎ Contains rest (other, g)
    head_or_behind other g c = by_place other g c.0 c.1 c.2

-- ---- the index

pub index_from : (names : List (List ℕ)) (exact in_order : List (List ℕ × ℕ)) (groups : Groups) (made patterns : List (List ℕ × Group)) → IsOrdered (slice_cmp nat_cmp) groups → IsGathered names exact groups → HasGrouped groups.entries [] made → IsPermutation exact in_order → IsPermutation made patterns → IsIndexOf names in_order patterns
index_from names exact in_order groups made patterns ordered held grouped keys_moved moved = record {
  key_stands = λ key place c. held.key_stands key place (Contains-permutation in_order exact (key, place) (IsPermutation-sym exact in_order keys_moved) c);
  key_has_no_star = λ key place c. held.key_has_no_star key place (Contains-permutation in_order exact (key, place) (IsPermutation-sym exact in_order keys_moved) c);
  key_listed = λ key place s n. Contains-permutation exact in_order (key, place) keys_moved (held.key_listed key place s n);
  pattern_stands = λ base group back place c d.
      let was = came base group c in
      held.pattern_stands base was.0 back place was.1 (Contains-permutation group was.0 (back, place) (IsPermutation-sym was.0 group was.2) d);
  group_listed = λ base back place s n m.
      let was = held.pattern_listed base back place s n m in
      elim (grouped.listed base was.0 ((at_base base was.0).0 was.1)) [
        | inl none ↦ absurd (nothing_in _ none)
        | inr there ↦ (there.0, Contains-permutation made patterns (base, there.0) moved there.1)
      ];
  pattern_listed = λ base back place group s n m c.
      let was = held.pattern_listed base back place s n m in
      let from = came base group c in
      let same : was.0 ≡ from.0 = (let e : Some was.0 ≡ Some from.0 = sym was.1 ∙ from.1 in cc) in
      Contains-permutation from.0 group (back, place) from.2 (subst (λ (g : Group). Contains g (back, place)) same was.2);
}
  where
    at_base : (base : List ℕ) (group : Group) → (group_at groups base ≡ Some group) ↔ Contains groups.entries (base, group)
    at_base = btree_map_get_iff nat_list_cmp_total (slice_cmp-IsAntisymmetric nat_cmp-IsAntisymmetric) groups ordered

    came : (base : List ℕ) (group : Group) → Contains patterns (base, group) → (before : Group) × (group_at groups base ≡ Some before) × IsPermutation before group
    came base group c =
        let was = grouped.stands base group (Contains-permutation patterns made (base, group) (IsPermutation-sym made patterns moved) c) in
        (was.0, (at_base base was.0).1 was.1, was.2)
