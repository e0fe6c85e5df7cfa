-- What a place costs, and which target is best for it.
use Rattle.std.proofs.Common.{refl, sym, ap, ◌∙◌, subst, arith}
use Rattle.std.proofs.lemmas.Bool.{cases_Bool, cond-true, cond-false, and_parts, and_from, or_cases, or_left, or_right, true≢false, leb-true, leb-false, le-leb, not_from_false}
use Rattle.std.proofs.lemmas.Slice.Eq.{bytes_eq-Decides}
use Rattle.std.specs.List.{list_all, find}
use Rattle.std.specs.Prelude.{◌≡◌, ◌⊎◌, ℕ, ◌≤◌, ◌+◌, Bool, true, false, not, cond, leb, List, [], ◌∷◌, unwrap_or, Contains, bytes_eq}
use mathlib.Core.Logic.{inl, inr}
use Rattle.layout_spec.proofs.Contained.{contains_here, contains_there, contains_cases, contains_none}
use Rattle.layout_spec.specs.Places.{place_above}
use Rattle.fewest_spec.specs.Choosing.{Wish, Weights, is_best, is_beaten, penalty, reduced, first_best, is_above_at}
use Rattle.fewest_spec.specs.Fewest.{Before}
use Rattle.fewest_spec.specs.Wishes.{Ascending}

-- ---- lists

module _ {A : Type 0} (test : A → Bool) where
  pub all_at : (xs : List A) (x : A) → list_all test xs ≡ true → Contains xs x → test x ≡ true
  all_at [] x e c = absurd (contains_none x c)
  all_at (first ∷ xs) x e c =
      let parts = and_parts _ _ e in
      elim (contains_cases x first xs c) [
        | inl same ↦ subst (λ y. test y ≡ true) same parts.0
        | inr later ↦ all_at xs x parts.1 later
      ]

  pub all_from : (xs : List A) → ((x : A) → Contains xs x → test x ≡ true) → list_all test xs ≡ true
  all_from [] f = refl
  all_from (first ∷ xs) f = and_from _ _ (f first (contains_here first xs)) (all_from xs (λ x c. f x (contains_there x first xs c)))

  pub record Passing (xs : List A) : Type 0 where
    pub item : A
    pub is_item : Contains xs item
    pub passes : test item ≡ true

  -- of those that pass one is least
  module _ (size : A → ℕ) where
    pub record IsLeast (xs : List A) (item : A) : Type 0 where
      pub is_item : Contains xs item
      pub passes : test item ≡ true
      pub least : (x : A) → Contains xs x → test x ≡ true → size item ≤ size x

    abbrev pub Least : List A → Type 0
    Least xs = (item : A) × IsLeast xs item

    pub least_among : (xs : List A) → ((x : A) → Contains xs x → test x ≡ false) ⊎ Least xs
    least_among [] = inl (λ x c. absurd (contains_none x c))
    least_among (first ∷ xs) = by (cases_Bool (test first)) (least_among xs)
      where
        nearer : (item : A) → IsLeast xs item → (test first ≡ true → size item ≤ size first) → Least (first ∷ xs)
        nearer item l below = (
          item,
          record {
            is_item = contains_there item first xs l.is_item;
            passes = l.passes;
            least = λ x c t. elim (contains_cases x first xs c) [
              | inl same ↦ subst (λ y. size item ≤ size y) same (below (subst (λ y. test y ≡ true) (sym same) t))
              | inr later ↦ l.least x later t
            ];
          },
        )

        here : test first ≡ true → ((x : A) → Contains xs x → test x ≡ true → size first ≤ size x) → Least (first ∷ xs)
        here t below = (
          first,
          record {
            is_item = contains_here first xs;
            passes = t;
            least = λ x c u. elim (contains_cases x first xs c) [
              | inl same ↦ subst (λ y. size first ≤ size y) same (omega arith)
              | inr later ↦ below x later u
            ];
          },
        )

        by : (test first ≡ true) ⊎ (test first ≡ false) → ((x : A) → Contains xs x → test x ≡ false) ⊎ Least xs → ((x : A) → Contains (first ∷ xs) x → test x ≡ false) ⊎ Least (first ∷ xs)
        by (inr f) (inl none) = inl (λ x c. elim (contains_cases x first xs c) [
          | inl same ↦ subst (λ y. test y ≡ false) same f
          | inr later ↦ none x later
        ])
        by (inr f) (inr l) = inr (nearer l.0 l.1 (λ t. absurd (true≢false (sym t ∙ f))))
        by (inl t) (inl none) = inr (here t (λ x c u. absurd (true≢false (sym u ∙ none x c))))
        by (inl t) (inr l) = elim (cases_Bool (leb (size first) (size l.0))) [
          | inl under ↦ inr (here t (λ x c u. let a = leb-true _ _ under in let b = l.1.least x c u in omega arith))
          | inr over ↦ inr (nearer l.0 l.1 (λ _. let a = leb-false _ _ over in omega arith))
        ]

pub cases_among : (texts : List (List ℕ)) (x : List ℕ) → Contains texts x ⊎ (Contains texts x → ⊥)
cases_among [] x = inr (λ c. contains_none x c)
cases_among (first ∷ texts) x =
    elim (cases_Bool (bytes_eq first x)) [
      | inl t ↦ inl (subst (Contains (first ∷ texts)) ((bytes_eq-Decides first x).0 t) (contains_here first texts))
      | inr f ↦ elim (cases_among texts x) [
        | inl c ↦ inl (contains_there x first texts c)
        | inr n ↦ inr (λ c. elim (contains_cases x first texts c) [
          | inl same ↦ true≢false (sym ((bytes_eq-Decides first x).1 same) ∙ f)
          | inr later ↦ n later
        ])
      ]
    ]

-- the first of the texts that pass
pub record IsFirstPassing (test : List ℕ → Bool) (texts : List (List ℕ)) (found : List ℕ) : Type 0 where
  pub is_item : Contains texts found
  pub passes : test found ≡ true
  pub first : (other : List ℕ) → Contains texts other → test other ≡ true → (found ≡ other) ⊎ Before found other

pub find_first : (test : List ℕ → Bool) (texts : List (List ℕ)) (d other : List ℕ) → Ascending texts → Contains texts other → test other ≡ true → IsFirstPassing test texts (unwrap_or (find test texts) d)
find_first test [] d other sorted c e = absurd (contains_none other c)
find_first test (first ∷ texts) d other sorted c e =
    elim (cases_Bool (test first)) [
      | inl t ↦ subst (λ o. IsFirstPassing test (first ∷ texts) (unwrap_or o d)) (sym (cond-true _ _ _ t)) (record {
        is_item = contains_here first texts;
        passes = t;
        first = λ any at u. elim (contains_cases any first texts at) [
          | inl same ↦ inl same
          | inr later ↦ inr (sorted.0 any later)
        ];
      })
      | inr f ↦ subst (λ o. IsFirstPassing test (first ∷ texts) (unwrap_or o d)) (sym (cond-false _ _ _ f)) (elim (contains_cases other first texts c) [
        | inl same ↦ absurd (true≢false (sym (subst (λ y. test y ≡ true) (sym same) e) ∙ f))
        | inr later ↦
            let rest = find_first test texts d other sorted.1 later e in
            record {
              is_item = contains_there _ first texts rest.is_item;
              passes = rest.passes;
              first = λ any at u. elim (contains_cases any first texts at) [
                | inl same ↦ absurd (true≢false (sym (subst (λ y. test y ≡ true) (sym same) u) ∙ f))
                | inr behind ↦ rest.first any behind u
              ];
            }
      ])
    ]

-- ---- wishes

-- what can be chosen is in order, has the specifier among it and for each place one that fits; any other value fits only
-- where all do
pub record IsWish (wish : Wish) : Type 0 where
  pub sorted : Ascending wish.targets
  pub asked : Contains wish.targets wish.asked
  pub some : (place : List ℕ) → (t : List ℕ) × Contains wish.targets t × (wish.fits place t ≡ true)
  pub others :
      (place value t : List ℕ) → (Contains wish.targets value → ⊥) → wish.fits place value ≡ true
      → wish.fits place t ≡ true

-- no other value costs less than those that can be chosen
abbrev pub IsWide : Wish → Weights → Type 0
IsWide wish weights =
    (place value t : List ℕ) → Contains wish.targets t → (Contains wish.targets value → ⊥) → weights place t ≤ weights place value

pub record IsBest (wish : Wish) (weights : Weights) (place value : List ℕ) : Type 0 where
  pub fits : wish.fits place value ≡ true
  pub least : (t : List ℕ) → Contains wish.targets t → wish.fits place t ≡ true → weights place value ≤ weights place t

pub best_is : (wish : Wish) (weights : Weights) (place value : List ℕ) → is_best wish weights place value ≡ true → IsBest wish weights place value
unfolding is_best
best_is wish weights place value e =
    let parts = and_parts _ _ e in
    record {
      fits = parts.0;
      least = λ t c f. elim (or_cases (not (wish.fits place t)) _ (all_at (is_beaten wish weights place value) wish.targets t parts.1 c)) [
        | inl n ↦ absurd (true≢false (sym n ∙ ap not f))
        | inr l ↦ leb-true _ _ l
      ];
    }

pub best_from : (wish : Wish) (weights : Weights) (place value : List ℕ) → IsBest wish weights place value → is_best wish weights place value ≡ true
unfolding is_best
best_from wish weights place value b =
    and_from _ _ b.fits (all_from (is_beaten wish weights place value) wish.targets (λ t c. elim (cases_Bool (wish.fits place t)) [
      | inl f ↦ or_right (not (wish.fits place t)) _ (le-leb _ _ (b.least t c f))
      | inr n ↦ or_left (not (wish.fits place t)) _ (not_from_false _ n)
    ]))

module _ (wish : Wish) (is_wish : IsWish wish) (weights : Weights) (wide : IsWide wish weights) (place : List ℕ) where
  -- one that can be chosen is best
  pub some_best : (t : List ℕ) × Contains wish.targets t × IsBest wish weights place t
  some_best =
      elim (least_among (wish.fits place) (weights place) wish.targets) [
        | inl none ↦ let s = is_wish.some place in absurd (true≢false (sym s.2 ∙ none s.0 s.1))
        | inr l ↦ found l
      ]
    where
      found : Least (wish.fits place) (weights place) wish.targets → (t : List ℕ) × Contains wish.targets t × IsBest wish weights place t
      found l = (l.0, l.1.is_item, record { fits = l.1.passes; least = l.1.least })

  pub first_is : IsFirstPassing (is_best wish weights place) wish.targets (first_best wish weights place)
  first_is = find_first (is_best wish weights place) wish.targets wish.asked some_best.0 is_wish.sorted some_best.1 (best_from wish weights place some_best.0 some_best.2)

  pub best : List ℕ
  best = first_best wish weights place

  pub best_best : IsBest wish weights place (first_best wish weights place)
  best_best = best_is wish weights place (first_best wish weights place) first_is.passes

  -- it costs least of all values that fit
  pub cheapest : (value : List ℕ) → wish.fits place value ≡ true → weights place (first_best wish weights place) ≤ weights place value
  cheapest value f = elim (cases_among wish.targets value) [
    | inl c ↦ best_best.least value c f
    | inr n ↦ wide place value (first_best wish weights place) first_is.is_item n
  ]

  -- and what costs as little is best
  pub best_again : (value : List ℕ) → wish.fits place value ≡ true → weights place value ≤ weights place (first_best wish weights place) → is_best wish weights place value ≡ true
  best_again value f l = best_from wish weights place value (record { fits = f; least = λ t c g. let b = best_best.least t c g in omega arith })

  -- where another value is best, all are
  pub all_best : (value t : List ℕ) → (Contains wish.targets value → ⊥) → is_best wish weights place value ≡ true → Contains wish.targets t → is_best wish weights place t ≡ true
  all_best value t n e c =
      let b = best_is wish weights place value e in
      best_from wish weights place t (record {
        fits = is_wish.others place value t n b.fits;
        least = λ s d g. let l = b.least s d g in let w = wide place value t c n in omega arith;
      })

  penalty_wide : (value t : List ℕ) → Contains wish.targets t → (Contains wish.targets value → ⊥) → penalty wish weights place t ≤ penalty wish weights place value
  penalty_wide value t c n = by (is_best wish weights place value) refl (is_best wish weights place t) refl
    where
      by : (a : Bool) → is_best wish weights place value ≡ a → (b : Bool) → is_best wish weights place t ≡ b → cond b 0 1 ≤ cond a 0 1
      by a e true f = omega arith
      by true e false f = absurd (true≢false (sym (all_best value t n e c) ∙ f))
      by false e false f = omega arith

  pub reduced_wide : IsWide wish (reduced wish place weights)
  unfolding reduced
  reduced_wide other value t c n =
      let w = wide other value t c n in
      let p = penalty_wide value t c n in
      by (is_above_at (place_above place) other) w p
    where
      by : (b : Bool) → weights other t ≤ weights other value → penalty wish weights place t ≤ penalty wish weights place value → weights other t + cond b (penalty wish weights place t) 0 ≤ weights other value + cond b (penalty wish weights place value) 0
      by true w p = omega arith
      by false w p = omega arith
