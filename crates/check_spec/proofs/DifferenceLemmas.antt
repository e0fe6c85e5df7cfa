-- The differences are those that they should be, in order.
use Rattle.std.proofs.Common.{◌≡◌, ℕ, zero, suc, ◌<◌, ◌≤◌, ◌+◌, true, false, List, [], ◌∷◌, length, Some, refl, sym, ap, ◌∙◌, subst, arith}
use Rattle.std.specs.Prelude.{◌≢◌, ⊤, map, slice_get, slice_index, Contains}
use Rattle.std.proofs.lemmas.Bool.{cases_Bool, cond-true, cond-false, true≢false}
use Rattle.std.proofs.lemmas.Option.{same_Some}
use Rattle.std.proofs.lemmas.Slice.Eq.{bytes_eq-Decides}
use mathlib.Core.Logic.{inl, inr}
use Rattle.import_map_spec.specs.ParsedMap.{ParsedMap}
use Rattle.import_map_spec.specs.Resolving.{Resolution, Resolved, Blocked, Bare, Backtrack, BadRest}
use Rattle.layout_spec.specs.declared.Need.{Need}
use Rattle.layout_spec.proofs.Contained.{contains_here, contains_there, contains_cases, contains_none}
use Rattle.check_spec.specs.Differences.{Difference, gets, is_url, differences, differences_from, IsDifference}
use Rattle.check_spec.specs.Laws.{DifferencesAreExact, DifferencesAscend}

pub is_url_is : (r : Resolution) (target : List ℕ) → is_url r target ≡ true → r ≡ Resolved target
is_url_is (Resolved url) target e = ap Resolved ((bytes_eq-Decides url target).0 e)
is_url_is Blocked target e = absurd (true≢false (sym e))
is_url_is Bare target e = absurd (true≢false (sym e))
is_url_is Backtrack target e = absurd (true≢false (sym e))
is_url_is BadRest target e = absurd (true≢false (sym e))

pub is_not_url : (r : Resolution) (target : List ℕ) → is_url r target ≡ false → r ≢ Resolved target
is_not_url r target e same = true≢false (sym ((bytes_eq-Decides target target).1 refl) ∙ (ap (λ x. is_url x target) (sym same) ∙ e))

-- the numbers rise, from this one on at least
abbrev Above : ℕ → List ℕ → Type 0
Above n [] = ⊤
Above n (x ∷ xs) = (n ≤ x) × Above (suc x) xs

lower : (n k : ℕ) (xs : List ℕ) → n ≤ k → Above k xs → Above n xs
lower n k [] l a = tt
lower n k (x ∷ xs) l a = (let b = a.0 in omega arith, a.1)

module _ (m : ParsedMap) where
  record IsFrom (number : ℕ) (needs : List Need) (d : Difference) : Type 0 where
    place : ℕ
    need : Need
    number_is : d.need ≡ number + place
    stands : slice_get needs place ≡ Some need
    got_is : gets m need ≡ d.got
    differs : d.got ≢ Resolved need.target

  later : (number : ℕ) (first : Need) (more : List Need) (d : Difference) → IsFrom (suc number) more d → IsFrom number (first ∷ more) d
  later number first more d f =
      let e = f.number_is in
      record { place = suc f.place; need = f.need; number_is = omega arith; stands = f.stands; got_is = f.got_is; differs = f.differs }

  from_list : (number : ℕ) (needs : List Need) (d : Difference) → Contains (differences_from m number needs) d → IsFrom number needs d
  from_list number [] d c = absurd (contains_none d c)
  from_list number (need ∷ more) d c =
      let here : Difference = record { need = number; got = gets m need } in
      elim (cases_Bool (is_url (gets m need) need.target)) [
        | inl served ↦ later number need more d (from_list (suc number) more d (subst (λ xs. Contains xs d) (cond-true _ _ _ served) c))
        | inr other ↦ elim (contains_cases d here (differences_from m (suc number) more) (subst (λ xs. Contains xs d) (cond-false _ _ _ other) c)) [
          | inl same ↦ record { place = 0; need = need; number_is = (let e = ap (λ (x : Difference). x.need) same in omega arith); stands = refl; got_is = ap (λ (x : Difference). x.got) same; differs = subst (λ (x : Difference). x.got ≢ Resolved need.target) same (is_not_url (gets m need) need.target other) }
          | inr behind ↦ later number need more d (from_list (suc number) more d behind)
        ]
      ]

  behind : (number : ℕ) (need : Need) (more : List Need) (d : Difference) → Contains (differences_from m (suc number) more) d → Contains (differences_from m number (need ∷ more)) d
  behind number need more d c =
      elim (cases_Bool (is_url (gets m need) need.target)) [
        | inl served ↦ subst (λ xs. Contains xs d) (sym (cond-true _ _ _ served)) c
        | inr other ↦ subst (λ xs. Contains xs d) (sym (cond-false _ _ _ other)) (contains_there d _ _ c)
      ]

  at_first : (number : ℕ) (need : Need) (more : List Need) (d : Difference) → d.need ≡ number → gets m need ≡ d.got → d.got ≢ Resolved need.target → Contains (differences_from m number (need ∷ more)) d
  at_first number need more d e f differs =
      let here : ◌≡◌ {A = Difference} (record { need = number; got = gets m need }) d = λ i. record { need = sym e i; got = f i } in
      elim (cases_Bool (is_url (gets m need) need.target)) [
        | inl served ↦ absurd (differs (sym f ∙ is_url_is (gets m need) need.target served))
        | inr other ↦ subst (λ xs. Contains xs d) (sym (cond-false _ _ _ other)) (subst (λ x. Contains (x ∷ differences_from m (suc number) more) d) (sym here) (contains_here d _))
      ]

  to_list : (number : ℕ) (needs : List Need) (d : Difference) (place : ℕ) (need : Need) → d.need ≡ number + place → slice_get needs place ≡ Some need → gets m need ≡ d.got → d.got ≢ Resolved need.target → Contains (differences_from m number needs) d
  to_list number [] d place need e s g f = absurd (cc)
  to_list number (first ∷ more) d zero need e s g f =
      let same = same_Some first need s in
      at_first number first more d (omega arith) (ap (gets m) same ∙ g) (subst (λ (x : Need). d.got ≢ Resolved x.target) (sym same) f)
  to_list number (first ∷ more) d (suc place) need e s g f = behind number first more d (to_list (suc number) more d place need (omega arith) s g f)

  -- ---- in order

  abbrev numbers : List Difference → List ℕ
  numbers ds = map (λ (d : Difference). d.need) ds

  above : (number : ℕ) (needs : List Need) → Above number (numbers (differences_from m number needs))
  above number [] = tt
  above number (need ∷ more) =
      let rest = above (suc number) more in
      elim (cases_Bool (is_url (gets m need) need.target)) [
        | inl served ↦ subst (λ xs. Above number (numbers xs)) (sym (cond-true _ _ _ served)) (lower number (suc number) _ (omega arith) rest)
        | inr other ↦ subst (λ xs. Above number (numbers xs)) (sym (cond-false _ _ _ other)) (omega arith, rest)
      ]

rises : (n : ℕ) (xs : List ℕ) → Above n xs → (k : ℕ) → suc k < length xs → slice_index xs k < slice_index xs (suc k)
rises n [] a k l = absurd (omega arith)
rises n (x ∷ []) a k l = absurd (omega arith)
rises n (x ∷ y ∷ xs) a zero l = let b = a.1.0 in omega arith
rises n (x ∷ y ∷ xs) a (suc k) l = rises (suc x) (y ∷ xs) a.1 k (omega arith)

pub differences_are_exact : DifferencesAreExact
differences_are_exact m needs d = (
  (λ c. let f = from_list m 0 needs d c in record {
    need = f.need;
    stands = ap (slice_get needs) (let e = f.number_is in let same : d.need ≡ f.place = omega arith in same) ∙ f.stands;
    got_is = f.got_is;
    differs = f.differs;
  }),
  (λ (f : IsDifference m needs d). to_list m 0 needs d d.need f.need (omega arith) f.stands f.got_is f.differs),
)

pub differences_ascend : DifferencesAscend
differences_ascend m needs k l = let e : k + 1 ≡ suc k = omega arith in subst (λ j. slice_index (numbers m (differences m needs)) k < slice_index (numbers m (differences m needs)) j) (sym e) (rises 0 _ (above m 0 needs) k (omega (arith, l)))
