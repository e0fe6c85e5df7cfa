-- What the places of a referrer have as values.
use Rattle.std.proofs.Common.{refl, sym, ap, ◌∙◌, subst, arith}
use Rattle.std.proofs.lemmas.Bool.{cases_Bool, cond-true, cond-false}
use Rattle.std.proofs.lemmas.Cmp.{tied_itself}
use Rattle.std.proofs.lemmas.Option.{same_Some, none-some}
use Rattle.std.specs.Cmp.{nat_cmp_total}
use Rattle.std.specs.Cmp.Lexicographic.{slice_cmp}
use Rattle.std.specs.FinMap.{get, insert}
use Rattle.std.specs.Option.{option_or}
use Rattle.std.specs.Ordering.{nat_cmp, ordering_then}
use Rattle.std.specs.Prelude.{◌≡◌, ◌⊎◌, ℕ, zero, suc, ◌<◌, List, [], ◌∷◌, length, take, Option, Some, None, unwrap_or, Contains, false}
use mathlib.Core.Logic.{inl, inr}
use Rattle.import_map_spec.proofs.Entries.{same_key, same_key_is, same_key_itself, get_inserted}
use Rattle.layout_spec.proofs.Contained.{contains_here, contains_there, contains_cases}
use Rattle.layout_spec.proofs.NestedPlaces.{Nested, nested_above}
use Rattle.layout_spec.proofs.PlaceLemmas.{above_is}
use Rattle.layout_spec.specs.Places.{places, above, longest, place_above}
use Rattle.layout_spec.specs.Serving.{first_of}
use Rattle.fewest_spec.specs.Choosing.{from_above}
use Rattle.url_spec.specs.Parsing.{IsUrl}
use Rattle.fewest_spec.specs.Fewest.{Choice, Held, value_by, Before, HasValue, is_held, is_asked}
use Rattle.fewest_spec.specs.Laws.{ValueByCases}
use Rattle.fewest_spec.proofs.Orders.{never_itself, not_both}

pub value_step : (c : Held) (asked place : List ℕ) → value_by c asked place ≡ unwrap_or (c place) (from_above c asked place)
value_step c asked place = by (c place)
  where
    by : (o : Option (List ℕ)) → unwrap_or (option_or o (first_of c (above place))) asked ≡ unwrap_or o (from_above c asked place)
    by None = refl
    by (Some t) = refl

above_cases : (texts : List (List ℕ)) (place : List ℕ) → above place ≡ texts → Nested texts → (place_above place ≡ None → texts ≡ []) × ((q : List ℕ) → place_above place ≡ Some q → texts ≡ q ∷ above q)
above_cases [] place e nested = ((λ f. refl), (λ q f. absurd (none-some q (sym (ap longest e) ∙ f))))
above_cases (first ∷ more) place e nested = (
  (λ f. absurd (none-some first (sym f ∙ ap longest e))),
  (λ q f. let same : first ≡ q = same_Some first q (sym (ap longest e) ∙ f) in (λ i. same i ∷ nested.0 i) ∙ ap (λ p. q ∷ above p) same),
)

pub above_top : (place : List ℕ) → place_above place ≡ None → above place ≡ []
above_top place e = (above_cases (above place) place refl (nested_above place)).0 e

pub above_next : (place q : List ℕ) → place_above place ≡ Some q → above place ≡ q ∷ above q
above_next place q e = (above_cases (above place) place refl (nested_above place)).1 q e

pub from_top : (c : Held) (asked place : List ℕ) → place_above place ≡ None → from_above c asked place ≡ asked
from_top c asked place e = ap (λ ps. unwrap_or (first_of c ps) asked) (above_top place e)

pub from_next : (c : Held) (asked place q : List ℕ) → place_above place ≡ Some q → from_above c asked place ≡ value_by c asked q
from_next c asked place q e = ap (λ ps. unwrap_or (first_of c ps) asked) (above_next place q e)

-- ---- a shorter front comes before

pub front_before : (text : List ℕ) (n : ℕ) → n < length text → Before (take n text) text
front_before [] n l = absurd (omega arith)
front_before (b ∷ text) zero l = refl
front_before (b ∷ text) (suc n) l = ap (λ o. ordering_then o (slice_cmp nat_cmp (take n text) text)) (tied_itself nat_cmp_total b) ∙ front_before text n (omega arith)

pub above_before : (place higher : List ℕ) → Contains (above place) higher → Before higher place
above_before place higher c =
    let front = (above_is place higher c).front in
    subst (λ p. Before p place) (sym front.is_front) (front_before place front.size front.shorter)

-- ---- only what the places hold matters

pub same_first : (c d : Held) (ps : List (List ℕ)) → ((p : List ℕ) → Contains ps p → c p ≡ d p) → first_of c ps ≡ first_of d ps
same_first c d [] same = refl
same_first c d (p ∷ ps) same = λ i. option_or (same p (contains_here p ps) i) (same_first c d ps (λ q at. same q (contains_there q p ps at)) i)

pub same_value : (c d : Held) (asked place : List ℕ) → ((p : List ℕ) → Contains (places place) p → c p ≡ d p) → value_by c asked place ≡ value_by d asked place
same_value c d asked place same = ap (λ o. unwrap_or o asked) (same_first c d (places place) same)

pub place_before : (place p : List ℕ) → Contains (places place) p → (p ≡ place) ⊎ Before p place
place_before place p at = elim (contains_cases p place (above place) at) [
  | inl same ↦ inl (sym same)
  | inr higher ↦ inr (above_before place p higher)
]

pub apart_key : (a b : List ℕ) → (a ≡ b → ⊥) → same_key a b ≡ false
apart_key a b n = elim (cases_Bool (same_key a b)) [
  | inl t ↦ absurd (n (same_key_is a b t))
  | inr f ↦ f
]

pub get_here : (c : Choice) (place t : List ℕ) → get (insert c place t) place ≡ Some t
get_here c place t = get_inserted c place t place ∙ cond-true _ _ _ (same_key_itself place)

pub get_before : (c : Choice) (place t other : List ℕ) → (other ≡ place → ⊥) → get (insert c place t) other ≡ get c other
get_before c place t other apart = get_inserted c place t other ∙ cond-false _ _ _ (apart_key other place apart)

-- a place that is put behind others doesn't change their values
pub value_before : (c : Choice) (asked place t other : List ℕ) → Before other place → value_by (get (insert c place t)) asked other ≡ value_by (get c) asked other
value_before c asked place t other b =
    same_value (get (insert c place t)) (get c) asked other (λ p at. get_before c place t p (λ same. elim (place_before other p at) [
      | inl is ↦ never_itself other (subst (Before other) (sym same ∙ is) b)
      | inr higher ↦ not_both p other higher (subst (Before other) (sym same) b)
    ]))

-- what a place has from above isn't changed by what is put at it
pub from_above_put : (c : Choice) (asked place t : List ℕ) → from_above (get (insert c place t)) asked place ≡ from_above (get c) asked place
from_above_put c asked place t =
    ap (λ o. unwrap_or o asked) (same_first (get (insert c place t)) (get c) (above place) (λ p at. get_before c place t p (λ same. never_itself place (subst (λ q. Before q place) same (above_before place p at)))))

pub put_cases : (c : Choice) (place t p u : List ℕ) → get (insert c place t) p ≡ Some u → (place ≡ p) ⊎ (get c p ≡ Some u)
put_cases c place t p u e = elim (cases_Bool (same_key p place)) [
  | inl same ↦ inl (sym (same_key_is p place same))
  | inr apart ↦ inr (sym (get_inserted c place t p ∙ cond-false _ _ _ apart) ∙ e)
]

-- ---- by cases

pub value_by_cases : ValueByCases
value_by_cases chosen asked referrer target url = (by (first_of chosen (places referrer)) refl, back)
  where
    by : (o : Option (List ℕ)) → first_of chosen (places referrer) ≡ o → unwrap_or o asked ≡ target → HasValue chosen asked referrer target
    by None e same = is_asked e (subst IsUrl (sym same) url) (sym same)
    by (Some t) e same = is_held (e ∙ ap Some same)

    back : HasValue chosen asked referrer target → value_by chosen asked referrer ≡ target
    back (is_held e) = ap (λ o. unwrap_or o asked) e
    back (is_asked e u same) = ap (λ o. unwrap_or o asked) e ∙ sym same
