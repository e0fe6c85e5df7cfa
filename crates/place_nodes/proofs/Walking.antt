-- The place above another is found on the way up from the last place before it.
use Rattle.std.proofs.Common.{refl, sym, ap, ◌∙◌, subst, arith}
use Rattle.std.proofs.lemmas.Bool.{cases_order, cases_lt}
use Rattle.std.proofs.lemmas.Cmp.{ranked}
use Rattle.std.proofs.lemmas.List.{length-take-le, length-map, length-append, take_at, take-append-drop}
use Rattle.std.proofs.lemmas.Option.{same_Some, none-some, slice_get-map, slice_get_within}
use Rattle.std.specs.Cmp.Lexicographic.{slice_cmp}
use Rattle.std.specs.Ordering.{nat_cmp, ordering_then, MatchOrdering}
use Rattle.std.specs.Prelude.{◌≡◌, ◌≢◌, ◌↔◌, ◌⊎◌, ℕ, zero, suc, ◌<◌, ◌≤◌, ◌+◌, Bool, true, List, [], ◌∷◌, ◌++◌, Option, Some, None, take, drop, length, slice_get, option_map, Contains, Result, Ok, Err, IfOk, IsTrue}
use Rattle.std.specs.declared.cmp.Ordering.{Ordering}
use Rattle.std.specs.declared.cmp.Ordering.TheVariants.{Less, Equal, Greater}
use mathlib.Core.Logic.{inl, inr}
use Rattle.layout_spec.proofs.Contained.{contains_at, contains_cases, contains_none}
use Rattle.layout_spec.proofs.NestedPlaces.{above_place, next_above}
use Rattle.layout_spec.proofs.PlaceLemmas.{above_is, above_from, folder_test, folder_from_test}
use Rattle.layout_spec.specs.Places.{above, place_above, is_folder, IsFolder, IsShorterFront}
use Rattle.fewest_spec.specs.Fewest.{Before}
use Rattle.fewest_spec.specs.Wishes.{Ascending}
use Rattle.fewest_spec.proofs.Orders.{never_itself, not_both}
use Rattle.fewest_spec.proofs.Values.{above_before, above_next, above_top}
use Rattle.place_nodes.proofs.Steps.{no_more}
use Rattle.place_nodes.specs.Known.{AreKnown}
use Rattle.place_nodes.specs.Nodes.{IsAbove, places_of}
use Rattle.place_nodes.specs.declared.nodes.Node.{Node}

-- ---- what stands between a front of a text and the text begins with the front

head_is : (x y : ℕ) (h q p : List ℕ) → ordering_then (nat_cmp x y) (slice_cmp nat_cmp h q) ≡ Less → ordering_then (nat_cmp y x) (slice_cmp nat_cmp q p) ≡ Less → (x ≡ y) × Before h q × Before q p
head_is x y h q p e f = by (nat_cmp x y) refl (nat_cmp y x) refl
  where
    at : (o : Ordering) → nat_cmp x y ≡ o → MatchOrdering o (x < y) (x ≡ y) (y < x)
    at o g = ranked x y o (sym g)

    back : (o : Ordering) → nat_cmp y x ≡ o → MatchOrdering o (y < x) (y ≡ x) (x < y)
    back o g = ranked y x o (sym g)

    by : (o : Ordering) → nat_cmp x y ≡ o → (r : Ordering) → nat_cmp y x ≡ r → (x ≡ y) × Before h q × Before q p
    by Equal g Equal k = (at Equal g, sym (ap (λ o. ordering_then o (slice_cmp nat_cmp h q)) g) ∙ e, sym (ap (λ o. ordering_then o (slice_cmp nat_cmp q p)) k) ∙ f)
    by Equal g Less k = absurd (let a = at Equal g in let b = back Less k in omega (arith, a, b))
    by Equal g Greater k = absurd (let a = at Equal g in let b = back Greater k in omega (arith, a, b))
    by Less g Less k = absurd (let a = at Less g in let b = back Less k in omega (arith, a, b))
    by Less g Equal k = absurd (let a = at Less g in let b = back Equal k in omega (arith, a, b))
    by Less g Greater k = absurd (let w : Greater ≡ Less = sym (ap (λ o. ordering_then o (slice_cmp nat_cmp q p)) k) ∙ f in cc)
    by Greater g r k = absurd (let w : Greater ≡ Less = sym (ap (λ o. ordering_then o (slice_cmp nat_cmp h q)) g) ∙ e in cc)

pub between : (n : ℕ) (q p : List ℕ) → n ≤ length p → Before (take n p) q → Before q p → (take n p ≡ take n q) × (n < length q)
between zero [] p l b c = absurd (never_itself [] b)
between zero (y ∷ q) p l b c = (refl, omega arith)
between (suc n) q [] l b c = absurd (omega arith)
between (suc n) [] (x ∷ p) l b c = absurd (let w : Greater ≡ Less = b in cc)
between (suc n) (y ∷ q) (x ∷ p) l b c =
    let parts = head_is x y (take n p) q p b c in
    let rest = between n q p (omega arith) parts.1 parts.2 in
    ((λ i. parts.0 i ∷ rest.0 i), (let m = rest.1 in omega (arith, m)))

-- so what is above the text is above that
pub above_between : (h q p : List ℕ) → Contains (above p) h → Before h q → Before q p → Contains (above q) h
above_between h q p c b d =
    let a = above_is p h c in
    let found = between a.front.size q p (let l = a.front.shorter in omega arith) (subst (λ r. Before r q) a.front.is_front b) d in
    above_from q h (record { front = record { size = a.front.size; shorter = found.1; is_front = a.front.is_front ∙ found.0 }; folder = a.folder })

-- ---- the way up

abbrev pub bound : Option ℕ → ℕ
bound None = 0
bound (Some n) = n + 1

-- no place from this number on is above
pub record IsWay (nodes : List Node) (place : List ℕ) (next : Option ℕ) : Type 0 where
  pub within : bound next ≤ length nodes
  pub none_behind : (k : ℕ) (h : List ℕ) → slice_get (places_of nodes) k ≡ Some h → Contains (above place) h → k < bound next

pub way_begins : (nodes : List Node) (place : List ℕ) (next : Option ℕ) → bound next ≡ length nodes → IsWay nodes place next
way_begins nodes place next e = record {
  within = omega (arith, e);
  none_behind = λ k h s c. let l = slice_get_within (places_of nodes) k h s in let n = length-map nodes (λ (node : Node). node.place) in omega (arith, l, n, e);
}

-- in order, a greater text has a greater number
number_order : (qs : List (List ℕ)) (i j : ℕ) (p q : List ℕ) → Ascending qs → slice_get qs i ≡ Some p → slice_get qs j ≡ Some q → i < j → Before p q
number_order [] i j p q up s t l = absurd (none-some p s)
number_order (first ∷ qs) i zero p q up s t l = absurd (omega arith)
number_order (first ∷ qs) zero (suc j) p q up s t l = subst (λ r. Before r q) (same_Some first p s) (up.0 q (contains_at qs j q t))
number_order (first ∷ qs) (suc i) (suc j) p q up s t l = number_order qs i j p q up.1 s t (omega arith)

number_of : (qs : List (List ℕ)) (h : List ℕ) → Contains qs h → (k : ℕ) × (slice_get qs k ≡ Some h)
number_of [] h c = absurd (contains_none h c)
number_of (q ∷ qs) h c = elim (contains_cases h q qs c) [
  | inl same ↦ (0, ap Some same)
  | inr later ↦ let r = number_of qs h later in (suc r.0, r.1)
]

pub get_front : (qs : List (List ℕ)) (n k : ℕ) (h : List ℕ) → slice_get (take n qs) k ≡ Some h → (k < n) × (slice_get qs k ≡ Some h)
get_front qs zero k h s = absurd (none-some h s)
get_front [] (suc n) k h s = absurd (none-some h s)
get_front (q ∷ qs) (suc n) zero h s = (omega arith, s)
get_front (q ∷ qs) (suc n) (suc k) h s = let r = get_front qs n k h s in ((let l = r.0 in omega (arith, l)), r.1)

-- what is above a place is the place above it, or comes before that
above_upto : (place h higher : List ℕ) → place_above place ≡ Some higher → Contains (above place) h → (h ≡ higher) ⊎ Before h higher
above_upto place h higher e c = elim (contains_cases h higher (above higher) (subst (λ ps. Contains ps h) (above_next place higher e) c)) [
  | inl same ↦ inl (sym same)
  | inr further ↦ inr (above_before higher h further)
]

none_above_top : (place h : List ℕ) → place_above place ≡ None → Contains (above place) h → ⊥
none_above_top place h e c = contains_none h (subst (λ ps. Contains ps h) (above_top place e) c)

pub way_goes : (nodes : List Node) (place : List ℕ) (number : ℕ) (node : Node) → AreKnown nodes place → IsWay nodes place (Some number) → slice_get nodes number ≡ Some node → (Contains (above place) node.place → ⊥) → IsWay nodes place node.above × (bound node.above < bound (Some number))
way_goes nodes place number node known way at not_above = by node.above (known.know number node at)
  where
    here : slice_get (places_of nodes) number ≡ Some node.place
    here = slice_get-map (λ (node : Node). node.place) nodes number ∙ ap (option_map (λ (node : Node). node.place)) at

    last : Before node.place place
    last = known.before node.place (contains_at (places_of nodes) number node.place here)

    -- any that is above is above this place too
    passes : (k : ℕ) (h : List ℕ) → slice_get (places_of nodes) k ≡ Some h → Contains (above place) h → (k < number) × Contains (above node.place) h
    passes k h s c = elim (cases_order k number) [
      | inl same ↦ absurd (not_above (subst (Contains (above place)) (same_Some h node.place (sym s ∙ (ap (slice_get (places_of nodes)) same ∙ here))) c))
      | inr apart ↦ elim apart [
        | inl less ↦ (less, above_between h node.place place c (number_order (places_of nodes) k number h node.place known.sorted s here less) last)
        | inr more ↦ absurd (let b = way.none_behind k h s c in omega (arith, more, b))
      ]
    ]

    by : (o : Option ℕ) → IsAbove (take number (places_of nodes)) node.place o → IsWay nodes place o × (bound o < bound (Some number))
    by None none = (record { within = omega arith; none_behind = λ k h s c. absurd (none_above_top node.place h none (passes k h s c).1) }, omega arith)
    by (Some up) found =
        let front = get_front (places_of nodes) number up found.0 found.2 in
        let less = front.0 in
        let w = way.within in (
          record {
            within = omega (arith, less, w);
            none_behind = λ k h s c. elim (cases_lt k (up + 1)) [
              | inl under ↦ under
              | inr over ↦ absurd (elim (above_upto node.place h found.0 found.1 (passes k h s c).1) [
                | inl same ↦ never_itself h (subst (λ r. Before r h) (sym same) (number_order (places_of nodes) up k found.0 h known.sorted front.1 s (omega arith)))
                | inr further ↦ not_both h found.0 further (number_order (places_of nodes) up k found.0 h known.sorted front.1 s (omega arith))
              ])
            ];
          },
          omega (arith, less),
        )

pub way_found : (nodes : List Node) (place : List ℕ) (number : ℕ) (node : Node) → AreKnown nodes place → IsWay nodes place (Some number) → slice_get nodes number ≡ Some node → Contains (above place) node.place → IsAbove (places_of nodes) place (Some number)
way_found nodes place number node known way at c =
    let next = next_above place node.place c in (
      node.place,
      next.is_next ∙ ap Some (elim next.reaches [
        | inl same ↦ same
        | inr further ↦ absurd (contradiction next.next next.is_next further)
      ]),
      here,
    )
  where
    here : slice_get (places_of nodes) number ≡ Some node.place
    here = slice_get-map (λ (node : Node). node.place) nodes number ∙ ap (option_map (λ (node : Node). node.place)) at

    contradiction : (h : List ℕ) → place_above place ≡ Some h → Contains (above h) node.place → ⊥
    contradiction h e further =
        let above_h = above_place place h e in
        let k = number_of (places_of nodes) h (known.there h above_h) in
        let l = way.none_behind k.0 h k.1 above_h in
        elim (cases_lt k.0 number) [
          | inl under ↦ not_both h node.place (number_order (places_of nodes) k.0 number h node.place known.sorted k.1 here under) (above_before h node.place further)
          | inr over ↦ never_itself h (subst (λ r. Before r h) (same_Some node.place h (sym here ∙ (ap (slice_get (places_of nodes)) (omega arith) ∙ k.1))) (above_before h node.place further))
        ]

pub way_stops : (nodes : List Node) (place : List ℕ) (number : ℕ) → IsWay nodes place (Some number) → None ≡ slice_get nodes number → ⊥
way_stops nodes place number way e = let w = way.within in let l = no_more nodes number e in omega (arith, w, l)

pub way_ends : (nodes : List Node) (place : List ℕ) (next : Option ℕ) → AreKnown nodes place → IsWay nodes place next → bound next ≡ 0 → IsAbove (places_of nodes) place None
way_ends nodes place next known way e = by (place_above place) refl
  where
    by : (o : Option (List ℕ)) → place_above place ≡ o → place_above place ≡ None
    by None f = f
    by (Some h) f =
        let c = above_place place h f in
        let at = known.there h c in
        let k = number_of (places_of nodes) h at in
        let l = way.none_behind k.0 h k.1 c in
        absurd (omega (arith, l, e))

-- ---- whether a place is above another

take_front : (front rest : List ℕ) → take (length front) (front ++ rest) ≡ front
take_front front rest = take_at front rest (length front) refl

pub not_front : (place higher : List ℕ) → ((rest : List ℕ) → place ≢ higher ++ rest) → Contains (above place) higher → ⊥
not_front place higher n c = let f = (above_is place higher c).front in n (drop f.size place) (sym (take-append-drop f.size place) ∙ ap (λ h. h ++ drop f.size place) (sym f.is_front))

pub not_whole : (place higher rest : List ℕ) → place ≡ higher ++ rest → length rest ≡ 0 → Contains (above place) higher → ⊥
not_whole place higher rest e none c =
    let f = (above_is place higher c).front in
    let l = f.shorter in
    let a = ap length e ∙ length-append higher rest in
    let b = ap length f.is_front ∙ length-take-le f.size place (omega arith) in
    omega (arith, l, a, b, none)

front_of : (place higher rest : List ℕ) → place ≡ higher ++ rest → (length rest ≡ 0 → ⊥) → IsShorterFront place higher
front_of place higher rest e some =
    let a = ap length e ∙ length-append higher rest in
    record { size = length higher; shorter = (elim (cases_lt (length higher) (length place)) [ inl l ↦ l | inr l ↦ absurd (some (omega (arith, a, l))) ]); is_front = sym (ap (take (length higher)) e ∙ take_front higher rest) }

pub top_front : (place higher rest : List ℕ) → place ≡ higher ++ rest → (length rest ≡ 0 → ⊥) → length higher ≡ 0 → Contains (above place) higher
unfolding front_of
top_front place higher rest e some none = above_from place higher (record { front = front_of place higher rest e some; folder = inl none })

-- what is above some text is above each text of which it is a shorter front
pub free_front : (place higher rest text : List ℕ) → place ≡ higher ++ rest → (length rest ≡ 0 → ⊥)
    → Contains (above text) higher → Contains (above place) higher
free_front place higher rest text e some c = by (above_is text higher c).folder
  where
    front : IsShorterFront place higher
    front = front_of place higher rest e some

    by : ((above_is text higher c).front.size ≡ 0) ⊎ IsFolder higher → Contains (above place) higher
    by (inr f) = above_from place higher (record { front = front; folder = inr f })
    by (inl none) =
        let l = ap length (above_is text higher c).front.is_front
        ∙ length-take-le (above_is text higher c).front.size text
        (let s = (above_is text higher c).front.shorter in omega arith) in
        top_front place higher rest e some (omega (arith, l, none))

pub folder_front : (place higher rest : List ℕ) (is : Bool) → place ≡ higher ++ rest → (length rest ≡ 0 → ⊥) → (length higher ≡ 0 → ⊥) → is ≡ is_folder higher → (is ≡ true) ↔ Contains (above place) higher
folder_front place higher rest is e some nonempty test = (
  (λ t. above_from place higher (record { front = front_of place higher rest e some; folder = inr (folder_from_test higher (sym test ∙ t)) })),
  (λ c.
      let a = above_is place higher c in
      let l = ap length a.front.is_front ∙ length-take-le a.front.size place (let s = a.front.shorter in omega arith) in
      test ∙ folder_test higher (elim a.folder [
        | inl none ↦ absurd (nonempty (omega (arith, l, none)))
        | inr f ↦ f
      ])),
)

pub folder_found : (E : Type 0) (place higher rest : List ℕ) (found : Result Bool E) → place ≡ higher ++ rest → (length rest ≡ 0 → ⊥) → (length higher ≡ 0 → ⊥) → IfOk found (λ is. is ≡ is_folder higher) → IfOk found (λ is. IsTrue is ↔ Contains (above place) higher)
folder_found E place higher rest (Ok is) e some nonempty test = folder_front place higher rest is e some nonempty test
folder_found E place higher rest (Err fault) e some nonempty test = test
