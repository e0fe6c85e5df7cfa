-- What is chosen for the places of the needs is the first of the choices with the fewest places.
use Rattle.std.proofs.Common.{refl, sym, ap, ◌∙◌, subst, arith}
use Rattle.std.proofs.lemmas.Bool.{cases_Bool, true≢false}
use Rattle.std.proofs.lemmas.Slice.Eq.{bytes_eq-Decides}
use Rattle.std.specs.Cmp.Lexicographic.{nat_list_cmp_total}
use Rattle.std.specs.FinMap.{get, len, same_map, slice_cmp-IsAntisymmetric, nat_cmp-IsAntisymmetric}
use Rattle.std.specs.Prelude.{◌≡◌, ◌⊎◌, ℕ, ◌≤◌, ◌+◌, List, [], ◌∷◌, Option, Some, None, Contains, bytes_eq}
use mathlib.Core.Logic.{inl, inr}
use Rattle.import_map_spec.proofs.Entries.{cases_option}
use Rattle.layout_spec.proofs.Contained.{contains_here, contains_there, contains_cases, contains_none}
use Rattle.layout_spec.proofs.NestedPlaces.{higher_place}
use Rattle.layout_spec.specs.Needs.{NoClash}
use Rattle.layout_spec.specs.Places.{above}
use Rattle.layout_spec.specs.declared.Need.{Need}
use Rattle.fewest_spec.specs.Choosing.{Wish, chosen, no_weight}
use Rattle.fewest_spec.specs.Fewest.{Choice, Held, value_by, Before, Serves, Precedes, IsFewest}
use Rattle.fewest_spec.specs.Laws.{ChosenFewest}
use Rattle.fewest_spec.specs.Wishes.{Descending, ArePlaces, IsAt, IsWishOf}
use Rattle.fewest_spec.proofs.Chosen.{IsChosen, AllFit, chosen_is}
use Rattle.fewest_spec.proofs.Counts.{Apart, count_at, one_if_some, count_within, nothing_else}
use Rattle.fewest_spec.proofs.Orders.{never_itself, not_both}
use Rattle.fewest_spec.proofs.Totals.{Closed, held_count, one_if, total}
use Rattle.fewest_spec.proofs.Values.{above_before}
use Rattle.fewest_spec.proofs.Weighing.{IsWish, cases_among}

closed_from : (ps : List (List ℕ)) → Descending ps → ((p q : List ℕ) → Contains ps p → Contains (above p) q → Contains ps q) → Closed ps
closed_from [] down inside = tt
closed_from (place ∷ ps) down inside = (
  (λ q c. elim (contains_cases q place ps (inside place q (contains_here place ps) c)) [
    | inl same ↦ absurd (never_itself place (subst (λ r. Before r place) (sym same) (above_before place q c)))
    | inr later ↦ later
  ]),
  closed_from ps down.1 (λ p q at c. elim (contains_cases q place ps (inside p q (contains_there p place ps at) c)) [
    | inr later ↦ later
    | inl same ↦ absurd (not_both p q (subst (Before p) same (down.0 p at)) (above_before p q c))
  ]),
)

pub apart_down : (ps : List (List ℕ)) → Descending ps → Apart ps
apart_down [] down = tt
apart_down (p ∷ ps) down = ((λ c. never_itself p (down.0 p c)), apart_down ps down.1)

total_count : (c : Held) (asked : List ℕ) (ps : List (List ℕ)) → total c asked no_weight ps ≡ held_count c ps
total_count c asked [] = refl
total_count c asked (p ∷ ps) = let rest = total_count c asked ps in omega (arith, rest)

count_held : (c : Choice) (ps : List (List ℕ)) → count_at c ps ≡ held_count (get c) ps
count_held c [] = refl
count_held c (p ∷ ps) = λ i. same (get c p) i + count_held c ps i
  where
    same : (o : Option (List ℕ)) → one_if_some o ≡ one_if o
    same None = refl
    same (Some t) = refl

-- there is a need at a place, or there is none
cases_at : (needs : List Need) (asked place : List ℕ) → ((need : Need) → IsAt needs asked place need → ⊥) ⊎ ((need : Need) × IsAt needs asked place need)
cases_at [] asked place = inl (λ need a. contains_none need a.is_need)
cases_at (first ∷ needs) asked place =
    elim (cases_at needs asked place) [
      | inr later ↦ inr (later.0, record { is_need = contains_there later.0 first needs later.1.is_need; asks = later.1.asks; at = later.1.at })
      | inl none ↦ elim (cases_Bool (bytes_eq first.asked asked)) [
        | inr other ↦ inl (λ need a. elim (contains_cases need first needs a.is_need) [
          | inl same ↦ true≢false (sym ((bytes_eq-Decides first.asked asked).1 (ap (λ (n : Need). n.asked) same ∙ a.asks)) ∙ other)
          | inr later ↦ none need (record { is_need = later; asks = a.asks; at = a.at })
        ])
        | inl asks ↦ elim (cases_Bool (bytes_eq first.referrer place)) [
          | inl at ↦ inr (first, record { is_need = contains_here first needs; asks = (bytes_eq-Decides first.asked asked).0 asks; at = (bytes_eq-Decides first.referrer place).0 at })
          | inr other ↦ inl (λ need a. elim (contains_cases need first needs a.is_need) [
            | inl same ↦ true≢false (sym ((bytes_eq-Decides first.referrer place).1 (ap (λ (n : Need). n.referrer) same ∙ a.at)) ∙ other)
            | inr later ↦ none need (record { is_need = later; asks = a.asks; at = a.at })
          ])
        ]
      ]
    ]

module _ (needs : List Need) (asked : List ℕ) (ps : List (List ℕ)) (wish : Wish) (no_clash : NoClash needs) (are : ArePlaces needs asked ps) (of : IsWishOf needs asked wish) where
  closed : Closed ps
  closed = closed_from ps are.down (λ p q at c.
      let found = are.only p at in
      are.all found.0 q found.1.is_need found.1.asks (higher_place found.0.referrer p q found.1.under c))

  pub is_wish : IsWish wish
  is_wish = record {
    sorted = of.sorted;
    asked = subst (Contains wish.targets) (sym of.asked_is) of.itself;
    some = λ place. elim (cases_at needs asked place) [
      | inl none ↦ (asked, of.itself, (of.fits place asked).1 (λ need a. absurd (none need a)))
      | inr found ↦ (
        found.0.target,
        of.targets found.0 found.1.is_need found.1.asks,
        (of.fits place found.0.target).1 (λ need a.
            no_clash need found.0 a.is_need found.1.is_need (a.at ∙ sym found.1.at) (a.asks ∙ sym found.1.asks)),
      )
    ];
    others = λ place value t n f. (of.fits place t).1 (λ need a.
        absurd (n (subst (Contains wish.targets) ((of.fits place value).0 f need a) (of.targets need a.is_need a.asks))));
  }

  is : IsChosen wish ps no_weight (chosen wish ps no_weight)
  is = chosen_is wish is_wish ps closed are.down no_weight (λ place value t c n. omega arith)

  serves_fit : (c : Held) → Serves needs asked c → AllFit wish c ps
  serves_fit c serves p at = (of.fits p (value_by c wish.asked p)).1 (λ need a. sym (serves need a.is_need a.asks) ∙ (λ i. value_by c (sym of.asked_is i) (a.at i)))

  choice : Choice
  choice = chosen wish ps no_weight

  size : len (chosen wish ps no_weight) ≡ held_count (get (chosen wish ps no_weight)) ps
  size = is.count

  fits_serve : Serves needs asked (get (chosen wish ps no_weight))
  fits_serve need c asks =
      let fit = is.fits need.referrer (are.all need need.referrer c asks (contains_here need.referrer (above need.referrer))) in
      ap (λ a. value_by (get (chosen wish ps no_weight)) a need.referrer) (sym of.asked_is) ∙ sym ((of.fits need.referrer _).0 fit need (record { is_need = c; asks = asks; at = refl }))

  least_count : (other : Choice) → Serves needs asked (get other) → held_count (get (chosen wish ps no_weight)) ps ≤ held_count (get other) ps
  least_count other serves =
      let l = is.least (get other) (serves_fit (get other) serves) in
      let a = total_count (get (chosen wish ps no_weight)) wish.asked ps in
      let b = total_count (get other) wish.asked ps in
      omega (arith, l, a, b)

  within : (other : Choice) → held_count (get other) ps ≤ len other
  within other = let w = count_within other ps (apart_down ps are.down) in let c = count_held other ps in omega (arith, w, c)

  -- a choice with as few places holds none but these
  module _ (other : Choice) (serves : Serves needs asked (get other)) (as_few : len other ≡ len (chosen wish ps no_weight)) where
    none_else : (q : List ℕ) → (Contains ps q → ⊥) → get other q ≡ None
    none_else q n =
        let l = least_count other serves in
        let s = size in
        let c = count_held other ps in
        nothing_else other ps q (apart_down ps are.down) (omega (arith, l, s, c, as_few)) n

    mine_else : (q : List ℕ) → (Contains ps q → ⊥) → get (chosen wish ps no_weight) q ≡ None
    mine_else q n = elim (cases_option (get (chosen wish ps no_weight) q)) [
      | inl none ↦ none
      | inr some ↦ absurd (n (is.within q some.0 some.1))
    ]

    same_where : (q : List ℕ) → (Contains ps q → get (chosen wish ps no_weight) q ≡ get other q) → get (chosen wish ps no_weight) q ≡ get other q
    same_where q same = elim (cases_among ps q) [
      | inl at ↦ same at
      | inr n ↦ mine_else q n ∙ sym (none_else q n)
    ]

    first_of_all : (chosen wish ps no_weight ≡ other) ⊎ Precedes (get (chosen wish ps no_weight)) (get other)
    first_of_all =
        let a = total_count (get (chosen wish ps no_weight)) wish.asked ps in
        let b = total_count (get other) wish.asked ps in
        let w = within other in
        let s = size in
        elim (is.first (get other) (serves_fit (get other) serves) (omega (arith, a, b, w, s, as_few))) [
          | inl same ↦ inl (same_map nat_list_cmp_total (slice_cmp-IsAntisymmetric nat_cmp-IsAntisymmetric) (chosen wish ps no_weight) other (λ q. same_where q (same q)))
          | inr p ↦ inr (record { place = p.place; same_before = λ q b. same_where q (λ at. p.same_before q at b); ahead = p.ahead })
        ]

  chosen_first : IsFewest needs asked (chosen wish ps no_weight)
  chosen_first = record {
    serves = fits_serve;
    fewest = λ other serves. let l = least_count other serves in let w = within other in let s = size in omega (arith, l, w, s);
    first = first_of_all;
  }

pub chosen_fewest : ChosenFewest
chosen_fewest needs asked ps wish no_clash are of = chosen_first needs asked ps wish no_clash are of
