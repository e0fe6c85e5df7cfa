-- All needs without a clash have a choice for each specifier.
use Rattle.std.proofs.Common.{refl, sym, ap, ◌∙◌, subst}
use Rattle.std.proofs.lemmas.Bool.{cases_Bool, cond-true, cond-false, true≢false, or_cases, or_left, or_right, not_from_false}
use Rattle.std.proofs.lemmas.List.{reverse-append}
use Rattle.std.proofs.lemmas.List.Elements.{Contains-append_cases, Contains-append_left, Contains-append_right}
use Rattle.std.proofs.lemmas.Option.{none-some}
use Rattle.std.proofs.lemmas.Slice.Eq.{bytes_eq-Decides}
use Rattle.std.specs.Cmp.Lexicographic.{slice_cmp, nat_list_cmp_total}
use Rattle.std.specs.FinMap.{get, insert, find, from_entries, get-from_entries, from_entries_push, slice_cmp-IsAntisymmetric, nat_cmp-IsAntisymmetric}
use Rattle.std.specs.FinMap.Entries.{by_order}
use Rattle.std.specs.Ordering.{nat_cmp, ordering_reverse}
use Rattle.std.specs.Prelude.{◌≡◌, ◌⊎◌, ℕ, Bool, true, false, cond, not, ◌||◌, List, [], ◌∷◌, ◌++◌, map, flat_map, reverse, Some, None, unwrap_or, bytes_eq, Contains}
use Rattle.std.specs.declared.cmp.Ordering.{Ordering}
use Rattle.std.specs.declared.cmp.Ordering.TheVariants.{Less, Equal, Greater}
use mathlib.Core.Logic.{inl, inr}
use Rattle.import_map_spec.proofs.Entries.{cases_option, get_nowhere}
use Rattle.layout_spec.proofs.Contained.{contains_here, contains_there, contains_cases, contains_none, contains_flat, flat_from, FlatFrom}
use Rattle.layout_spec.specs.Needs.{NoClash}
use Rattle.layout_spec.specs.Places.{places, above}
use Rattle.layout_spec.specs.Serving.{first_of}
use Rattle.layout_spec.specs.declared.Need.{Need}
use Rattle.fewest_spec.specs.Choosing.{Wish, Weights, no_weight, is_best, reduced, from_above, first_best, chosen}
use Rattle.fewest_spec.specs.Fewest.{Choice, Before, IsFewest}
use Rattle.fewest_spec.specs.Making.{put_text, sorted, asking, wish_of, places_for, targets_for, choice_of, picked}
use Rattle.fewest_spec.specs.Wishes.{Ascending, Descending, IsUnder, ArePlaces, AreTargets, IsWishOf}
use Rattle.fewest_spec.proofs.Orders.{never_itself}
use Rattle.fewest_spec.proofs.Values.{same_first, put_cases}
use Rattle.fewest_spec.proofs.Wanted.{chosen_fewest}
use Rattle.fewest_spec.proofs.Weighing.{all_at, all_from}

-- ---- sorted texts

after_trans : (a b c : List ℕ) → Before a b → Before b c → Before a c
after_trans a b c e f = nat_list_cmp_total.trans a b c e f

-- what stands in a list with one text more
pub put_either : (text : List ℕ) (more : List (List ℕ)) (x : List ℕ) → Contains (put_text text more) x → (text ≡ x) ⊎ Contains more x
put_either text [] x c = elim (contains_cases x text [] c) [ inl same ↦ inl same | inr none ↦ absurd (contains_none x none) ]
put_either text (other ∷ more) x c = by (slice_cmp nat_cmp text other) c (put_either text more x)
  where
    by : (o : Ordering) → Contains (by_order o (text ∷ other ∷ more) (other ∷ more) (other ∷ put_text text more)) x → (Contains (put_text text more) x → (text ≡ x) ⊎ Contains more x) → (text ≡ x) ⊎ Contains (other ∷ more) x
    by Less d inner = contains_cases x text (other ∷ more) d
    by Equal d inner = inr d
    by Greater d inner = elim (contains_cases x other (put_text text more) d) [
      | inl same ↦ inr (subst (Contains (other ∷ more)) same (contains_here other more))
      | inr later ↦ elim (inner later) [
        | inl same ↦ inl same
        | inr at ↦ inr (contains_there x other more at)
      ]
    ]

pub put_there : (text : List ℕ) (more : List (List ℕ)) (x : List ℕ) → (text ≡ x) ⊎ Contains more x → Contains (put_text text more) x
put_there text [] x (inl same) = subst (Contains (text ∷ [])) same (contains_here text [])
put_there text [] x (inr c) = absurd (contains_none x c)
put_there text (other ∷ more) x c = by (slice_cmp nat_cmp text other) refl c (put_there text more x)
  where
    by : (o : Ordering) → slice_cmp nat_cmp text other ≡ o → (text ≡ x) ⊎ Contains (other ∷ more) x → ((text ≡ x) ⊎ Contains more x → Contains (put_text text more) x) → Contains (by_order o (text ∷ other ∷ more) (other ∷ more) (other ∷ put_text text more)) x
    by Less e (inl same) inner = subst (Contains (text ∷ other ∷ more)) same (contains_here text (other ∷ more))
    by Less e (inr d) inner = contains_there x text (other ∷ more) d
    by Equal e (inl same) inner = subst (Contains (other ∷ more)) (sym (slice_cmp-IsAntisymmetric nat_cmp-IsAntisymmetric text other e) ∙ same) (contains_here other more)
    by Equal e (inr d) inner = d
    by Greater e (inl same) inner = contains_there x other (put_text text more) (inner (inl same))
    by Greater e (inr d) inner = elim (contains_cases x other more d) [
      | inl same ↦ subst (Contains (other ∷ put_text text more)) same (contains_here other (put_text text more))
      | inr later ↦ contains_there x other (put_text text more) (inner (inr later))
    ]

pub put_ascending : (text : List ℕ) (more : List (List ℕ)) → Ascending more → Ascending (put_text text more)
put_ascending text [] up = ((λ x c. absurd (contains_none x c)), tt)
put_ascending text (other ∷ more) up = by (slice_cmp nat_cmp text other) refl (put_ascending text more up.1)
  where
    by : (o : Ordering) → slice_cmp nat_cmp text other ≡ o → Ascending (put_text text more) → Ascending (by_order o (text ∷ other ∷ more) (other ∷ more) (other ∷ put_text text more))
    by Less e inner = ((λ x c. elim (contains_cases x other more c) [ inl same ↦ subst (Before text) same e | inr later ↦ after_trans text other x e (up.0 x later) ]), up)
    by Equal e inner = up
    by Greater e inner = (
      (λ x c. elim (put_either text more x c) [
        | inl same ↦ subst (Before other) same (nat_list_cmp_total.antisymm other text ∙ ap ordering_reverse e)
        | inr later ↦ up.0 x later
      ]),
      inner,
    )

pub sorted_up : (texts : List (List ℕ)) → Ascending (sorted texts)
sorted_up [] = tt
sorted_up (text ∷ more) = put_ascending text (sorted more) (sorted_up more)

pub sorted_from : (texts : List (List ℕ)) (x : List ℕ) → Contains (sorted texts) x → Contains texts x
sorted_from [] x c = c
sorted_from (text ∷ more) x c = elim (put_either text (sorted more) x c) [
  | inl same ↦ subst (Contains (text ∷ more)) same (contains_here text more)
  | inr later ↦ contains_there x text more (sorted_from more x later)
]

pub sorted_all : (texts : List (List ℕ)) (x : List ℕ) → Contains texts x → Contains (sorted texts) x
sorted_all [] x c = c
sorted_all (text ∷ more) x c = put_there text (sorted more) x (elim (contains_cases x text more c) [
  | inl same ↦ inl same
  | inr later ↦ inr (sorted_all more x later)
])

-- ---- the other way round

reverse_more : (x : List ℕ) (xs : List (List ℕ)) → reverse (x ∷ xs) ≡ reverse xs ++ x ∷ []
reverse_more x xs = reverse-append (x ∷ []) xs

pub reversed_from : (xs : List (List ℕ)) (q : List ℕ) → Contains (reverse xs) q → Contains xs q
reversed_from [] q c = c
reversed_from (first ∷ xs) q c = elim (Contains-append_cases (reverse xs) (first ∷ []) q (subst (λ rs. Contains rs q) (reverse_more first xs) c)) [
  | inl later ↦ contains_there q first xs (reversed_from xs q later)
  | inr last ↦ elim (contains_cases q first [] last) [
    | inl same ↦ subst (Contains (first ∷ xs)) same (contains_here first xs)
    | inr none ↦ absurd (contains_none q none)
  ]
]

pub reversed_all : (xs : List (List ℕ)) (q : List ℕ) → Contains xs q → Contains (reverse xs) q
reversed_all [] q c = c
reversed_all (first ∷ xs) q c = subst (λ rs. Contains rs q) (sym (reverse_more first xs)) (elim (contains_cases q first xs c) [
  | inl same ↦ Contains-append_right (reverse xs) (first ∷ []) q (subst (Contains (first ∷ [])) same (contains_here first []))
  | inr later ↦ Contains-append_left (reverse xs) (first ∷ []) q (reversed_all xs q later)
])

down_last : (xs : List (List ℕ)) (x : List ℕ) → Descending xs → ((q : List ℕ) → Contains xs q → Before x q) → Descending (xs ++ x ∷ [])
down_last [] x down below = ((λ q c. absurd (contains_none q c)), tt)
down_last (first ∷ xs) x down below = (
  (λ q c. elim (Contains-append_cases xs (x ∷ []) q c) [
    | inl inside ↦ down.0 q inside
    | inr last ↦ elim (contains_cases q x [] last) [
      | inl same ↦ subst (λ r. Before r first) same (below first (contains_here first xs))
      | inr none ↦ absurd (contains_none q none)
    ]
  ]),
  down_last xs x down.1 (λ q c. below q (contains_there q first xs c)),
)

pub reversed_down : (xs : List (List ℕ)) → Ascending xs → Descending (reverse xs)
reversed_down [] up = tt
reversed_down (first ∷ xs) up = subst Descending (sym (reverse_more first xs)) (down_last (reverse xs) first (reversed_down xs up.1) (λ q c. up.0 q (reversed_from xs q c)))

-- ---- the needs for one specifier

module _ (needs : List Need) (asked : List ℕ) where
  asking_from : (ns : List Need) (need : Need) → Contains (asking ns asked) need → Contains ns need × (need.asked ≡ asked)
  asking_from [] need c = absurd (contains_none need c)
  asking_from (first ∷ ns) need c = elim (cases_Bool (bytes_eq first.asked asked)) [
    | inr f ↦ let r = asking_from ns need (subst (λ xs. Contains xs need) (cond-false _ (first ∷ asking ns asked) (asking ns asked) f) c) in (contains_there need first ns r.0, r.1)
    | inl t ↦ elim (contains_cases need first (asking ns asked) (subst (λ xs. Contains xs need) (cond-true _ (first ∷ asking ns asked) (asking ns asked) t) c)) [
      | inl same ↦ (subst (Contains (first ∷ ns)) same (contains_here first ns), ap (λ (n : Need). n.asked) (sym same) ∙ (bytes_eq-Decides first.asked asked).0 t)
      | inr later ↦ let r = asking_from ns need later in (contains_there need first ns r.0, r.1)
    ]
  ]

  asking_all : (ns : List Need) (need : Need) → Contains ns need → need.asked ≡ asked → Contains (asking ns asked) need
  asking_all [] need c e = c
  asking_all (first ∷ ns) need c e = elim (cases_Bool (bytes_eq first.asked asked)) [
    | inl t ↦ subst (λ xs. Contains xs need) (sym (cond-true _ (first ∷ asking ns asked) (asking ns asked) t)) (elim (contains_cases need first ns c) [
      | inl same ↦ subst (Contains (first ∷ asking ns asked)) same (contains_here first (asking ns asked))
      | inr later ↦ contains_there need first (asking ns asked) (asking_all ns need later e)
    ])
    | inr f ↦ subst (λ xs. Contains xs need) (sym (cond-false _ (first ∷ asking ns asked) (asking ns asked) f)) (elim (contains_cases need first ns c) [
      | inl same ↦ absurd (true≢false (sym ((bytes_eq-Decides first.asked asked).1 (ap (λ (n : Need). n.asked) same ∙ e)) ∙ f))
      | inr later ↦ asking_all ns need later e
    ])
  ]

  abbrev all_places : List (List ℕ)
  all_places = flat_map (λ (need : Need). places need.referrer) (asking needs asked)

  pub places_are : ArePlaces needs asked (places_for needs asked)
  places_are = record {
    down = reversed_down (sorted all_places) (sorted_up all_places);
    all = λ need p c e at. reversed_all (sorted all_places) p (sorted_all all_places p (contains_flat (λ (need : Need). places need.referrer) need p (asking needs asked) (asking_all needs need c e) at));
    only = λ p c. by p (flat_from (λ (need : Need). places need.referrer) p (asking needs asked) (sorted_from all_places p (reversed_from (sorted all_places) p c)));
  }
    where
      by : (p : List ℕ) → FlatFrom (λ (need : Need). places need.referrer) (asking needs asked) p → (need : Need) × IsUnder needs asked p need
      by p f = let r = asking_from needs f.item f.is_item in (f.item, record { is_need = r.0; asks = r.1; under = f.holds })

  targets_from : (ns : List Need) (need : Need) → Contains ns need → Contains (map (λ (n : Need). n.target) ns) need.target
  targets_from [] need c = absurd (contains_none need c)
  targets_from (first ∷ ns) need c = elim (contains_cases need first ns c) [
    | inl same ↦ subst (λ (n : Need). Contains (map (λ (n : Need). n.target) (first ∷ ns)) n.target) same (contains_here first.target (map (λ (n : Need). n.target) ns))
    | inr later ↦ contains_there need.target first.target (map (λ (n : Need). n.target) ns) (targets_from ns need later)
  ]

  abbrev all_targets : List (List ℕ)
  all_targets = asked ∷ map (λ (need : Need). need.target) (asking needs asked)

  pub wish_is : IsWishOf needs asked (wish_of needs asked)
  wish_is = record {
    asked_is = refl;
    sorted = sorted_up all_targets;
    itself = sorted_all all_targets asked (contains_here asked (map (λ (need : Need). need.target) (asking needs asked)));
    targets = λ need c e. sorted_all all_targets need.target (contains_there need.target asked (map (λ (need : Need). need.target) (asking needs asked)) (targets_from (asking needs asked) need (asking_all needs need c e)));
    fits = λ place value. (
      (λ t need a. elim (or_cases (not (bytes_eq need.referrer place)) (bytes_eq need.target value) (all_at (test place value) (asking needs asked) need t (asking_all needs need a.is_need a.asks))) [
        | inl n ↦ absurd (true≢false (sym n ∙ ap not ((bytes_eq-Decides need.referrer place).1 a.at)))
        | inr e ↦ (bytes_eq-Decides need.target value).0 e
      ]),
      (λ all. all_from (test place value) (asking needs asked) (λ need c. let r = asking_from needs need c in elim (cases_Bool (bytes_eq need.referrer place)) [
        | inr f ↦ or_left (not (bytes_eq need.referrer place)) (bytes_eq need.target value) (not_from_false _ f)
        | inl t ↦ or_right (not (bytes_eq need.referrer place)) (bytes_eq need.target value) ((bytes_eq-Decides need.target value).1 (all need (record { is_need = r.0; asks = r.1; at = (bytes_eq-Decides need.referrer place).0 t })))
      ])),
    );
  }
    where
      test : List ℕ → List ℕ → Need → Bool
      test place value need = not (bytes_eq need.referrer place) || bytes_eq need.target value

  target_from : (ns : List Need) (t : List ℕ) → Contains (map (λ (n : Need). n.target) ns) t → (need : Need) × Contains ns need × (need.target ≡ t)
  target_from [] t c = absurd (contains_none t c)
  target_from (first ∷ ns) t c = elim (contains_cases t first.target (map (λ (n : Need). n.target) ns) c) [
    | inl same ↦ (first, contains_here first ns, same)
    | inr later ↦ let r = target_from ns t later in (r.0, contains_there r.0 first ns r.1, r.2)
  ]

  pub targets_are : AreTargets needs asked (targets_for needs asked)
  targets_are = record {
    up = sorted_up (map (λ (n : Need). n.target) (asking needs asked));
    all = λ need c e. sorted_all (map (λ (n : Need). n.target) (asking needs asked)) need.target (targets_from (asking needs asked) need (asking_all needs need c e));
    only = λ t c.
        let found = target_from (asking needs asked) t (sorted_from (map (λ (n : Need). n.target) (asking needs asked)) t c) in
        let r = asking_from needs found.0 found.1 in
        (found.0, r.0, r.1, found.2);
  }

  pub some_fewest : NoClash needs → IsFewest needs asked (choice_of needs asked)
  some_fewest no_clash = chosen_fewest needs asked (places_for needs asked) (wish_of needs asked) no_clash places_are wish_is

-- ---- as a list

pub chosen_within : (wish : Wish) (ps : List (List ℕ)) (weights : Weights) (q t : List ℕ) → get (chosen wish ps weights) q ≡ Some t → Contains ps q
chosen_within wish [] weights q t e = absurd (none-some t (sym (get_nowhere q) ∙ e))
chosen_within wish (p ∷ ps) weights q t e =
    let before = chosen wish ps (reduced wish p weights) in
    by (is_best wish weights p (from_above (get before) wish.asked p)) e (chosen_within wish ps (reduced wish p weights) q t)
  where
    by : (b : Bool) → get (cond b (chosen wish ps (reduced wish p weights)) (insert (chosen wish ps (reduced wish p weights)) p (first_best wish weights p))) q ≡ Some t
        → (get (chosen wish ps (reduced wish p weights)) q ≡ Some t → Contains ps q) → Contains (p ∷ ps) q
    by true e inner = contains_there q p ps (inner e)
    by false e inner = elim (put_cases (chosen wish ps (reduced wish p weights)) p (first_best wish weights p) q t e) [
      | inl same ↦ subst (Contains (p ∷ ps)) same (contains_here p ps)
      | inr later ↦ contains_there q p ps (inner later)
    ]

pub chosen_picked : (wish : Wish) (ps : List (List ℕ)) (weights : Weights) → Descending ps → chosen wish ps weights ≡ from_entries (picked wish ps weights)
chosen_picked wish [] weights down = refl
chosen_picked wish (p ∷ ps) weights down =
    let lower = reduced wish p weights in
    let es = picked wish ps lower in
    let rest : chosen wish ps lower ≡ from_entries es = chosen_picked wish ps lower down.1 in
    let looks : (q : List ℕ) → get (chosen wish ps lower) q ≡ find (slice_cmp nat_cmp) q es = λ q. ap (λ (c : Choice). get c q) rest ∙ get-from_entries nat_list_cmp_total es q in
    let absent : find (slice_cmp nat_cmp) p es ≡ None = sym (looks p) ∙ unheld (chosen wish ps lower) (chosen_within wish ps lower p) in
    let from : from_above (get (chosen wish ps lower)) wish.asked p ≡ unwrap_or (first_of (λ q. find (slice_cmp nat_cmp) q es) (above p)) wish.asked =
    ap (λ o. unwrap_or o wish.asked) (same_first (get (chosen wish ps lower)) (λ q. find (slice_cmp nat_cmp) q es) (above p) (λ q c. looks q)) in
    (λ i. cond (is_best wish weights p (from i)) (rest i) (insert (rest i) p (first_best wish weights p)))
    ∙ by (is_best wish weights p (unwrap_or (first_of (λ q. find (slice_cmp nat_cmp) q es) (above p)) wish.asked)) (from_entries_push nat_list_cmp_total (slice_cmp-IsAntisymmetric nat_cmp-IsAntisymmetric) es p (first_best wish weights p) absent)
  where
    unheld : (c : Choice) → ((t : List ℕ) → get c p ≡ Some t → Contains ps p) → get c p ≡ None
    unheld c within = elim (cases_option (get c p)) [
      | inl none ↦ none
      | inr some ↦ absurd (never_itself p (down.0 p (within some.0 some.1)))
    ]

    by : (b : Bool) → from_entries {R = slice_cmp nat_cmp} (picked wish ps (reduced wish p weights) ++ (p, first_best wish weights p) ∷ []) ≡ insert (from_entries {R = slice_cmp nat_cmp} (picked wish ps (reduced wish p weights))) p (first_best wish weights p)
        → cond b (from_entries {R = slice_cmp nat_cmp} (picked wish ps (reduced wish p weights))) (insert (from_entries {R = slice_cmp nat_cmp} (picked wish ps (reduced wish p weights))) p (first_best wish weights p)) ≡ from_entries {R = slice_cmp nat_cmp} (cond b (picked wish ps (reduced wish p weights)) (picked wish ps (reduced wish p weights) ++ (p, first_best wish weights p) ∷ []))
    by true e = refl
    by false e = sym e

-- the choice is that of these mappings
pub fewest_picked : (needs : List Need) (asked : List ℕ) (es : List (List ℕ × List ℕ)) → NoClash needs → picked (wish_of needs asked) (places_for needs asked) no_weight ≡ es → IsFewest needs asked (from_entries es)
fewest_picked needs asked es no_clash e =
    subst (IsFewest needs asked) (chosen_picked (wish_of needs asked) (places_for needs asked) no_weight (places_are needs asked).down ∙ ap (λ xs. from_entries xs) e) (some_fewest needs asked no_clash)
