-- From the first place to the last each takes what then costs least.
use Rattle.std.proofs.Common.{refl, sym, ap, ◌∙◌, subst, arith}
use Rattle.std.proofs.lemmas.Bool.{cases_Bool, cond-true, cond-false, true≢false}
use Rattle.std.proofs.lemmas.List.{take_more, drop_all, take_all, map_push, same_from_push, length_push, reverse-append, length-map, length-reverse, length-drop}
use Rattle.std.proofs.lemmas.Option.{same_Some, none-some, slice_get-map, slice_get_within, get_or_from_slice_get}
use Rattle.std.proofs.lemmas.List.Elements.{Contains-append_cases}
use Rattle.std.specs.FinMap.{get, insert, empty}
use Rattle.std.specs.List.{find}
use Rattle.std.specs.Prelude.{◌≡◌, ◌⊎◌, ℕ, zero, suc, ◌≤◌, ◌+◌, ◌==◌, Bool, true, false, cond, List, [], ◌∷◌, ◌++◌, Option, Some, None, map, take, drop, reverse, length, slice_get, option_map, unwrap_or, Contains}
use mathlib.Core.Logic.{inl, inr}
use Rattle.import_map_spec.proofs.Entries.{same_key, same_key_is, same_key_itself, get_inserted, get_nowhere, cases_option}
use Rattle.import_map_spec.specs.ParsedMap.{Addresses, ParsedMap}
use Rattle.layout_spec.proofs.Contained.{contains_here, contains_there, contains_at, contains_cases, contains_none}
use Rattle.layout_spec.specs.PutMappings.{mapped_at}
use Rattle.layout_spec.specs.Serving.{addresses_at, held, IsTidy}
use Rattle.fewest_spec.specs.Choosing.{Wish, Weights, no_weight, is_best, penalty, reduced, from_above, first_best, settled, chosen}
use Rattle.fewest_spec.specs.Fewest.{Choice, value_by, Before}
use Rattle.fewest_spec.specs.Wishes.{Ascending}
use Rattle.fewest_spec.proofs.Orders.{never_itself}
use Rattle.fewest_spec.proofs.Values.{value_step, from_top, from_next, get_here, put_cases, value_before}
use Rattle.fewest_spec.proofs.Weighing.{IsWish, IsWide, some_best, best_from, reduced_wide}
use Rattle.layout.specs.Choices.{first_free, free_or, choice_at, IsLaid, number_from, IsLaidAt, IsAskedFor}
use Rattle.layout.specs.Settled.{weights_of, settled_row, settled_rows}
use Rattle.place_nodes.specs.Nodes.{IsAbove, places_of, AreNodes}
use Rattle.place_nodes.specs.declared.nodes.Node.{Node}
use Rattle.layout.proofs.Settling.{drop_at, reverse_more}

-- ---- what is chosen is held at these places alone

pub chosen_within : (wish : Wish) (ps : List (List ℕ)) (weights : Weights) (q t : List ℕ) → get (chosen wish ps weights) q ≡ Some t → Contains ps q
chosen_within wish [] weights q t e = absurd (none-some t (sym (get_nowhere q) ∙ e))
chosen_within wish (p ∷ ps) weights q t e =
    let before = chosen wish ps (reduced wish p weights) in
    by (is_best wish weights p (from_above (get before) wish.asked p)) e (chosen_within wish ps (reduced wish p weights) q t)
  where
    by : (b : Bool) → get (cond b (chosen wish ps (reduced wish p weights)) (insert (chosen wish ps (reduced wish p weights)) p (first_best wish weights p))) q ≡ Some t
        → (get (chosen wish ps (reduced wish p weights)) q ≡ Some t → Contains ps q) → Contains (p ∷ ps) q
    by true e inner = contains_there q p ps (inner e)
    by false e inner = elim (put_cases (chosen wish ps (reduced wish p weights)) p (first_best wish weights p) q t e) [
      | inl same ↦ subst (Contains (p ∷ ps)) same (contains_here p ps)
      | inr later ↦ contains_there q p ps (inner later)
    ]

pub weights_wide : (wish : Wish) → IsWish wish → (ps : List (List ℕ)) → IsWide wish (weights_of wish ps)
weights_wide wish is [] = λ place value t c n. omega arith
weights_wide wish is (p ∷ ps) = reduced_wide wish is (weights_of wish ps) (weights_wide wish is ps) p

-- ---- numbers

module _ (wish : Wish) (weights : Weights) (place : List ℕ) where
  penalty_at : (t : List ℕ) → (penalty wish weights place t == 0) ≡ is_best wish weights place t
  penalty_at t = by (is_best wish weights place t)
    where
      by : (b : Bool) → (cond b 0 1 == 0) ≡ b
      by true = refl
      by false = refl

  -- the first that costs nothing is the first best one
  first_found : (ts : List (List ℕ)) (d t : List ℕ) → Contains ts t → is_best wish weights place t ≡ true → slice_get ts (first_free (map (penalty wish weights place) ts)) ≡ Some (unwrap_or (find (is_best wish weights place) ts) d)
  first_found [] d t c e = absurd (contains_none t c)
  first_found (first ∷ ts) d t c e = elim (cases_Bool (is_best wish weights place first)) [
    | inl best ↦
        let zero_at : first_free (map (penalty wish weights place) (first ∷ ts)) ≡ 0 = cond-true _ 0 (first_free (map (penalty wish weights place) ts) + 1) (penalty_at first ∙ best) in
        let found : find (is_best wish weights place) (first ∷ ts) ≡ Some first = cond-true _ (Some first) (find (is_best wish weights place) ts) best in
        ap (slice_get (first ∷ ts)) zero_at ∙ ap (λ o. Some (unwrap_or o d)) (sym found)
    | inr other ↦
        let later : Contains ts t = elim (contains_cases t first ts c) [
          | inl same ↦ absurd (true≢false (sym (subst (λ s. is_best wish weights place s ≡ true) (sym same) e) ∙ other))
          | inr at ↦ at
        ] in
        let more : first_free (map (penalty wish weights place) (first ∷ ts)) ≡ suc (first_free (map (penalty wish weights place) ts)) =
        cond-false _ 0 (first_free (map (penalty wish weights place) ts) + 1) (penalty_at first ∙ other) ∙ omega arith in
        let found : find (is_best wish weights place) (first ∷ ts) ≡ find (is_best wish weights place) ts = cond-false _ (Some first) (find (is_best wish weights place) ts) other in
        ap (slice_get (first ∷ ts)) more ∙ (first_found ts d t later e ∙ ap (λ o. Some (unwrap_or o d)) (sym found))
  ]

  -- what comes from above, by its number
  choice_is : (from : ℕ) (x : List ℕ) → slice_get wish.targets from ≡ Some x → (is_best wish weights place x ≡ true → choice_at (settled_row wish weights place) from ≡ None)
      × (is_best wish weights place x ≡ false → choice_at (settled_row wish weights place) from ≡ Some (first_free (settled_row wish weights place)))
  choice_is from x e = (
    (λ t. row_at ∙ cond-true _ None (Some (first_free (settled_row wish weights place))) (penalty_at x ∙ t)),
    (λ f. row_at ∙ cond-false _ None (Some (first_free (settled_row wish weights place))) (penalty_at x ∙ f)),
  )
    where
      row_at : choice_at (settled_row wish weights place) from ≡ cond (penalty wish weights place x == 0) None (Some (first_free (settled_row wish weights place)))
      row_at = ap (λ o. free_or o (settled_row wish weights place)) (slice_get-map (penalty wish weights place) wish.targets from ∙ ap (option_map (penalty wish weights place)) e)

-- ---- a mapping more

module _ (m : ParsedMap) (asked target q : List ℕ) where
  held_here : (place : List ℕ) → held (mapped_at place asked target m) q place ≡ cond (same_key q asked) (Some (Some target)) (held m q place)
  held_here [] = get_inserted m.imports asked (Some target) q
  held_here (b ∷ rest) =
      ap (λ (o : Option Addresses). get (unwrap_or o empty) q) (get_inserted m.scopes (b ∷ rest) (insert (addresses_at m (b ∷ rest)) asked (Some target)) (b ∷ rest) ∙ cond-true _ _ _ (same_key_itself (b ∷ rest)))
      ∙ get_inserted (addresses_at m (b ∷ rest)) asked (Some target) q

  held_elsewhere : (place other : List ℕ) → same_key other place ≡ false → held (mapped_at place asked target m) q other ≡ held m q other
  held_elsewhere [] [] apart = absurd (let same = same_key_itself [] in cc)
  held_elsewhere [] (c ∷ more) apart = refl
  held_elsewhere (b ∷ rest) [] apart = refl
  held_elsewhere (b ∷ rest) (c ∷ more) apart = ap (λ (o : Option Addresses). get (unwrap_or o empty) q) (get_inserted m.scopes (b ∷ rest) (insert (addresses_at m (b ∷ rest)) asked (Some target)) (c ∷ more) ∙ cond-false _ _ _ apart)

tidy_with : (place asked target : List ℕ) (m : ParsedMap) → IsTidy m → IsTidy (mapped_at place asked target m)
tidy_with [] asked target m tidy = record { no_top = tidy.no_top; some = tidy.some }
tidy_with (b ∷ rest) asked target m tidy =
    let grown : Addresses = insert (addresses_at m (b ∷ rest)) asked (Some target) in
    record {
      no_top = get_inserted m.scopes (b ∷ rest) grown [] ∙ tidy.no_top;
      some = λ key scope e. elim (cases_Bool (same_key key (b ∷ rest))) [
        | inl same ↦ (asked, Some target, ap (λ (s : Addresses). get s asked) (sym (same_Some _ _ (sym (get_inserted m.scopes (b ∷ rest) grown key ∙ cond-true _ _ _ same) ∙ e))) ∙ (get_inserted (addresses_at m (b ∷ rest)) asked (Some target) asked ∙ cond-true _ _ _ (same_key_itself asked)))
        | inr apart ↦ tidy.some key scope (sym (get_inserted m.scopes (b ∷ rest) grown key ∙ cond-false _ _ _ apart) ∙ e)
      ];
    }

same_digests : (place asked target : List ℕ) (m : ParsedMap) → (mapped_at place asked target m).integrity ≡ m.integrity
same_digests [] asked target m = refl
same_digests (b ∷ rest) asked target m = refl

not_key : (a b : List ℕ) → (a ≡ b → ⊥) → same_key a b ≡ false
not_key a b n = elim (cases_Bool (same_key a b)) [
  | inl t ↦ absurd (n (same_key_is a b t))
  | inr f ↦ f
]

pub laid_none : (before : ParsedMap) (asked : List ℕ) → IsLaid before asked empty before
laid_none before asked = record {
  tidy = λ t. t;
  digests = refl;
  others = λ other place n. refl;
  holds = λ place none. none place ∙ ap (option_map Some) (sym (get_nowhere place));
}

pub laid_more : (before : ParsedMap) (asked : List ℕ) (choice : Choice) (m : ParsedMap) (place target : List ℕ) → IsLaid before asked choice m → IsLaid before asked (insert choice place target) (mapped_at place asked target m)
laid_more before asked choice m place target l = record {
  tidy = λ t. tidy_with place asked target m (l.tidy t);
  digests = same_digests place asked target m ∙ l.digests;
  others = λ other p n. elim (cases_Bool (same_key p place)) [
    | inr apart ↦ held_elsewhere m asked target other place p apart ∙ l.others other p n
    | inl same ↦
        let is = same_key_is p place same in
        ap (held (mapped_at place asked target m) other) is ∙ (held_here m asked target other place ∙ (cond-false _ _ _ (not_key other asked n) ∙ (ap (held m other) (sym is) ∙ l.others other p n)))
  ];
  holds = λ p none. elim (cases_Bool (same_key p place)) [
    | inr apart ↦ held_elsewhere m asked target asked place p apart ∙ (l.holds p none ∙ ap (option_map Some) (sym (get_inserted choice place target p ∙ cond-false _ _ _ apart)))
    | inl same ↦
        let is = same_key_is p place same in
        ap (held (mapped_at place asked target m) asked) is ∙ (held_here m asked target asked place ∙ (cond-true _ _ _ (same_key_itself asked) ∙ ap (option_map Some) (sym (get_inserted choice place target p ∙ cond-true _ _ _ same))))
  ];
}

-- ---- the loop

abbrev pub so_far : Wish → List (List ℕ) → ℕ → Choice
so_far wish ps n = chosen wish (reverse (take n ps)) (weights_of wish (drop n ps))

abbrev value_of : Wish → Choice → List ℕ → Option (List ℕ)
value_of wish choice p = Some (value_by (get choice) wish.asked p)

pub record Chooses (wish : Wish) (nodes : List Node) (asked : List ℕ) (before : ParsedMap) (values : List ℕ) (left : List (List ℕ)) (m : ParsedMap) : Type 0 where
  pub left_is : left ≡ reverse (settled_rows wish (drop (length values) (places_of nodes)))
  pub values_are : map (slice_get wish.targets) values ≡ map (value_of wish (so_far wish (places_of nodes) (length values))) (take (length values) (places_of nodes))
  pub laid_is : IsLaid before asked (so_far wish (places_of nodes) (length values)) m

abbrev pub AllChoose : List Node → List ℕ → List (List ℕ) → ℕ → List (List ℕ) → ParsedMap → List ℕ → List (List ℕ) → ParsedMap → Type 0
AllChoose nodes asked targets own rows before values left m =
    (wish : Wish) → IsAskedFor wish asked targets own → AreNodes wish nodes → rows ≡ reverse (settled_rows wish (places_of nodes)) → Chooses wish nodes asked before values left m

pub none_chosen : (nodes : List Node) (asked : List ℕ) (targets : List (List ℕ)) (own : ℕ) (rows : List (List ℕ)) (before : ParsedMap) (values : List ℕ) → values ≡ [] → AllChoose nodes asked targets own rows before values rows before
none_chosen nodes asked targets own rows before values none wish for are is =
    subst (λ vs. Chooses wish nodes asked before vs rows before) (sym none) (record { left_is = is; values_are = refl; laid_is = laid_none before asked })

ascending_at : (qs : List (List ℕ)) (i : ℕ) (p q : List ℕ) → Ascending qs → slice_get qs i ≡ Some p → Contains (take i qs) q → Before q p
ascending_at [] i p q up s c = absurd (none-some p s)
ascending_at (first ∷ qs) zero p q up s c = absurd (contains_none q c)
ascending_at (first ∷ qs) (suc i) p q up s c = elim (contains_cases q first (take i qs) c) [
  | inl same ↦ subst (λ r. Before r p) same (up.0 p (contains_at qs i p s))
  | inr later ↦ ascending_at qs i p q up.1 s later
]

in_reversed : (qs : List (List ℕ)) (q : List ℕ) → Contains (reverse qs) q → Contains qs q
in_reversed [] q c = absurd (contains_none q c)
in_reversed (first ∷ qs) q c = elim (Contains-append_cases (reverse qs) (first ∷ []) q (subst (λ rs. Contains rs q) (reverse_more (List ℕ) first qs) c)) [
  | inl later ↦ contains_there q first qs (in_reversed qs q later)
  | inr last ↦ elim (contains_cases q first [] last) [
    | inl same ↦ subst (Contains (first ∷ qs)) same (contains_here first qs)
    | inr none ↦ absurd (contains_none q none)
  ]
]

same_values : (f g : List ℕ → Option (List ℕ)) (qs : List (List ℕ)) → ((q : List ℕ) → Contains qs q → f q ≡ g q) → map f qs ≡ map g qs
same_values f g [] same = refl
same_values f g (q ∷ qs) same = λ i. same q (contains_here q qs) i ∷ same_values f g qs (λ p c. same p (contains_there p q qs c)) i

take_at_more : (ps : List (List ℕ)) (i : ℕ) (p : List ℕ) → slice_get ps i ≡ Some p → take (i + 1) ps ≡ take i ps ++ p ∷ []
take_at_more ps i p s = take_more ps i p (slice_get_within ps i p s) ∙ ap (λ q. take i ps ++ q ∷ []) (get_or_from_slice_get ps i p p s)

module _ (wish : Wish) (nodes : List Node) (asked : List ℕ) (targets : List (List ℕ)) (own : ℕ) (before : ParsedMap) (for : IsAskedFor wish asked targets own) (are : AreNodes wish nodes)
    (values : List ℕ) (was front : List (List ℕ)) (row : List ℕ) (m after : ParsedMap) (node : Node) (value : ℕ) (s : Chooses wish nodes asked before values was m) (popped : was ≡ front ++ row ∷ []) (at : slice_get nodes (length values) ≡ Some node)
    (laid : IsLaidAt (choice_at row (number_from values node.above own)) targets (number_from values node.above own) node.place asked m after value) where
  abbrev ps : List (List ℕ)
  ps = places_of nodes

  abbrev i : ℕ
  i = length values

  abbrev p : List ℕ
  p = node.place

  abbrev w : Weights
  w = weights_of wish (drop (i + 1) ps)

  abbrev c : Choice
  c = so_far wish ps i

  abbrev x : List ℕ
  x = from_above (get c) wish.asked p

  abbrev from : ℕ
  from = number_from values node.above own

  here : slice_get ps i ≡ Some p
  here = slice_get-map (λ (node : Node). node.place) nodes i ∙ ap (option_map (λ (node : Node). node.place)) at

  next : drop i ps ≡ p ∷ drop (i + 1) ps
  next = drop_at (List ℕ) ps i p here

  rows_are : (front ≡ reverse (settled_rows wish (drop (i + 1) ps))) × (row ≡ settled_row wish w p)
  rows_are = same_from_push front (reverse (settled_rows wish (drop (i + 1) ps))) row (settled_row wish w p)
      (sym popped ∙ (s.left_is ∙ (ap (λ qs. reverse (settled_rows wish qs)) next ∙ reverse_more (List ℕ) (settled_row wish w p) (settled_rows wish (drop (i + 1) ps)))))

  after_one : so_far wish ps (i + 1) ≡ settled wish w p c
  after_one =
      ap (λ qs. chosen wish qs w) (ap reverse (take_at_more ps i p here) ∙ reverse-append (take i ps) (p ∷ []))
      ∙ ap (λ v. settled wish w p (chosen wish (reverse (take i ps)) v)) (sym (ap (weights_of wish) next))

  unheld : get c p ≡ None
  unheld = elim (cases_option (get c p)) [
    | inl none ↦ none
    | inr some ↦ absurd (never_itself p (ascending_at ps i p p are.sorted here (in_reversed (take i ps) p (chosen_within wish (reverse (take i ps)) (weights_of wish (drop i ps)) p some.0 some.1))))
  ]

  from_is : slice_get wish.targets from ≡ Some x
  from_is = by node.above (are.above i node at)
    where
      by : (o : Option ℕ) → IsAbove (take i ps) p o → slice_get wish.targets (number_from values o own) ≡ Some x
      by None none = ap (λ ts. slice_get ts own) for.targets_are ∙ (for.own_is ∙ ap Some (sym (from_top (get c) wish.asked p none ∙ for.asked_is)))
      by (Some above) up = at_number (slice_get values above) refl
        where
          both : option_map (slice_get wish.targets) (slice_get values above) ≡ Some (value_of wish c up.0)
          both = sym (slice_get-map (slice_get wish.targets) values above) ∙ (ap (λ os. slice_get os above) s.values_are ∙ (slice_get-map (value_of wish c) (take i ps) above ∙ ap (option_map (value_of wish c)) up.2))

          at_number : (o : Option ℕ) → slice_get values above ≡ o → slice_get wish.targets (unwrap_or (slice_get values above) own) ≡ Some x
          at_number None e = absurd (none-some _ (sym (ap (option_map (slice_get wish.targets)) e) ∙ both))
          at_number (Some number) e =
              ap (λ o. slice_get wish.targets (unwrap_or o own)) e
              ∙ (same_Some _ _ (sym (ap (option_map (slice_get wish.targets)) e) ∙ both) ∙ ap Some (sym (from_next (get c) wish.asked p up.0 up.1)))

  choice_row : choice_at row from ≡ choice_at (settled_row wish w p) from
  choice_row = ap (λ r. choice_at r from) rows_are.1

  put_together : (new : Choice) → so_far wish ps (i + 1) ≡ new → ((q : List ℕ) → Contains (take i ps) q → value_by (get new) wish.asked q ≡ value_by (get c) wish.asked q) → slice_get wish.targets value ≡ Some (value_by (get new) wish.asked p) → IsLaid before asked new after
      → Chooses wish nodes asked before (values ++ value ∷ []) front after
  put_together new is same own_value is_laid =
      let count : length (values ++ value ∷ []) ≡ i + 1 = length_push values value in
      record {
        left_is = rows_are.0 ∙ ap (λ n. reverse (settled_rows wish (drop n ps))) (sym count);
        values_are =
            map_push (slice_get wish.targets) values value
            ∙ ((λ j. (s.values_are ∙ same_values (value_of wish c) (value_of wish new) (take i ps) (λ q at. ap Some (sym (same q at)))) j ++ own_value j ∷ [])
            ∙ (sym (map_push (value_of wish new) (take i ps) p) ∙ (ap (map (value_of wish new)) (sym (take_at_more ps i p here)) ∙ (λ j. map (value_of wish (sym is j)) (take (i + 1) ps)) ∙ ap (λ n. map (value_of wish (so_far wish ps n)) (take n ps)) (sym count))));
        laid_is = subst (λ n. IsLaid before asked (so_far wish ps n) after) (sym count) (subst (λ k. IsLaid before asked k after) (sym is) is_laid);
      }

  -- what comes from above is best
  stays : is_best wish w p x ≡ true → Chooses wish nodes asked before (values ++ value ∷ []) front after
  stays best =
      let kept = laid.kept (choice_row ∙ (choice_is wish w p from x from_is).0 best) in
      let value_here : value_by (get c) wish.asked p ≡ x = value_step (get c) wish.asked p ∙ ap (λ o. unwrap_or o x) unheld in
      put_together c (after_one ∙ cond-true _ c (insert c p (first_best wish w p)) best) (λ q at. refl)
      (ap (slice_get wish.targets) kept.0 ∙ (from_is ∙ ap Some (sym value_here)))
      (subst (IsLaid before asked c) (sym kept.1) s.laid_is)

  -- or another is taken
  changes : is_best wish w p x ≡ false → Chooses wish nodes asked before (values ++ value ∷ []) front after
  changes other =
      let b = first_best wish w p in
      let some = some_best wish for.is_wish w (weights_wide wish for.is_wish (drop (i + 1) ps)) p in
      let number = first_free (settled_row wish w p) in
      let found : slice_get wish.targets number ≡ Some b = first_found wish w p wish.targets wish.asked some.0 some.1 (best_from wish w p some.0 some.2) in
      let put = laid.put number b (choice_row ∙ (choice_is wish w p from x from_is).1 other) (ap (λ ts. slice_get ts number) (sym for.targets_are) ∙ found) in
      let value_here : value_by (get (insert c p b)) wish.asked p ≡ b = value_step (get (insert c p b)) wish.asked p ∙ ap (λ o. unwrap_or o (from_above (get (insert c p b)) wish.asked p)) (get_here c p b) in
      put_together (insert c p b) (after_one ∙ cond-false _ c (insert c p b) other) (λ q at. value_before c wish.asked p b q (ascending_at ps i p q are.sorted here at))
      (ap (slice_get wish.targets) put.0 ∙ (found ∙ ap Some (sym value_here)))
      (subst (IsLaid before asked (insert c p b)) (sym put.1) (laid_more before asked c m p b s.laid_is))

  chooses : Chooses wish nodes asked before (values ++ value ∷ []) front after
  chooses = elim (cases_Bool (is_best wish w p x)) [
    | inl best ↦ stays best
    | inr other ↦ changes other
  ]

pub next_chosen : (nodes : List Node) (asked : List ℕ) (targets : List (List ℕ)) (own : ℕ) (rows : List (List ℕ)) (before : ParsedMap) (values more : List ℕ) (was front : List (List ℕ)) (row : List ℕ) (m after : ParsedMap) (node : Node) (count from value : ℕ) (choice : Option ℕ)
    → AllChoose nodes asked targets own rows before values was m → was ≡ front ++ row ∷ [] → count ≡ length values → Some node ≡ slice_get nodes count → from ≡ number_from values node.above own → choice ≡ choice_at row from → IsLaidAt choice targets from node.place asked m after value → more ≡ values ++ value ∷ []
    → AllChoose nodes asked targets own rows before more front after
next_chosen nodes asked targets own rows before values more was front row m after node count from value choice s popped counted found from_is choice_is laid pushed wish for are is =
    subst (λ vs. Chooses wish nodes asked before vs front after) (sym pushed)
    (chooses wish nodes asked targets own before for are values was front row m after node value (s wish for are is) popped (ap (slice_get nodes) (sym counted) ∙ sym found)
    (subst (λ f. IsLaidAt (choice_at row f) targets f node.place asked m after value) from_is (subst (λ o. IsLaidAt o targets from node.place asked m after value) choice_is laid)))

rows_count : (wish : Wish) (qs : List (List ℕ)) → length (settled_rows wish qs) ≡ length qs
rows_count wish [] = refl
rows_count wish (q ∷ qs) = let r = rows_count wish qs in omega (arith, r)

pub all_chosen : (nodes : List Node) (asked : List ℕ) (targets : List (List ℕ)) (own : ℕ) (rows : List (List ℕ)) (before : ParsedMap) (values : List ℕ) (left : List (List ℕ)) (m : ParsedMap) → AllChoose nodes asked targets own rows before values left m → (left ≡ []) ⊎ (length nodes ≤ length values)
    → (wish : Wish) → IsAskedFor wish asked targets own → AreNodes wish nodes → rows ≡ reverse (settled_rows wish (places_of nodes)) → IsLaid before asked (chosen wish (reverse (places_of nodes)) no_weight) m
all_chosen nodes asked targets own rows before values left m s done wish for are is =
    let ps = places_of nodes in
    let one = s wish for are is in
    let past : length ps ≤ length values = elim done [
      | inr past ↦ (let e = length-map nodes (λ (node : Node). node.place) in omega (arith, past, e))
      | inl none ↦ (let e = ap length (sym one.left_is ∙ none) in let r = length-reverse (settled_rows wish (drop (length values) ps)) in let n = rows_count wish (drop (length values) ps) in let d = length-drop (length values) ps in omega (arith, e, r, n, d))
    ] in
    subst (λ k. IsLaid before asked k m) ((λ j. chosen wish (reverse (take_all (length values) ps past j)) (weights_of wish (drop_all (length values) ps past j)))) one.laid_is
