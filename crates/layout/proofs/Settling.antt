-- Places are settled from the last to the first.
use Rattle.std.proofs.Common.{refl, sym, ap, ◌∙◌, subst, arith}
use Rattle.std.proofs.lemmas.Bool.{cases_Bool, cond-true, cond-false}
use Rattle.std.proofs.lemmas.List.{take_more, drop_more, drop_all, take_all, map_push, same_from_push, length_push, reverse-append, length-map, length-replicate, length-set}
use Rattle.std.proofs.lemmas.Option.{same_Some, none-some, slice_get-map, slice_get_within, get_or_from_slice_get}
use Rattle.std.proofs.lemmas.Slice.Eq.{bytes_eq-Decides}
use Rattle.std.specs.Prelude.{◌≡◌, ℕ, zero, suc, ◌<◌, ◌≤◌, ◌+◌, true, false, cond, List, [], ◌∷◌, ◌++◌, Option, Some, None, map, take, drop, set, get_or, reverse, replicate, length, slice_get, option_map, bytes_eq, Contains}
use mathlib.Core.Logic.{inl, inr}
use Rattle.layout_spec.proofs.Contained.{contains_here, contains_there, contains_at, contains_cases, contains_none}
use Rattle.layout_spec.specs.Places.{place_above}
use Rattle.fewest_spec.specs.Choosing.{Wish, Weights, no_weight, penalty, reduced, is_above_at}
use Rattle.fewest_spec.proofs.Counts.{Apart}
use Rattle.layout.specs.Costs.{added, penalties, IsCharged}
use Rattle.layout.specs.Settled.{weights_of, row_of, settled_row, settled_rows}
use Rattle.place_nodes.proofs.TooMany.{apart_up}
use Rattle.place_nodes.specs.Nodes.{IsAbove, places_of, AreNodes}
use Rattle.place_nodes.specs.declared.nodes.Node.{Node}
use Rattle.layout.proofs.Penalties.{penalties_row}

-- ---- lists

pub at_rows : (X Y : Type 0) (f : X → Y) (xs : List X) (k : ℕ) (x : X) (front : List Y) (y : Y) → slice_get xs k ≡ Some x → front ++ y ∷ [] ≡ map f (take (k + 1) xs) → (front ≡ map f (take k xs)) × (y ≡ f x)
at_rows X Y f xs k x front y s e =
    let below = slice_get_within xs k x s in
    let parts = same_from_push front (map f (take k xs)) y (f (get_or xs k x)) (e ∙ (ap (map f) (take_more xs k x below) ∙ map_push f (take k xs) (get_or xs k x))) in
    (parts.0, parts.1 ∙ ap f (get_or_from_slice_get xs k x x s))

pub drop_at : (X : Type 0) (xs : List X) (k : ℕ) (x : X) → slice_get xs k ≡ Some x → drop k xs ≡ x ∷ drop (k + 1) xs
drop_at X xs k x s = drop_more xs k x (slice_get_within xs k x s) ∙ ap (λ y. y ∷ drop (k + 1) xs) (get_or_from_slice_get xs k x x s)

pub reverse_more : (X : Type 0) (x : X) (xs : List X) → reverse (x ∷ xs) ≡ reverse xs ++ x ∷ []
reverse_more X x xs = reverse-append (x ∷ []) xs

same_rows : (f g : List ℕ → List ℕ) (qs : List (List ℕ)) → ((q : List ℕ) → Contains qs q → f q ≡ g q) → map f qs ≡ map g qs
same_rows f g [] same = refl
same_rows f g (q ∷ qs) same = λ i. same q (contains_here q qs) i ∷ same_rows f g qs (λ p c. same p (contains_there p q qs c)) i

-- one row changes
one_row : (f g : List ℕ → List ℕ) (qs : List (List ℕ)) (k : ℕ) (h : List ℕ) → slice_get qs k ≡ Some h → Apart qs → ((q : List ℕ) → Contains qs q → (h ≡ q → ⊥) → f q ≡ g q) → set (map f qs) k (g h) ≡ map g qs
one_row f g [] k h s apart same = absurd (none-some h s)
one_row f g (q ∷ qs) zero h s apart same =
    let is : q ≡ h = same_Some q h s in
    (λ i. g (sym is i) ∷ same_rows f g qs (λ p c. same p (contains_there p q qs c) (λ e. apart.0 (subst (Contains qs) (sym (is ∙ e)) c))) i)
one_row f g (q ∷ qs) (suc k) h s apart same =
    (λ i. same q (contains_here q qs) (λ e. apart.0 (subst (Contains qs) e (contains_at qs k h s))) i ∷ one_row f g qs k h s apart.1 (λ p c. same p (contains_there p q qs c)) i)

pub in_front : (k : ℕ) (x : List ℕ) (xs : List (List ℕ)) → Contains (take k xs) x → Contains xs x
in_front zero x xs c = absurd (contains_none x c)
in_front (suc k) x [] c = absurd (contains_none x c)
in_front (suc k) x (first ∷ xs) c = elim (contains_cases x first (take k xs) c) [
  | inl same ↦ subst (Contains (first ∷ xs)) same (contains_here first xs)
  | inr later ↦ contains_there x first xs (in_front k x xs later)
]

apart_front : (k : ℕ) (qs : List (List ℕ)) → Apart qs → Apart (take k qs)
apart_front zero qs apart = tt
apart_front (suc k) [] apart = tt
apart_front (suc k) (q ∷ qs) apart = ((λ c. apart.0 (in_front k q qs c)), apart_front k qs apart.1)

-- ---- rows

module _ (wish : Wish) (weights : Weights) (place : List ℕ) where
  free_row : place_above place ≡ None → (q : List ℕ) → row_of wish weights q ≡ row_of wish (reduced wish place weights) q
  unfolding reduced
  free_row e q = by wish.targets
    where
      by : (ts : List (List ℕ)) → map (weights q) ts ≡ map (λ value. weights q value + cond (is_above_at (place_above place) q) (penalty wish weights place value) 0) ts
      by [] = refl
      by (t ∷ ts) =
          let here = cond-false _ (penalty wish weights place t) 0 (ap (λ o. is_above_at o q) e) in
          let same : weights q t ≡ weights q t + cond (is_above_at (place_above place) q) (penalty wish weights place t) 0 = omega (arith, here) in
          λ i. same i ∷ by ts i

  other_row : (h q : List ℕ) → place_above place ≡ Some h → (h ≡ q → ⊥) → row_of wish weights q ≡ row_of wish (reduced wish place weights) q
  unfolding reduced
  other_row h q e apart = by wish.targets
    where
      away : is_above_at (place_above place) q ≡ false
      away = ap (λ o. is_above_at o q) e ∙ elim (cases_Bool (bytes_eq h q)) [
        | inl t ↦ absurd (apart ((bytes_eq-Decides h q).0 t))
        | inr f ↦ f
      ]

      by : (ts : List (List ℕ)) → map (weights q) ts ≡ map (λ value. weights q value + cond (is_above_at (place_above place) q) (penalty wish weights place value) 0) ts
      by [] = refl
      by (t ∷ ts) =
          let here = cond-false _ (penalty wish weights place t) 0 away in
          let same : weights q t ≡ weights q t + cond (is_above_at (place_above place) q) (penalty wish weights place t) 0 = omega (arith, here) in
          λ i. same i ∷ by ts i

  paid_row : (h : List ℕ) → place_above place ≡ Some h → added (row_of wish weights h) (settled_row wish weights place) ≡ row_of wish (reduced wish place weights) h
  unfolding reduced
  paid_row h e = by wish.targets
    where
      here : is_above_at (place_above place) h ≡ true
      here = ap (λ o. is_above_at o h) e ∙ (bytes_eq-Decides h h).1 refl

      by : (ts : List (List ℕ)) → added (map (weights h) ts) (map (penalty wish weights place) ts) ≡ map (λ value. weights h value + cond (is_above_at (place_above place) h) (penalty wish weights place value) 0) ts
      by [] = refl
      by (t ∷ ts) = λ i. (weights h t + sym (cond-true _ (penalty wish weights place t) 0 here) i) ∷ by ts i

-- ---- the loop

-- what is settled stands in reverse, and what is open has paid for it
pub record Settles (wish : Wish) (nodes : List Node) (open_rows rows : List (List ℕ)) : Type 0 where
  pub opened : open_rows ≡ map (row_of wish (weights_of wish (drop (length open_rows) (places_of nodes)))) (take (length open_rows) (places_of nodes))
  pub settled : rows ≡ reverse (settled_rows wish (drop (length open_rows) (places_of nodes)))

abbrev pub AllSettle : List Node → ℕ → List (List ℕ) → List (List ℕ) → Type 0
AllSettle nodes width open_rows rows = (wish : Wish) → AreNodes wish nodes → length wish.targets ≡ width → Settles wish nodes open_rows rows

no_rows : (wish : Wish) (width : ℕ) (qs : List (List ℕ)) → length wish.targets ≡ width → replicate (length qs) (replicate width 0) ≡ map (row_of wish no_weight) qs
no_rows wish width [] e = refl
no_rows wish width (q ∷ qs) e = λ i. (ap (λ n. replicate {A = ℕ} n 0) (sym e) ∙ zeros wish.targets) i ∷ no_rows wish width qs e i
  where
    zeros : (ts : List (List ℕ)) → replicate {A = ℕ} (length ts) 0 ≡ map (λ t. 0) ts
    zeros [] = refl
    zeros (t ∷ ts) = λ i. 0 ∷ zeros ts i

pub none_settled : (nodes : List Node) (width : ℕ) (open_rows rows : List (List ℕ)) → open_rows ≡ replicate (length nodes) (replicate width 0) → rows ≡ [] → AllSettle nodes width open_rows rows
none_settled nodes width open_rows rows e none wish are is =
    let ps = places_of nodes in
    let count : length open_rows ≡ length ps = ap length e ∙ (length-replicate (length nodes) (replicate width 0) ∙ sym (length-map nodes (λ (node : Node). node.place))) in
    let past : drop (length open_rows) ps ≡ [] = drop_all (length open_rows) ps (omega (arith, count)) in
    let all : take (length open_rows) ps ≡ ps = take_all (length open_rows) ps (omega (arith, count)) in
    record {
      opened = e ∙ (ap (λ n. replicate n (replicate width 0)) (sym (length-map nodes (λ (node : Node). node.place))) ∙ (no_rows wish width ps is ∙ (λ i. map (row_of wish (weights_of wish (sym past i))) (sym all i))));
      settled = none ∙ ap (λ qs. reverse (settled_rows wish qs)) (sym past);
    }

record IsStep (wish : Wish) (nodes : List Node) (front : List (List ℕ)) (rows : List (List ℕ)) (costs : List ℕ) (node : Node) : Type 0 where
  pub here : slice_get (places_of nodes) (length front) ≡ Some node.place
  pub after : Weights
  pub after_is : after ≡ weights_of wish (drop (length front + 1) (places_of nodes))
  pub front_is : front ≡ map (row_of wish after) (take (length front) (places_of nodes))
  pub costs_is : costs ≡ row_of wish after node.place
  pub weights_is : weights_of wish (drop (length front) (places_of nodes)) ≡ reduced wish node.place after
  pub rows_is : rows ++ settled_row wish after node.place ∷ [] ≡ reverse (settled_rows wish (drop (length front) (places_of nodes)))

step_of : (wish : Wish) (nodes : List Node) (was front rows : List (List ℕ)) (costs : List ℕ) (node : Node) → Settles wish nodes was rows → was ≡ front ++ costs ∷ [] → slice_get nodes (length front) ≡ Some node → IsStep wish nodes front rows costs node
step_of wish nodes was front rows costs node s e at =
    let ps = places_of nodes in
    let here : slice_get ps (length front) ≡ Some node.place = slice_get-map (λ (node : Node). node.place) nodes (length front) ∙ ap (option_map (λ (node : Node). node.place)) at in
    let count : length was ≡ length front + 1 = ap length e ∙ length_push front costs in
    let w = weights_of wish (drop (length front + 1) ps) in
    let parts = at_rows (List ℕ) (List ℕ) (row_of wish w) ps (length front) node.place front costs here (sym e ∙ (s.opened ∙ (λ i. map (row_of wish (weights_of wish (drop (count i) ps))) (take (count i) ps)))) in
    let next : drop (length front) ps ≡ node.place ∷ drop (length front + 1) ps = drop_at (List ℕ) ps (length front) node.place here in
    record {
      here = here;
      after = w;
      after_is = refl;
      front_is = parts.0;
      costs_is = parts.1;
      weights_is = ap (weights_of wish) next;
      rows_is = ap (λ rs. rs ++ settled_row wish w node.place ∷ []) (s.settled ∙ ap (λ n. reverse (settled_rows wish (drop n ps))) count)
          ∙ (sym (reverse_more (List ℕ) (settled_row wish w node.place) (settled_rows wish (drop (length front + 1) ps))) ∙ ap (λ qs. reverse (settled_rows wish qs)) (sym next));
    }

-- a place with none above it
pub top_settled : (nodes : List Node) (width : ℕ) (was front rows : List (List ℕ)) (costs row : List ℕ) (node : Node) → AllSettle nodes width was rows → was ≡ front ++ costs ∷ [] → slice_get nodes (length front) ≡ Some node → row ≡ penalties node.own costs → node.above ≡ None → AllSettle nodes width front (rows ++ row ∷ [])
top_settled nodes width was front rows costs row node s e at row_is top wish are is =
    let step = step_of wish nodes was front rows costs node (s wish are is) e at in
    let ps = places_of nodes in
    let none : place_above node.place ≡ None = subst (IsAbove (take (length front) ps) node.place) top (are.above (length front) node at) in
    let settled : row ≡ settled_row wish step.after node.place = row_is ∙ (ap (penalties node.own) step.costs_is ∙ penalties_row wish step.after node.place node.own (are.own (length front) node at) are.targets) in
    record {
      opened = step.front_is ∙ (same_rows (row_of wish step.after) (row_of wish (reduced wish node.place step.after)) (take (length front) ps) (λ q c. free_row wish step.after node.place none q)
          ∙ ap (λ w. map (row_of wish w) (take (length front) ps)) (sym step.weights_is));
      settled = ap (λ r. rows ++ r ∷ []) settled ∙ step.rows_is;
    }

-- a place that another pays for
pub paid_settled : (nodes : List Node) (width : ℕ) (was front after rows : List (List ℕ)) (costs row : List ℕ) (node : Node) (above : ℕ) → AllSettle nodes width was rows → was ≡ front ++ costs ∷ [] → slice_get nodes (length front) ≡ Some node → row ≡ penalties node.own costs → node.above ≡ Some above
    → ((paying : List ℕ) → slice_get front above ≡ Some paying → after ≡ set front above (added paying row)) → AllSettle nodes width after (rows ++ row ∷ [])
paid_settled nodes width was front after rows costs row node above s e at row_is is_above put wish are is =
    let step = step_of wish nodes was front rows costs node (s wish are is) e at in
    let ps = places_of nodes in
    let qs = take (length front) ps in
    let up = subst (IsAbove qs node.place) is_above (are.above (length front) node at) in
    let settled : row ≡ settled_row wish step.after node.place = row_is ∙ (ap (penalties node.own) step.costs_is ∙ penalties_row wish step.after node.place node.own (are.own (length front) node at) are.targets) in
    let paying : slice_get front above ≡ Some (row_of wish step.after up.0) = ap (λ rs. slice_get rs above) step.front_is ∙ (slice_get-map (row_of wish step.after) qs above ∙ ap (option_map (row_of wish step.after)) up.2) in
    let put_is : after ≡ set front above (added (row_of wish step.after up.0) row) = put (row_of wish step.after up.0) paying in
    let same_length : length after ≡ length front = ap length put_is ∙ length-set front above (added (row_of wish step.after up.0) row) in
    let changed : after ≡ map (row_of wish (reduced wish node.place step.after)) qs =
    put_is ∙ ((λ i. set (step.front_is i) above (added (row_of wish step.after up.0) (settled i))) ∙ (ap (set (map (row_of wish step.after) qs) above) (paid_row wish step.after node.place up.0 up.1)
    ∙ one_row (row_of wish step.after) (row_of wish (reduced wish node.place step.after)) qs above up.0 up.2 (apart_front (length front) ps (apart_up ps are.sorted)) (λ q c apart. other_row wish step.after node.place up.0 q up.1 apart))) in
    record {
      opened = changed ∙ ((λ i. map (row_of wish (sym step.weights_is i)) qs) ∙ (λ i. map (row_of wish (weights_of wish (drop (sym same_length i) ps))) (take (sym same_length i) ps)));
      settled = ap (λ r. rows ++ r ∷ []) settled ∙ (step.rows_is ∙ (λ i. reverse (settled_rows wish (drop (sym same_length i) ps))));
    }

pub next_settled : (nodes : List Node) (width number : ℕ) (was front after rows more : List (List ℕ)) (costs row : List ℕ) (node : Node) → AllSettle nodes width was rows × (length was ≤ length nodes) → was ≡ front ++ costs ∷ [] → number ≡ length front → Some node ≡ slice_get nodes number → row ≡ penalties node.own costs
    → IsCharged front node.above row after → more ≡ rows ++ row ∷ [] → AllSettle nodes width after more × (length after ≤ length nodes)
next_settled nodes width number was front after rows more costs row node s e counted found row_is charged pushed = (subst (AllSettle nodes width after) (sym pushed) (by node.above refl), (let c = charged.count in let l = s.1 in let n = ap length e ∙ length_push front costs in omega (arith, c, l, n)))
  where
    at : slice_get nodes (length front) ≡ Some node
    at = ap (slice_get nodes) (sym counted) ∙ sym found

    by : (o : Option ℕ) → node.above ≡ o → AllSettle nodes width after (rows ++ row ∷ [])
    by None f = subst (λ rs. AllSettle nodes width rs (rows ++ row ∷ [])) (sym (charged.top f)) (top_settled nodes width was front rows costs row node s.0 e at row_is f)
    by (Some above) f = paid_settled nodes width was front after rows costs row node above s.0 e at row_is f (λ paying g. charged.paid above paying f g)

pub fewer_open : (was front after : List (List ℕ)) (costs row : List ℕ) (above : Option ℕ) → was ≡ front ++ costs ∷ [] → IsCharged front above row after → length after < length was
fewer_open was front after costs row above e charged = let c = charged.count in let n = ap length e ∙ length_push front costs in omega (arith, c, n)

pub none_more : (nodes : List Node) (width : ℕ) (open_rows rows : List (List ℕ)) → open_rows ≡ replicate (length nodes) (replicate width 0) → rows ≡ [] → AllSettle nodes width open_rows rows × (length open_rows ≤ length nodes)
none_more nodes width open_rows rows e none = (none_settled nodes width open_rows rows e none, (let n = ap length e ∙ length-replicate (length nodes) (replicate width 0) in omega (arith, n)))

pub all_settled : (nodes : List Node) (width : ℕ) (open_rows rows : List (List ℕ)) → AllSettle nodes width open_rows rows → open_rows ≡ [] → (wish : Wish) → AreNodes wish nodes → length wish.targets ≡ width → rows ≡ reverse (settled_rows wish (places_of nodes))
all_settled nodes width open_rows rows s none wish are is = (s wish are is).settled ∙ ap (λ n. reverse (settled_rows wish (drop n (places_of nodes)))) (ap length none)
