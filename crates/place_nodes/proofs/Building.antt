-- Referrer by referrer the places of the needs are found.
use Rattle.std.proofs.Common.{refl, sym, ap, ◌∙◌, subst, arith}
use Rattle.std.proofs.lemmas.Bool.{cases_Bool, cases_eq, cond-true, cond-false, eqb-true, eq-eqb}
use Rattle.std.proofs.lemmas.Cmp.{ranked}
use Rattle.std.proofs.lemmas.List.{length-take-le, take_all}
use Rattle.std.proofs.lemmas.List.Elements.{Contains-append_left}
use Rattle.std.proofs.lemmas.Option.{same_Some, none-some}
use Rattle.std.specs.Cmp.Lexicographic.{slice_cmp, nat_list_cmp_total}
use Rattle.std.specs.Ordering.{nat_cmp, ordering_then}
use Rattle.std.specs.Prelude.{◌≡◌, ℕ, zero, suc, ◌<◌, ◌≤◌, ◌+◌, ◌==◌, List, [], ◌∷◌, ◌++◌, Some, take, length, slice_get, Contains}
use Rattle.std.specs.declared.cmp.Ordering.{Ordering}
use Rattle.std.specs.declared.cmp.Ordering.TheVariants.{Less, Equal, Greater}
use mathlib.Core.Logic.{inl, inr}
use Rattle.layout_spec.proofs.Contained.{contains_here, contains_there, contains_cases, contains_none}
use Rattle.layout_spec.proofs.PlaceLemmas.{above_is, above_from}
use Rattle.layout_spec.specs.Places.{above, places, IsFolder}
use Rattle.layout_spec.specs.declared.Need.{Need}
use Rattle.fewest_spec.specs.Fewest.{Before}
use Rattle.fewest_spec.proofs.Orders.{never_itself}
use Rattle.fewest_spec.proofs.Values.{above_before}
use Rattle.place_nodes.specs.Building.{common, IsBuilt, IsLast}
use Rattle.place_nodes.specs.Growing.{IsReady, IsGrown}
use Rattle.place_nodes.specs.Nodes.{places_of}
use Rattle.place_nodes.specs.declared.nodes.Node.{Node}
use Rattle.place_nodes.proofs.Growing.{in_push, last_in, node_place}

-- ---- fronts in common

common_same : (a b : List ℕ) (s : ℕ) → s ≤ common a b → (take s a ≡ take s b) × (s ≤ length a)
common_same a b zero l = (refl, omega arith)
common_same [] b (suc s) l = absurd (omega arith)
common_same (x ∷ a) [] (suc s) l = absurd (omega arith)
common_same (x ∷ a) (y ∷ b) (suc s) l = elim (cases_Bool (x == y)) [
  | inr f ↦ absurd (let z = cond-false (x == y) (common a b + 1) 0 f in omega (arith, z, l))
  | inl t ↦
      let z = cond-true (x == y) (common a b + 1) 0 t in
      let rest = common_same a b s (omega (arith, z, l)) in
      ((λ i. eqb-true x y t i ∷ rest.0 i), (let r = rest.1 in omega (arith, r)))
]

-- a front beyond what is in common decides as the whole does
far_before : (a b : List ℕ) (s : ℕ) → Before a b → common a b < s → s ≤ length b → Before a (take s b)
far_before a b zero l m n = absurd (omega arith)
far_before [] [] (suc s) l m n = absurd (omega arith)
far_before [] (y ∷ b) (suc s) l m n = refl
far_before (x ∷ a) [] (suc s) l m n = absurd (omega arith)
far_before (x ∷ a) (y ∷ b) (suc s) l m n = by (nat_cmp x y) refl (far_before a b s)
  where
    by : (o : Ordering) → nat_cmp x y ≡ o → (Before a b → common a b < s → s ≤ length b → Before a (take s b)) → Before (x ∷ a) (y ∷ take s b)
    by Less e inner = ap (λ o. ordering_then o (slice_cmp nat_cmp a (take s b))) e
    by Greater e inner = absurd (let w : Greater ≡ Less = sym (ap (λ o. ordering_then o (slice_cmp nat_cmp a b)) e) ∙ l in cc)
    by Equal e inner =
        let same : x ≡ y = ranked x y Equal (sym e) in
        let z = cond-true (x == y) (common a b + 1) 0 (eq-eqb x y same) in
        ap (λ o. ordering_then o (slice_cmp nat_cmp a (take s b))) e ∙ inner (sym (ap (λ o. ordering_then o (slice_cmp nat_cmp a b)) e) ∙ l) (omega (arith, z, m)) (omega (arith, n))

pub common_within : (a b : List ℕ) → Before a b → common a b + 1 ≤ length b
common_within [] [] l = absurd (never_itself [] l)
common_within [] (y ∷ b) l = omega arith
common_within (x ∷ a) [] l = absurd (let w : Greater ≡ Less = l in cc)
common_within (x ∷ a) (y ∷ b) l = elim (cases_Bool (x == y)) [
  | inr f ↦ let z = cond-false (x == y) (common a b + 1) 0 f in omega (arith, z)
  | inl t ↦
      let z = cond-true (x == y) (common a b + 1) 0 t in
      let e : nat_cmp x y ≡ Equal = equal_cmp (nat_cmp x y) refl (eqb-true x y t) in
      let r = common_within a b (sym (ap (λ o. ordering_then o (slice_cmp nat_cmp a b)) e) ∙ l) in
      omega (arith, z, r)
]
  where
    equal_cmp : (o : Ordering) → nat_cmp x y ≡ o → x ≡ y → o ≡ Equal
    equal_cmp Less e same = absurd (let r : x < y = ranked x y Less (sym e) in omega (arith, r, same))
    equal_cmp Equal e same = refl
    equal_cmp Greater e same = absurd (let r : y < x = ranked x y Greater (sym e) in omega (arith, r, same))

-- ---- the next referrer

pub first_ready : (r : List ℕ) → IsReady [] r 0
first_ready r = record {
  sorted = tt;
  know = λ i node e. absurd (none-some node e);
  free = λ node c none. absurd (contains_none node c);
  before = λ s p m k c. absurd (contains_none p c);
  there = λ s m c. absurd (omega arith);
}

module _ (done : List Need) (targets : List (List ℕ)) (nodes : List Node) (built : IsBuilt done targets nodes) (last : Need) (is_last : IsLast done nodes last) (r : List ℕ) (turn : Before last.referrer r) where
  pub next_ready : IsReady nodes r (common last.referrer r + 1)
  next_ready = record {
    sorted = built.sorted;
    know = built.know;
    free = λ node c none.
        let of = built.only node c in
        elim (contains_cases node.place of.0.referrer (above of.0.referrer) of.2) [
          | inl same ↦ absurd (built.free node c none of.0 of.1 same)
          | inr higher ↦ (of.0.referrer, higher)
        ];
    before = λ s p m k c.
        let far : Before last.referrer (take s r) = far_before last.referrer r s turn (omega (arith, m)) k in
        elim (is_last.behind p c) [
          | inl same ↦ subst (λ q. Before q (take s r)) (sym same) far
          | inr less ↦ nat_list_cmp_total.trans p last.referrer (take s r) less far
        ];
    there = λ s m c.
        let same = common_same last.referrer r s (omega (arith, m)) in
        subst (Contains (places_of nodes)) same.0 (elim (cases_eq s (length last.referrer)) [
          | inl whole ↦ built.all last (take s last.referrer) is_last.is_need (subst (Contains (places last.referrer)) (sym (take_all s last.referrer (omega (arith, whole)))) (contains_here last.referrer (above last.referrer)))
          | inr shorter ↦ built.all last (take s last.referrer) is_last.is_need (contains_there _ last.referrer (above last.referrer) (front_above s same.1 shorter same.0 c))
        ]);
  }
    where
      front_above : (s : ℕ) → s ≤ length last.referrer → (s ≡ length last.referrer → ⊥) → take s last.referrer ≡ take s r → Contains (above r) (take s r) → Contains (above last.referrer) (take s last.referrer)
      front_above s l apart same c =
          let a = above_is r (take s r) c in
          above_from last.referrer (take s last.referrer) (record {
            front = record { size = s; shorter = omega (arith, l, apart); is_front = refl };
            folder = elim a.folder [
              | inr f ↦ inr (subst IsFolder (sym same) f)
              | inl none ↦ inl (
                  let n = ap length same in
                  let k = length-take-le s last.referrer l in
                  let z = ap length (a.front.is_front ∙ ap (λ k. take k r) none) in
                  omega (arith, n, k, z))
            ];
          })

-- ---- a need more

pub place_node : (nodes : List Node) (p : List ℕ) → Contains (places_of nodes) p → (node : Node) × Contains nodes node × (node.place ≡ p)
place_node [] p c = absurd (contains_none p c)
place_node (first ∷ nodes) p c = elim (contains_cases p first.place (places_of nodes) c) [
  | inl same ↦ (first, contains_here first nodes, same)
  | inr later ↦ let r = place_node nodes p later in (r.0, contains_there r.0 first nodes r.1, r.2)
]

module _ (done : List Need) (targets : List (List ℕ)) (nodes after : List Node) (built : IsBuilt done targets nodes) (need : Need) (number : ℕ) (grown : IsGrown nodes need.referrer number after) (behind : (p : List ℕ) → Contains (places_of nodes) p → Before p need.referrer) (target : slice_get targets number ≡ Some need.target) where
  abbrev now : List Need
  now = done ++ need ∷ []

  was_done : (any : Need) → Contains done any → Contains now any
  was_done any c = Contains-append_left done (need ∷ []) any c

  done_place : (any : Need) → Contains done any → Contains (places_of nodes) any.referrer
  done_place any c = built.all any any.referrer c (contains_here any.referrer (above any.referrer))

  pub built_more : IsBuilt now targets after
  built_more = record {
    sorted = grown.sorted;
    know = grown.know;
    all = λ any p c at. elim (in_push done need any c) [
      | inr same ↦ grown.all p (subst (λ (n : Need). Contains (places n.referrer) p) (sym same) at)
      | inl old ↦
          let found = place_node nodes p (built.all any p old at) in
          subst (Contains (places_of after)) found.2 (node_place after found.0 (grown.kept found.0 found.1))
    ];
    only = λ node c. elim (grown.only node c) [
      | inl old ↦ let o = built.only node old in (o.0, was_done o.0 o.1, o.2)
      | inr new ↦ elim new [
        | inl fresh ↦ (need, last_in done need, contains_there node.place need.referrer (above need.referrer) fresh.is_above)
        | inr whole ↦ (need, last_in done need, subst (Contains (places need.referrer)) (sym whole.0) (contains_here need.referrer (above need.referrer)))
      ]
    ];
    free = λ node c none any d same. elim (grown.only node c) [
      | inl old ↦ elim (in_push done need any d) [
        | inl was ↦ built.free node old none any was same
        | inr is ↦ never_itself need.referrer (subst (λ p. Before p need.referrer) (sym same ∙ ap (λ (n : Need). n.referrer) (sym is)) (behind node.place (node_place nodes node old)))
      ]
      | inr new ↦ elim new [
        | inl fresh ↦ elim (in_push done need any d) [
          | inl was ↦ never_itself node.place (subst (λ p. Before p node.place) same (fresh.behind any.referrer (done_place any was)))
          | inr is ↦ never_itself need.referrer (subst (λ p. Before p need.referrer) (sym same ∙ ap (λ (n : Need). n.referrer) (sym is)) (above_before need.referrer node.place fresh.is_above))
        ]
        | inr whole ↦ none-some number (sym none ∙ whole.1)
      ]
    ];
    own = λ node k c some. elim (grown.only node c) [
      | inl old ↦ let o = built.own node k old some in (o.0, was_done o.0 o.1, o.2, o.3)
      | inr new ↦ elim new [
        | inl fresh ↦ absurd (none-some k (sym fresh.free ∙ some))
        | inr whole ↦ (need, last_in done need, sym whole.0, subst (λ n. slice_get targets n ≡ Some need.target) (same_Some number k (sym whole.1 ∙ some)) target)
      ]
    ];
  }

  pub last_more : IsLast now after need
  last_more = record { is_need = last_in done need; behind = grown.last }
