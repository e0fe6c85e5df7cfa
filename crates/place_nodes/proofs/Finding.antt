-- Rows are taken in turn, and targets found by their numbers.
use Rattle.std.proofs.Common.{refl, sym, ap, ◌∙◌, subst, arith, append_assoc}
use Rattle.std.proofs.lemmas.List.{append-nil, nil_from_length}
use Rattle.std.proofs.lemmas.List.Elements.{Contains-append_left}
use Rattle.std.proofs.lemmas.Option.{none-some}
use Rattle.std.specs.Cmp.Lexicographic.{nat_list_cmp_total}
use Rattle.std.specs.Prelude.{◌≡◌, ℕ, suc, ◌≤◌, ◌+◌, List, [], ◌∷◌, ◌++◌, length, Option, Some, None, slice_get, Contains, Result, Ok, Err, OnOk, ⊤}
use mathlib.Core.Logic.{inl, inr}
use Rattle.layout_spec.proofs.Contained.{contains_here, contains_there, contains_cases, contains_none}
use Rattle.layout_spec.specs.Places.{places}
use Rattle.layout_spec.specs.declared.Need.{Need}
use Rattle.fewest_spec.specs.Fewest.{Before}
use Rattle.place_nodes.specs.Building.{InTurn, IsBuilt, IsLast, BuiltSo, ComesAfter, CanAdd, IsRowAdded, common}
use Rattle.place_nodes.specs.Growing.{IsReady, IsGrown}
use Rattle.place_nodes.specs.Nodes.{places_of}
use Rattle.place_nodes.specs.declared.nodes.Node.{Node}
use Rattle.place_nodes.proofs.Building.{first_ready, next_ready, common_within, built_more, last_more}
use Rattle.place_nodes.proofs.Growing.{in_push, last_in}

-- ---- the number of a text

pub record IsSought (texts : List (List ℕ)) (text : List ℕ) (number : ℕ) (left : List (List ℕ)) : Type 0 where
  pub at : (k : ℕ) (x : List ℕ) → slice_get left k ≡ Some x → slice_get texts (number + k) ≡ Some x
  pub behind : Contains texts text → Contains left text
  pub count : number + length left ≡ length texts

pub sought_first : (texts left : List (List ℕ)) (text : List ℕ) → left ≡ texts → IsSought texts text 0 left
sought_first texts left text e = record {
  at = λ k x s. subst (λ n. slice_get texts n ≡ Some x) (omega arith) (ap (λ xs. slice_get xs k) (sym e) ∙ s);
  behind = λ c. subst (λ xs. Contains xs text) (sym e) c;
  count = (let n = ap length e in omega (arith, n));
}

pub sought_here : (texts left more : List (List ℕ)) (text first : List ℕ) (number : ℕ) → IsSought texts text number left → left ≡ first ∷ more → first ≡ text → slice_get texts number ≡ Some text
sought_here texts left more text first number s e same =
    subst (λ n. slice_get texts n ≡ Some text) (omega arith) (s.at 0 text (ap (λ xs. slice_get xs 0) e ∙ ap Some same))

pub sought_on : (texts left more : List (List ℕ)) (text first : List ℕ) (number : ℕ) → IsSought texts text number left → left ≡ first ∷ more → (first ≡ text → ⊥) → IsSought texts text (number + 1) more
sought_on texts left more text first number s e apart = record {
  at = λ k x g. subst (λ n. slice_get texts n ≡ Some x) (omega arith) (s.at (suc k) x (ap (λ xs. slice_get xs (suc k)) e ∙ g));
  behind = λ c. elim (contains_cases text first more (subst (λ xs. Contains xs text) e (s.behind c))) [
    | inl same ↦ absurd (apart same)
    | inr later ↦ later
  ];
  count = (let n = s.count in let l = ap length e in omega (arith, n, l));
}

pub sought_none : (texts left : List (List ℕ)) (text : List ℕ) (number : ℕ) → IsSought texts text number left → length left ≡ 0 → Contains texts text → ⊥
sought_none texts left text number s none c = let l = (s.behind c).1 in omega (arith, l, none)

-- ---- a row more

-- the same referrer again
again : (done : List Need) (targets : List (List ℕ)) (nodes : List Node) (last need : Need) → IsBuilt done targets nodes → IsLast done nodes last → last.referrer ≡ need.referrer → BuiltSo (done ++ need ∷ []) targets nodes (Some need)
again done targets nodes last need built is_last same = (
  record {
    sorted = built.sorted;
    know = built.know;
    all = λ any p c at. elim (in_push done need any c) [
      | inl old ↦ built.all any p old at
      | inr is ↦ built.all last p is_last.is_need (subst (λ r. Contains (places r) p) (ap (λ (n : Need). n.referrer) (sym is) ∙ sym same) at)
    ];
    only = λ node c. let o = built.only node c in (o.0, Contains-append_left done (need ∷ []) o.0 o.1, o.2);
    free = λ node c none any d e. elim (in_push done need any d) [
      | inl old ↦ built.free node c none any old e
      | inr is ↦ built.free node c none last is_last.is_need (same ∙ (ap (λ (n : Need). n.referrer) is ∙ e))
    ];
    own = λ node k c some. let o = built.own node k c some in (o.0, Contains-append_left done (need ∷ []) o.0 o.1, o.2, o.3);
  },
  record {
    is_need = last_in done need;
    behind = λ p c. elim (is_last.behind p c) [
      | inl is ↦ inl (is ∙ same)
      | inr less ↦ inr (subst (Before p) same less)
    ];
  },
)

pub row_again : (targets : List (List ℕ)) (nodes after : List Node) (last need : Need) → last.referrer ≡ need.referrer → after ≡ nodes → IsRowAdded targets nodes (Some last) need after
row_again targets nodes after last need same e done built there = subst (λ ns. BuiltSo (done ++ need ∷ []) targets ns (Some need)) (sym e) (again done targets nodes last need built.0 built.1 same)

pub apart_before : (last need : Need) → ComesAfter (Some last) need → (last.referrer ≡ need.referrer → ⊥) → Before last.referrer need.referrer
apart_before last need (inl same) apart = absurd (apart same)
apart_before last need (inr before) apart = before

pub behind_ready : (targets : List (List ℕ)) (nodes : List Node) (last need : Need) (from : ℕ) → CanAdd targets nodes (Some last) need → (last.referrer ≡ need.referrer → ⊥) → from ≡ common last.referrer need.referrer + 1 → IsReady nodes need.referrer from
behind_ready targets nodes last need from can apart e =
    subst (IsReady nodes need.referrer) (sym e) (next_ready can.done targets nodes can.built.0 last can.built.1 need.referrer (apart_before last need can.turn apart))

pub behind_within : (targets : List (List ℕ)) (nodes : List Node) (last need : Need) (from : ℕ) → CanAdd targets nodes (Some last) need → (last.referrer ≡ need.referrer → ⊥) → from ≡ common last.referrer need.referrer + 1 → from ≤ length need.referrer
behind_within targets nodes last need from can apart e = let w = common_within last.referrer need.referrer (apart_before last need can.turn apart) in omega (arith, w, e)

before_new : (done : List Need) (targets : List (List ℕ)) (nodes : List Node) (last need : Need) → IsLast done nodes last → Before last.referrer need.referrer → (p : List ℕ) → Contains (places_of nodes) p → Before p need.referrer
before_new done targets nodes last need is_last turn p c = elim (is_last.behind p c) [
  | inl same ↦ subst (λ q. Before q need.referrer) (sym same) turn
  | inr less ↦ nat_list_cmp_total.trans p last.referrer need.referrer less turn
]

pub row_behind : (E : Type 0) (targets : List (List ℕ)) (nodes after : List Node) (last need : Need) (own : ℕ) (result : Result ⊤ E) → CanAdd targets nodes (Some last) need → (last.referrer ≡ need.referrer → ⊥) → slice_get targets own ≡ Some need.target → OnOk result (IsGrown nodes need.referrer own after) → OnOk result (IsRowAdded targets nodes (Some last) need after)
row_behind E targets nodes after last need own (Err fault) can apart at grown = grown
row_behind E targets nodes after last need own (Ok u) can apart at grown = λ done built there.
    let turn = apart_before last need can.turn apart in
    let behind = before_new done targets nodes last need built.1 turn in
    (built_more done targets nodes after built.0 need own grown behind at, last_more done targets nodes after built.0 need own grown behind at)

-- the first row
nothing_built : (targets : List (List ℕ)) → IsBuilt [] targets []
nothing_built targets = record {
  sorted = tt;
  know = λ i node e. absurd (none-some node e);
  all = λ any p c at. absurd (contains_none any c);
  only = λ node c. absurd (contains_none node c);
  free = λ node c. absurd (contains_none node c);
  own = λ node k c. absurd (contains_none node c);
}

pub first_can : (targets : List (List ℕ)) (nodes : List Node) (need : Need) → CanAdd targets nodes None need → IsReady nodes need.referrer 0
first_can targets nodes need can = subst (λ ns. IsReady ns need.referrer 0) (sym can.built.1) (first_ready need.referrer)

pub row_first : (E : Type 0) (targets : List (List ℕ)) (nodes after : List Node) (need : Need) (own : ℕ) (result : Result ⊤ E) → slice_get targets own ≡ Some need.target → OnOk result (IsGrown nodes need.referrer own after) → OnOk result (IsRowAdded targets nodes None need after)
row_first E targets nodes after need own (Err fault) at grown = grown
row_first E targets nodes after need own (Ok u) at grown = λ done built there.
    let from : IsGrown [] need.referrer own after = subst (λ ns. IsGrown ns need.referrer own after) built.1 grown in
    let none : (p : List ℕ) → Contains [] p → Before p need.referrer = λ p c. absurd (contains_none p c) in
    subst (λ ds. BuiltSo (ds ++ need ∷ []) targets after (Some need)) (sym built.0)
    (built_more [] targets [] after (nothing_built targets) need own from none at, last_more [] targets [] after (nothing_built targets) need own from none at)

-- ---- all rows

pub record IsOnWay (rows : List Need) (targets : List (List ℕ)) (nodes : List Node) (last : Option Need) (left : List Need) : Type 0 where
  pub done : List Need
  pub whole : done ++ left ≡ rows
  pub built : BuiltSo done targets nodes last
  pub turn : InTurn left
  pub after : (need : Need) → Contains left need → ComesAfter last need
  pub there : (need : Need) → Contains left need → Contains targets need.target

pub way_starts : (rows left : List Need) (targets : List (List ℕ)) (nodes : List Node) → nodes ≡ [] → left ≡ rows → InTurn rows → ((need : Need) → Contains rows need → Contains targets need.target) → IsOnWay rows targets nodes None left
way_starts rows left targets nodes none e turn there = record {
  done = [];
  whole = e;
  built = (refl, none);
  turn = subst InTurn (sym e) turn;
  after = λ need c. tt;
  there = λ need c. there need (subst (λ rs. Contains rs need) e c);
}

pub way_can : (rows left more : List Need) (targets : List (List ℕ)) (nodes : List Node) (last : Option Need) (row : Need) → IsOnWay rows targets nodes last left → left ≡ row ∷ more → CanAdd targets nodes last row
way_can rows left more targets nodes last row w e = record {
  done = w.done;
  built = w.built;
  turn = w.after row (subst (λ rs. Contains rs row) (sym e) (contains_here row more));
}

pub way_on : (rows left more : List Need) (targets : List (List ℕ)) (nodes after : List Node) (last : Option Need) (row : Need) → IsOnWay rows targets nodes last left → left ≡ row ∷ more → IsRowAdded targets nodes last row after → IsOnWay rows targets after (Some row) more
way_on rows left more targets nodes after last row w e added =
    let turn : InTurn (row ∷ more) = subst InTurn e w.turn in
    record {
      done = w.done ++ row ∷ [];
      whole = append_assoc w.done (row ∷ []) more ∙ (ap (λ rs. w.done ++ rs) (sym e) ∙ w.whole);
      built = added w.done w.built (w.there row (subst (λ rs. Contains rs row) (sym e) (contains_here row more)));
      turn = turn.1;
      after = λ need c. turn.0 need c;
      there = λ need c. w.there need (subst (λ rs. Contains rs need) (sym e) (contains_there need row more c));
    }

pub way_done : (rows left : List Need) (targets : List (List ℕ)) (nodes : List Node) (last : Option Need) → IsOnWay rows targets nodes last left → length left ≡ 0 → IsBuilt rows targets nodes
way_done rows left targets nodes last w none = subst (λ rs. IsBuilt rs targets nodes) (sym (append-nil w.done) ∙ (ap (λ rs. w.done ++ rs) (sym (nil_from_length left none)) ∙ w.whole)) (by last w.built)
  where
    by : (last : Option Need) → BuiltSo w.done targets nodes last → IsBuilt w.done targets nodes
    by None b = subst (λ ds. IsBuilt ds targets nodes) (sym b.0) (subst (IsBuilt [] targets) (sym b.1) (nothing_built targets))
    by (Some l) b = b.0

pub row_unknown : (targets : List (List ℕ)) (nodes after : List Node) (last : Option Need) (need : Need) → (Contains targets need.target → ⊥) → IsRowAdded targets nodes last need after
row_unknown targets nodes after last need n done built there = absurd (n there)
