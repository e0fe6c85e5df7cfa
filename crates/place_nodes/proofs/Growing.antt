-- The nodes grow by the places of a referrer, the shortest first.
use Rattle.std.proofs.Common.{refl, sym, ap, ◌∙◌, subst, arith}
use Rattle.std.proofs.lemmas.Bool.{cases_eq, true≢false, and_left, ne_eqb}
use Rattle.std.proofs.lemmas.List.{length-take-le, length-map, map_push, take-append-le, take_all, take-take}
use Rattle.std.proofs.lemmas.List.Elements.{Contains-append_cases, Contains-append_left, Contains-append_right}
use Rattle.std.proofs.lemmas.Option.{same_Some, none-some, slice_get_within}
use Rattle.std.specs.Prelude.{◌≡◌, ◌⊎◌, ℕ, zero, suc, ◌<◌, ◌≤◌, ◌+◌, ◌-◌, nat_eq, Bool, true, false, List, [], ◌∷◌, ◌++◌, Option, Some, None, take, drop, get_or, length, slice_get, Contains, Result, Ok, Err, OnOk, ⊤}
use Rattle.std.specs.Str.{IsUtf8, IsCharBoundary}
use Rattle.std.proofs.lemmas.Str.{IsCharBoundary-after_ascii}
use lib.Pointwise.{pointwise}
use mathlib.Core.Logic.{inl, inr}
use Rattle.url_spec.specs.Specifiers.{ends_in_slash}
use Rattle.fewest_spec.proofs.Weighing.{cases_among}
use Rattle.layout_spec.proofs.Contained.{contains_here, contains_there, contains_cases, contains_none}
use Rattle.layout_spec.proofs.PlaceLemmas.{above_is, above_from, folder_test, folder_from_test}
use Rattle.layout_spec.specs.Places.{above, is_folder, IsFolder}
use Rattle.fewest_spec.specs.Fewest.{Before}
use Rattle.fewest_spec.specs.Wishes.{Ascending}
use Rattle.fewest_spec.proofs.Values.{front_before}
use Rattle.place_nodes.specs.Growing.{IsReady, IsAdded, IsFresh, IsGrown}
use Rattle.place_nodes.specs.Known.{AreKnown, KnowAbove}
use Rattle.place_nodes.specs.Nodes.{IsAbove, places_of}
use Rattle.place_nodes.specs.declared.nodes.Node.{Node}

-- ---- lists

up_last : (xs : List (List ℕ)) (x : List ℕ) → Ascending xs → ((q : List ℕ) → Contains xs q → Before q x) → Ascending (xs ++ x ∷ [])
up_last [] x up below = ((λ q c. absurd (contains_none q c)), tt)
up_last (first ∷ xs) x up below = (
  (λ q c. elim (Contains-append_cases xs (x ∷ []) q c) [
    | inl inside ↦ up.0 q inside
    | inr last ↦ elim (contains_cases q x [] last) [
      | inl same ↦ subst (Before first) same (below first (contains_here first xs))
      | inr none ↦ absurd (contains_none q none)
    ]
  ]),
  up_last xs x up.1 (λ q c. below q (contains_there q first xs c)),
)

pub in_push : {A : Type 0} (xs : List A) (x y : A) → Contains (xs ++ x ∷ []) y → Contains xs y ⊎ (x ≡ y)
in_push xs x y c = elim (Contains-append_cases xs (x ∷ []) y c) [
  | inl inside ↦ inl inside
  | inr last ↦ elim (contains_cases y x [] last) [
    | inl same ↦ inr same
    | inr none ↦ absurd (contains_none y none)
  ]
]

pub last_in : {A : Type 0} (xs : List A) (x : A) → Contains (xs ++ x ∷ []) x
last_in xs x = Contains-append_right xs (x ∷ []) x (contains_here x [])

at_push : {A : Type 0} (xs : List A) (x y : A) (i : ℕ) → slice_get (xs ++ x ∷ []) i ≡ Some y → (slice_get xs i ≡ Some y) ⊎ ((i ≡ length xs) × (x ≡ y))
at_push [] x y zero e = inr (refl, same_Some x y e)
at_push [] x y (suc i) e = absurd (none-some y e)
at_push (first ∷ xs) x y zero e = inl e
at_push (first ∷ xs) x y (suc i) e = elim (at_push xs x y i e) [
  | inl inside ↦ inl inside
  | inr last ↦ inr ((let l = last.0 in omega (arith, l)), last.1)
]

pub node_place : (nodes : List Node) (node : Node) → Contains nodes node → Contains (places_of nodes) node.place
node_place [] node c = absurd (contains_none node c)
node_place (first ∷ nodes) node c = elim (contains_cases node first nodes c) [
  | inl same ↦ subst (λ (n : Node). Contains (places_of (first ∷ nodes)) n.place) same (contains_here first.place (places_of nodes))
  | inr later ↦ contains_there node.place first.place (places_of nodes) (node_place nodes node later)
]

-- ---- a node more

module _ (before : List Node) (place : List ℕ) (own : Option ℕ) (after : List Node) (a : IsAdded before place own after) where
  abbrev new : Node
  new = record { place = place; above = a.above; own = own }

  pub places_are : places_of after ≡ places_of before ++ place ∷ []
  places_are = ap places_of a.pushed ∙ map_push (λ (node : Node). node.place) before new

  pub added_sorted : Ascending (places_of before) → ((p : List ℕ) → Contains (places_of before) p → Before p place) → Ascending (places_of after)
  added_sorted up below = subst Ascending (sym places_are) (up_last (places_of before) place up below)

  pub added_know : KnowAbove before → KnowAbove after
  added_know know i node e = elim (at_push before new node i (ap (λ ns. slice_get ns i) (sym a.pushed) ∙ e)) [
    | inl inside ↦
        let l = slice_get_within before i node inside in
        let n = length-map before (λ (node : Node). node.place) in
        subst (λ qs. IsAbove qs node.place node.above) (sym (take-append-le i (places_of before) (place ∷ []) (omega (arith, l, n))) ∙ ap (take i) (sym places_are)) (know i node inside)
    | inr last ↦
        let n = length-map before (λ (node : Node). node.place) in
        let i_is = last.0 in
        let whole : take i (places_of after) ≡ places_of before =
        ap (take i) places_are ∙ (take-append-le i (places_of before) (place ∷ []) (omega (arith, i_is, n)) ∙ take_all i (places_of before) (omega (arith, i_is, n))) in
        subst (λ (m : Node). IsAbove (take i (places_of after)) m.place m.above) last.1 (subst (λ qs. IsAbove qs place a.above) (sym whole) a.is_above)
  ]

  pub added_place : (p : List ℕ) → Contains (places_of after) p → Contains (places_of before) p ⊎ (place ≡ p)
  added_place p c = in_push (places_of before) place p (subst (λ qs. Contains qs p) places_are c)

  pub still : (p : List ℕ) → Contains (places_of before) p → Contains (places_of after) p
  still p c = subst (λ qs. Contains qs p) (sym places_are) (Contains-append_left (places_of before) (place ∷ []) p c)

  pub there_now : Contains (places_of after) place
  there_now = subst (λ qs. Contains qs place) (sym places_are) (last_in (places_of before) place)

  pub added_node : (node : Node) → Contains after node → Contains before node ⊎ ((node.place ≡ place) × (node.own ≡ own))
  added_node node c = elim (in_push before new node (subst (λ ns. Contains ns node) a.pushed c)) [
    | inl inside ↦ inl inside
    | inr same ↦ inr (ap (λ (n : Node). n.place) (sym same), ap (λ (n : Node). n.own) (sym same))
  ]

  pub still_node : (node : Node) → Contains before node → Contains after node
  still_node node c = subst (λ ns. Contains ns node) (sym a.pushed) (Contains-append_left before (new ∷ []) node c)

-- ---- one size more

same_size : (r : List ℕ) (s n : ℕ) → s ≤ length r → n ≤ length r → take s r ≡ take n r → s ≡ n
same_size r s n l m e = let a = length-take-le s r l in let b = length-take-le n r m in let f = ap length e in omega (arith, a, b, f)

-- what is above a front is above the text, and shorter than the front
above_front : (r : List ℕ) (size : ℕ) (h : List ℕ) → size < length r → Contains (above (take size r)) h → (s : ℕ) × (s < size) × (h ≡ take s r) × ((s ≡ 0) ⊎ IsFolder h)
above_front r size h l c =
    let a = above_is (take size r) h c in
    let n = length-take-le size r (omega arith) in
    let less = a.front.shorter in
    (a.front.size, omega (arith, less, n), a.front.is_front ∙ take-take a.front.size size r (omega (arith, less, n)), a.folder)

module _ (nodes : List Node) (r : List ℕ) (size : ℕ) (ready : IsReady nodes r size) where
  pub front_known : size < length r → AreKnown nodes (take size r)
  front_known l = record {
    sorted = ready.sorted;
    know = ready.know;
    free = ready.free;
    before = λ p c. ready.before size p (omega arith) (omega arith) c;
    there = λ h c. let f = above_front r size h l c in
        subst (Contains (places_of nodes)) (sym f.2) (ready.there f.0 f.1 (above_from r (take f.0 r) (record {
          front = record { size = f.0; shorter = (let m = f.1 in omega (arith, m)); is_front = refl };
          folder = subst (λ p. (f.0 ≡ 0) ⊎ IsFolder p) f.2 f.3;
        })));
  }

  pub skipped : size < length r → (Contains (above r) (take size r) → ⊥) → IsReady nodes r (size + 1)
  skipped l n = record {
    sorted = ready.sorted;
    know = ready.know;
    free = ready.free;
    before = λ s p m k c. ready.before s p (omega arith) k c;
    there = λ s m c. elim (cases_eq s size) [
      | inl same ↦ absurd (n (subst (λ k. Contains (above r) (take k r)) same c))
      | inr apart ↦ ready.there s (omega arith) c
    ];
  }

  pub grown_front : (after : List Node) → size < length r → Contains (above r) (take size r)
      → IsAdded nodes (take size r) None after → IsReady after r (size + 1)
  grown_front after l c a = record {
    sorted = added_sorted nodes (take size r) None after a ready.sorted (λ p c. ready.before size p (omega arith) (omega arith) c);
    know = added_know nodes (take size r) None after a ready.know;
    free = λ node at none. elim (added_node nodes (take size r) None after a node at) [
      | inl inside ↦ ready.free node inside none
      | inr last ↦ (r, subst (Contains (above r)) (sym last.0) c)
    ];
    before = λ s p m k c. elim (added_place nodes (take size r) None after a p c) [
      | inl inside ↦ ready.before s p (omega arith) k inside
      | inr same ↦ subst (λ q. Before q (take s r)) (take-take size s r (omega arith) ∙ same) (front_before (take s r) size (let n = length-take-le s r k in omega (arith, n, m)))
    ];
    there = λ s m c. elim (cases_eq s size) [
      | inl same ↦ subst (λ k. Contains (places_of after) (take k r)) (sym same) (there_now nodes (take size r) None after a)
      | inr apart ↦ still nodes (take size r) None after a (take s r) (ready.there s (omega arith) c)
    ];
  }

-- ---- the whole referrer

-- what has been added so far
pub record IsGrowing (before : List Node) (referrer : List ℕ) (size : ℕ) (after : List Node) : Type 0 where
  pub ready : IsReady after referrer size
  pub kept : (node : Node) → Contains before node → Contains after node
  pub only : (node : Node) → Contains after node → Contains before node ⊎ IsFresh before referrer node

pub growing_none : (nodes : List Node) (r : List ℕ) (size : ℕ) → IsReady nodes r size → IsGrowing nodes r size nodes
growing_none nodes r size ready = record { ready = ready; kept = λ node c. c; only = λ node c. inl c }

pub growing_skipped : (before : List Node) (r : List ℕ) (size : ℕ) (after : List Node) → IsGrowing before r size after → size < length r → (Contains (above r) (take size r) → ⊥) → IsGrowing before r (size + 1) after
growing_skipped before r size after g l n = record { ready = skipped after r size g.ready l n; kept = g.kept; only = g.only }

pub growing_more : (before : List Node) (r : List ℕ) (size : ℕ) (now after : List Node) → ((p : List ℕ) → Contains (places_of before) p → Before p (take size r)) → IsGrowing before r size now → size < length r → Contains (above r) (take size r) → IsAdded now (take size r) None after → IsGrowing before r (size + 1) after
growing_more before r size now after behind g l c a = record {
  ready = grown_front now r size g.ready after l c a;
  kept = λ node at. still_node now (take size r) None after a node (g.kept node at);
  only = λ node at. elim (added_node now (take size r) None after a node at) [
    | inl inside ↦ g.only node inside
    | inr last ↦ inr (record {
      free = last.1;
      is_above = subst (Contains (above r)) (sym last.0) c;
      behind = λ p at. subst (Before p) (sym last.0) (behind p at);
    })
  ];
}

pub whole_known : (nodes : List Node) (r : List ℕ) (size : ℕ) → IsReady nodes r size → size ≡ length r → AreKnown nodes r
whole_known nodes r size ready e =
    let whole : take size r ≡ r = take_all size r (omega (arith, e)) in
    record {
      sorted = ready.sorted;
      know = ready.know;
      free = ready.free;
      before = λ p c. subst (Before p) whole (ready.before size p (omega arith) (omega (arith, e)) c);
      there = λ h c. let a = above_is r h c in
          subst (Contains (places_of nodes)) (sym a.front.is_front) (ready.there a.front.size (let l = a.front.shorter in omega (arith, l, e)) (subst (Contains (above r)) a.front.is_front c));
    }

pub grown_whole : (before : List Node) (r : List ℕ) (size own : ℕ) (now after : List Node) → IsGrowing before r size now → size ≡ length r → IsAdded now r (Some own) after → IsGrown before r own after
grown_whole before r size own now after g e a =
    let known = whole_known now r size g.ready e in
    record {
      sorted = added_sorted now r (Some own) after a known.sorted known.before;
      know = added_know now r (Some own) after a known.know;
      all = λ p c. elim (contains_cases p r (above r) c) [
        | inl same ↦ subst (Contains (places_of after)) same (there_now now r (Some own) after a)
        | inr higher ↦ still now r (Some own) after a p (known.there p higher)
      ];
      kept = λ node c. still_node now r (Some own) after a node (g.kept node c);
      only = λ node c. elim (added_node now r (Some own) after a node c) [
        | inr last ↦ inr (inr last)
        | inl inside ↦ elim (g.only node inside) [
          | inl was ↦ inl was
          | inr fresh ↦ inr (inl fresh)
        ]
      ];
      last = λ p c. elim (added_place now r (Some own) after a p c) [
        | inl inside ↦ inr (known.before p inside)
        | inr same ↦ inl (sym same)
      ];
    }

-- ---- whether a front is a place

last_byte : (xs : List ℕ) (i : ℕ) → i < length xs → drop i (take (suc i) xs) ≡ get_or xs i 0 ∷ []
last_byte [] i l = absurd (omega arith)
last_byte (x ∷ xs) zero l = refl
last_byte (x ∷ xs) (suc i) l = last_byte xs i (omega arith)

no_slash : (text : List ℕ) (i : ℕ) → i < length text → (get_or text i 0 ≡ 47 → ⊥) → is_folder (take (i + 1) text) ≡ false
no_slash text i l apart =
    let size : i + 1 ≡ suc i = omega arith in
    let long : length (take (suc i) text) - 1 ≡ i = (let e = length-take-le (suc i) text (omega arith) in omega arith) in
    and_left _ _ (ap (λ k. ends_in_slash (take k text)) size
    ∙ (ap (λ k. pointwise nat_eq (47 ∷ []) (drop k (take (suc i) text))) long
    ∙ (ap (pointwise nat_eq (47 ∷ [])) (last_byte text i l) ∙ and_left _ _ (ne_eqb 47 (get_or text i 0) (λ e. apart (sym e))))))

-- a front above a text is a folder
above_folder : (text : List ℕ) (size : ℕ) → 0 < size → size < length text → Contains (above text) (take size text) → is_folder (take size text) ≡ true
above_folder text size some l c =
    let a = above_is text (take size text) c in
    let e = ap length a.front.is_front ∙ length-take-le a.front.size text (let s = a.front.shorter in omega arith) in
    let n = length-take-le size text (omega arith) in
    folder_test (take size text) (elim a.folder [
      | inl none ↦ absurd (omega (arith, e, n, none, some))
      | inr f ↦ f
    ])

pub top_there : (text : List ℕ) (size : ℕ) → size ≡ 0 → size < length text → ([] ≡ take size text) × Contains (above text) (take size text)
top_there text size e l = (sym (ap (λ k. take k text) e), above_from text (take size text) (record { front = record { size = size; shorter = l; is_front = refl }; folder = inl e }))

pub byte_fails : (text bytes : List ℕ) (size : ℕ) → bytes ≡ text → (size ≡ 0 → ⊥) → size < length text → (get_or bytes (size - 1) 0 ≡ 47 → ⊥) → Contains (above text) (take size text) → ⊥
byte_fails text bytes size same some l apart c =
    let less : size - 1 + 1 ≡ size = omega (arith, some) in
    let fails : is_folder (take (size - 1 + 1) text) ≡ false = no_slash text (size - 1) (omega (arith, some)) (λ e. apart (ap (λ xs. get_or xs (size - 1) 0) same ∙ e)) in
    true≢false (sym (above_folder text size (omega (arith, some)) l c) ∙ (ap (λ k. is_folder (take k text)) (sym less) ∙ fails))

pub slash_boundary : (text bytes : List ℕ) (size : ℕ) → IsUtf8 text → bytes ≡ text → (size ≡ 0 → ⊥) → size < length text → get_or bytes (size - 1) 0 ≡ 47 → IsCharBoundary text size
slash_boundary text bytes size utf8 same some l slash =
    let one : size - 1 + 1 ≡ size = omega (arith, some) in
    let b : get_or text (size - 1) 0 ≡ 47 = ap (λ xs. get_or xs (size - 1) 0) (sym same) ∙ slash in
    subst (IsCharBoundary text) one (IsCharBoundary-after_ascii text (size - 1) utf8 (omega (arith, some)) (omega (arith, b)))

pub folder_there : (text front : List ℕ) (size : ℕ) (test : Bool) → front ≡ take (size - 0) text → size < length text → test ≡ is_folder front → test ≡ true → (front ≡ take size text) × Contains (above text) (take size text)
folder_there text front size test same l told is =
    let whole : front ≡ take size text = same ∙ ap (λ k. take k text) (omega arith) in
    (whole, above_from text (take size text) (record { front = record { size = size; shorter = l; is_front = refl }; folder = inr (subst IsFolder whole (folder_from_test front (sym told ∙ is))) }))

pub folder_fails : (text front : List ℕ) (size : ℕ) (test : Bool) → front ≡ take (size - 0) text → (size ≡ 0 → ⊥) → size < length text → test ≡ is_folder front → test ≡ false → Contains (above text) (take size text) → ⊥
folder_fails text front size test same some l told is c =
    let whole : front ≡ take size text = same ∙ ap (λ k. take k text) (omega arith) in
    true≢false (sym (above_folder text size (omega (arith, some)) l c) ∙ (ap is_folder (sym whole) ∙ (sym told ∙ is)))

-- ---- the code's steps

pub front_ready : (nodes : List Node) (r front : List ℕ) (size : ℕ) → IsReady nodes r size → size < length r → front ≡ take size r → AreKnown nodes front
front_ready nodes r front size ready l e = subst (AreKnown nodes) (sym e) (front_known nodes r size ready l)

pub next_front : (before now after : List Node) (r : List ℕ) (from size : ℕ) → IsReady before r from → from ≤ size → IsGrowing before r size now → size < length r → (Contains (above r) (take size r) → IsAdded now (take size r) None after) → ((Contains (above r) (take size r) → ⊥) → after ≡ now) → IsGrowing before r (size + 1) after
next_front before now after r from size ready up g l added skip = elim (cases_among (above r) (take size r)) [
  | inl c ↦ growing_more before r size now after (λ p at. ready.before size p up (omega arith) at) g l c (added c)
  | inr n ↦ subst (IsGrowing before r (size + 1)) (sym (skip n)) (growing_skipped before r size now g l n)
]

pub grown_at : (E : Type 0) (before : List Node) (r : List ℕ) (size own : ℕ) (now after : List Node) (result : Result ⊤ E) → IsGrowing before r size now → size ≡ length r → OnOk result (IsAdded now r (Some own) after) → OnOk result (IsGrown before r own after)
grown_at E before r size own now after (Ok u) g e added = grown_whole before r size own now after g e added
grown_at E before r size own now after (Err fault) g e added = added
