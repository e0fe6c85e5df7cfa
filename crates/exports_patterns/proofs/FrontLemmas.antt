-- What stands between a front of a text and the text begins with that front; so links lead to all fronts.
use Rattle.std.proofs.Common.{◌≡◌, ◌≢◌, ◌<◌, ◌≤◌, ◌+◌, ◌-◌, ◌++◌, ◌∷◌, ℕ, Bool, true, false, List, [], length, refl, sym, ap, ◌∙◌, subst, arith, length-append, Option, Some, None, Bor}
use Rattle.std.specs.Prelude.{not, slice_index, slice_index_or, is_some, IsTrue, MatchOption, ◌↔◌}
use Rattle.std.specs.declared.cmp.Ordering.TheVariants.{Less, Equal, Greater}
use Rattle.std.specs.Ordering.{nat_cmp, is_lt, ordering_then, ordering_reverse}
use Rattle.std.specs.Cmp.{nat_cmp_total}
use Rattle.std.specs.Cmp.Lexicographic.{slice_cmp, nat_list_cmp_total}
use Rattle.std.specs.FinMap.{nat_cmp-IsAntisymmetric}
use Rattle.std.specs.List.Sorted.{IsSortedByKey, IsPartitionPoint, IsPartitionedBy}
use Rattle.std.specs.Map.{keys_of}
use Rattle.std.proofs.lemmas.Bool.{cases_lt, true≢false}
use Rattle.std.specs.Cmp.{IsStrictWeakOrder}
use Rattle.std.proofs.lemmas.List.{append-nil, length-map, get_or-map, get_or_default, get_or_push, get_or_append_left}
use Rattle.std.proofs.lemmas.List.Sorted.{ranks_by, sorted_far}
use mathlib.Core.Logic.{inl, inr}
use Rattle.node_spec.specs.PatternKeys.{StartsWith}
use Rattle.exports_patterns.specs.Fronts.{text_at, StandsAt, IsAscending, Covers, IsTop, HasLink, LinkedBelow, HasAllLinks}

-- ---- fronts

-- the order of two numbers, asked the other way round
swapped : (a b : ℕ) → nat_cmp b a ≡ ordering_reverse (nat_cmp a b)
swapped a b = nat_cmp_total.antisymm b a

-- where f is a front of t, e isn't below f and t isn't below e, f is a front of e
pub front_between : (f rest e : List ℕ) → is_lt (slice_cmp nat_cmp e f) ≡ false → is_lt (slice_cmp nat_cmp (f ++ rest) e) ≡ false → StartsWith e f
front_between [] rest e p q = (e, refl)
front_between (a ∷ f) rest [] p q = absurd (true≢false p)
front_between (a ∷ f) rest (b ∷ e) p q =
    elim (nat_cmp b a) as (λ o. nat_cmp b a ≡ o → is_lt (ordering_then o (slice_cmp nat_cmp e f)) ≡ false → is_lt (ordering_then (ordering_reverse o) (slice_cmp nat_cmp (f ++ rest) e)) ≡ false → StartsWith (b ∷ e) (a ∷ f)) [
      | Less ↦ λ i p q. absurd (true≢false p)
      | Equal ↦ λ i p q. (let same : b ≡ a = nat_cmp-IsAntisymmetric b a i in let more = front_between f rest e p q in let tail : e ≡ f ++ more.0 = more.1 in (more.0, (let whole : b ∷ e ≡ a ∷ (f ++ more.0) = cc in whole)))
      | Greater ↦ λ i p q. absurd (true≢false q)
    ] refl p (subst (λ o. is_lt (ordering_then o (slice_cmp nat_cmp (f ++ rest) e)) ≡ false) (swapped b a) q)

pub starts_by : (text front : List ℕ) (found : Option (Bor (List ℕ))) (b : Bool) → MatchOption found ((rest : List ℕ) → text ≢ front ++ rest) (λ rest. text ≡ front ++ rest.now) → b ≡ is_some found → IsTrue b ↔ StartsWith text front
starts_by text front None b none e = (λ t. absurd (true≢false (sym t ∙ e)), λ s. absurd (none s.0 s.1))
starts_by text front (Some rest) b is e = (λ t. (rest.now, is), λ s. e)

-- a front isn't above the text
pub front_below : (f rest : List ℕ) → is_lt (slice_cmp nat_cmp (f ++ rest) f) ≡ false
front_below [] [] = refl
front_below [] (b ∷ rest) = refl
front_below (a ∷ f) rest =
    elim (nat_cmp a a) as (λ o. nat_cmp a a ≡ o → is_lt (ordering_then o (slice_cmp nat_cmp (f ++ rest) f)) ≡ false) [
      | Less ↦ λ i. absurd (true≢false (ap is_lt (sym i) ∙ (ap is_lt (swapped a a) ∙ ap (λ o. is_lt (ordering_reverse o)) i)))
      | Equal ↦ λ i. front_below f rest
      | Greater ↦ λ i. refl
    ] refl

pub front_length : (text front : List ℕ) → StartsWith text front → length front ≤ length text
front_length text front s = let e : length text ≡ length (front ++ s.0) = ap length s.1 in omega (arith, length-append front s.0)

-- fronts of one text that are equally long are one
pub same_front : (text one other : List ℕ) → StartsWith text one → StartsWith text other → length one ≡ length other → one ≡ other
same_front text [] [] s t e = refl
same_front text [] (b ∷ other) s t e = absurd (omega arith)
same_front text (a ∷ one) [] s t e = absurd (omega arith)
same_front [] (a ∷ one) (b ∷ other) s t e = let none = s.1 in absurd (cc)
same_front (c ∷ text) (a ∷ one) (b ∷ other) s t e =
    let first : c ≡ a = (let i = s.1 in cc) in
    let also : c ≡ b = (let i = t.1 in cc) in
    let more : text ≡ one ++ s.0 = (let i = s.1 in cc) in
    let rest : text ≡ other ++ t.0 = (let i = t.1 in cc) in
    let same : one ≡ other = same_front text one other (s.0, more) (t.0, rest) (omega arith) in
    cc

-- a text that begins with one as long as itself is that one
pub whole_front : (text front : List ℕ) → StartsWith text front → length front ≡ length text → front ≡ text
whole_front text front s e = same_front text front text s ([], sym (append-nil text)) e

-- ---- places

module _ {X : Type 0} where
  abbrev first : List ℕ × X → List ℕ
  first e = e.0

  pub keys_length : (es : List (List ℕ × X)) → length (keys_of es) ≡ length es
  keys_length es = length-map es first

  pub key_here : (es : List (List ℕ × X)) (k : ℕ) (e : List ℕ × X) → StandsAt es k e → text_at (keys_of es) k ≡ e.0
  key_here es k e s = get_or-map first es k e [] s.0 ∙ ap first s.1

  pub entry_at : (es : List (List ℕ × X)) (k : ℕ) → k < length es → (e : List ℕ × X) × StandsAt es k e
  entry_at [] k l = absurd (omega arith)
  entry_at (e ∷ es) k l = (slice_index_or (e ∷ es) k e, (l, get_or_default (e ∷ es) k (slice_index_or (e ∷ es) k e) e l))

  pub one_stands : (es : List (List ℕ × X)) (k : ℕ) (e f : List ℕ × X) → StandsAt es k e → StandsAt es k f → e ≡ f
  one_stands es k e f s t = sym s.1 ∙ (get_or_default es k e f s.0 ∙ t.1)

  at_entries : (es : List (List ℕ × X)) (i j : ℕ) → i ≤ j → j < length es → ((d : List ℕ × X) → is_lt (slice_cmp nat_cmp (slice_index_or es j d).0 (slice_index_or es i d).0) ≡ false) → is_lt (slice_cmp nat_cmp (text_at (keys_of es) j) (text_at (keys_of es) i)) ≡ false
  at_entries [] i j le lt far = absurd (omega arith)
  at_entries (e ∷ es) i j le lt far =
      let one : text_at (keys_of (e ∷ es)) j ≡ (slice_index_or (e ∷ es) j e).0 = get_or-map first (e ∷ es) j e [] lt in
      let other : text_at (keys_of (e ∷ es)) i ≡ (slice_index_or (e ∷ es) i e).0 = get_or-map first (e ∷ es) i e [] (omega arith) in
      (λ n. is_lt (slice_cmp nat_cmp (one n) (other n))) ∙ far e

  abbrev pub key_below : List ℕ × X → List ℕ × X → Bool
  key_below x y = is_lt (slice_cmp nat_cmp x.0 y.0)

  pub in_order : (es : List (List ℕ × X)) → IsSortedByKey first (slice_cmp nat_cmp) es → IsAscending (keys_of es)
  in_order es up i j le lt =
      let l : j < length es = (let m = keys_length es in omega arith) in
      let far : (d : List ℕ × X) → is_lt (slice_cmp nat_cmp (slice_index_or es j d).0 (slice_index_or es i d).0) ≡ false = λ d. sorted_far (λ (x y : List ℕ × X). is_lt (slice_cmp nat_cmp x.0 y.0)) (ranks_by nat_list_cmp_total first) es up i j d le l in
      at_entries es i j le l far

  pub key_of : (es : List (List ℕ × X)) (k : ℕ) (d : List ℕ × X) → k < length es → text_at (keys_of es) k ≡ (slice_index_or es k d).0
  key_of es k d l = get_or-map first es k d [] l

-- ---- links

abbrev order : IsStrictWeakOrder (λ (x y : List ℕ). is_lt (slice_cmp nat_cmp x y))
order = ranks_by nat_list_cmp_total (λ (t : List ℕ). t)

-- the texts before a place are covered by the one just before it, where the text isn't below that one
pub covered_before : (texts : List (List ℕ)) (text : List ℕ) (at : ℕ) → IsAscending texts → at ≤ length texts → (0 < at → is_lt (slice_cmp nat_cmp text (text_at texts (at - 1))) ≡ false) → Covers texts text at at
covered_before texts text at up within last k l s =
    let above : is_lt (slice_cmp nat_cmp (text_at texts k ++ s.0) (text_at texts (at - 1))) ≡ false = subst (λ t. is_lt (slice_cmp nat_cmp t (text_at texts (at - 1))) ≡ false) s.1 (last (omega arith)) in
    (l, front_between (text_at texts k) s.0 (text_at texts (at - 1)) (up k (at - 1) (omega arith) (omega arith)) above)

pub covered_at_link : (texts : List (List ℕ)) (i : ℕ) → IsAscending texts → i < length texts → Covers texts (text_at texts i) i i
covered_at_link texts i up lt = covered_before texts (text_at texts i) i up (omega arith) (λ some. up (i - 1) i (omega arith) lt)

-- where the text before a place isn't a front, its link tells as much
pub covered_on : (texts : List (List ℕ)) (links text : List ℕ) (most at : ℕ) → 0 < at → (StartsWith text (text_at texts (at - 1)) → ⊥) → HasLink texts (at - 1) (slice_index links (at - 1)) → Covers texts text most at → Covers texts text most (slice_index links (at - 1))
covered_on texts links text most at some not link covers k l s =
    let here = covers k l s in
    let other : k ≢ at - 1 = λ e. not (subst (λ n. StartsWith text (text_at texts n)) e s) in
    link.covers k (omega (arith, here.0)) here.1

-- the last front of the texts before a front
pub covered_below : (texts : List (List ℕ)) (links text : List ℕ) (most at : ℕ) → 0 < at → HasLink texts (at - 1) (slice_index links (at - 1)) → IsTop texts text most at → Covers texts text (at - 1) (slice_index links (at - 1))
covered_below texts links text most at some link top k l s =
    let w = top.within in
    let here = top.covers k (omega arith) s in
    link.covers k l here.1

pub more_links : (texts : List (List ℕ)) (links : List ℕ) (link at : ℕ) → length links ≡ at → LinkedBelow texts links at → IsTop texts (text_at texts at) at link → LinkedBelow texts (links ++ link ∷ []) (at + 1)
more_links texts links link at long linked top i l =
    elim (cases_lt i at) [
      | inl before ↦ subst (HasLink texts i) (sym (get_or_append_left links (link ∷ []) 0 i (omega arith))) (linked i before)
      | inr last ↦ (let here : at ≡ i = omega arith in subst (λ n. HasLink texts n (slice_index (links ++ link ∷ []) n)) here (subst (HasLink texts at) (sym (get_or_push links link 0 at long)) (record { before = top.within; covers = top.covers })))
    ]

-- ---- the search by halves

not_true : (b : Bool) → not b ≡ true → b ≡ false
not_true true e = sym e
not_true false e = refl

not_false : (b : Bool) → not b ≡ false → b ≡ true
not_false true e = refl
not_false false e = sym e

pub covered_behind : (texts : List (List ℕ)) (text : List ℕ) (most from : ℕ) → IsAscending texts → most ≤ length texts → from ≤ most → ((k : ℕ) → k < from → is_lt (slice_cmp nat_cmp text (text_at texts k)) ≡ false) → ((k : ℕ) → from ≤ k → k < most → is_lt (slice_cmp nat_cmp text (text_at texts k)) ≡ true) → Covers texts text most from
covered_behind texts text most from up long within below above k l s =
    elim (cases_lt k from) [
      | inl before ↦ covered_before texts text from up (omega arith) (λ some. below (from - 1) (omega arith)) k before s
      | inr behind ↦ absurd (true≢false (sym (above k behind l) ∙ subst (λ t. is_lt (slice_cmp nat_cmp t (text_at texts k)) ≡ false) (sym s.1) (front_below (text_at texts k) s.0)))
    ]

module _ {X : Type 0} where
  abbrev pub IsBelow : List ℕ → List ℕ × X → Bool
  IsBelow text e = not (is_lt (slice_cmp nat_cmp text e.0))

  pub parted : (text : List ℕ) (es : List (List ℕ × X)) → IsAscending (keys_of es) → IsPartitionedBy (IsBelow text) es
  parted text es up i j d le lt e =
      let n = keys_length es in
      let one = key_of es i d (omega arith) in
      let other = key_of es j d lt in
      let step : is_lt (slice_cmp nat_cmp (slice_index_or es j d).0 (slice_index_or es i d).0) ≡ false = (λ k. is_lt (slice_cmp nat_cmp (sym other k) (sym one k))) ∙ up i j le (omega arith) in
      ap not (order.chain text (slice_index_or es j d).0 (slice_index_or es i d).0 (not_true _ e) step)

  point_covers : (text : List ℕ) (es : List (List ℕ × X)) (i : ℕ) → IsAscending (keys_of es) → i ≤ length es → IsPartitionPoint (λ (y : List ℕ × X). IsBelow text y ≡ true) (λ (y : List ℕ × X). IsBelow text y ≡ false) es i → Covers (keys_of es) text (length es) i
  point_covers text [] i up within point = λ k l s. absurd (omega arith)
  point_covers text (e ∷ es) i up within point =
      let n = keys_length (e ∷ es) in
      covered_behind (keys_of (e ∷ es)) text (length (e ∷ es)) i up (omega arith) within
      (λ k l. ap (λ t. is_lt (slice_cmp nat_cmp text t)) (key_of (e ∷ es) k e (omega arith)) ∙ not_true _ (point.0 k e (omega arith) l))
      (λ k le l. ap (λ t. is_lt (slice_cmp nat_cmp text t)) (key_of (e ∷ es) k e l) ∙ not_false _ (point.1 k e le l))

  -- what a search in these entries, which are those of the list, finds
  pub searched_top : (text : List ℕ) (all es : List (List ℕ × X)) (from at : ℕ) → es ≡ all → IsAscending (keys_of all) → from ≤ length es → (IsPartitionedBy (IsBelow text) es → IsPartitionPoint (λ (y : List ℕ × X). IsBelow text y ≡ true) (λ (y : List ℕ × X). IsBelow text y ≡ false) es from) → ((most : ℕ) → from ≤ most → Covers (keys_of es) text most from → IsTop (keys_of es) text most at) → IsTop (keys_of all) text (length all) at
  searched_top text all es from at same up within point climbed =
      let up' : IsAscending (keys_of es) = subst (λ xs. IsAscending (keys_of xs)) (sym same) up in
      subst (λ xs. IsTop (keys_of xs) text (length xs) at) same (climbed (length es) within (point_covers text es from up' within (point (parted text es up'))))

  pub next_top : (text : List ℕ) (all es : List (List ℕ × X)) (links kept : List ℕ) (at next most : ℕ) → es ≡ all → links ≡ kept → HasAllLinks (keys_of all) kept → 0 < at → at ≤ length all → IsTop (keys_of all) text most at → ((most : ℕ) → slice_index links (at - 1) ≤ most → Covers (keys_of es) text most (slice_index links (at - 1)) → IsTop (keys_of es) text most next) → IsTop (keys_of all) text (at - 1) next
  next_top text all es links kept at next most same also linked some within top climbed =
      let n = keys_length all in
      let a = linked.all in
      let link : HasLink (keys_of all) (at - 1) (slice_index links (at - 1)) = subst (λ ls. HasLink (keys_of all) (at - 1) (slice_index ls (at - 1))) (sym also) (linked.each (at - 1) (omega arith)) in
      subst (λ xs. IsTop (keys_of xs) text (at - 1) next) same
      (climbed (at - 1) link.before (subst (λ xs. Covers (keys_of xs) text (at - 1) (slice_index links (at - 1))) (sym same) (covered_below (keys_of all) links text most at some link top)))
