-- Needs are taken group by group, and targets are gathered.
use Rattle.std.proofs.Common.{refl, sym, ap, ◌∙◌, subst, arith, append_assoc}
use Rattle.std.proofs.Math.Seq.{drop-append_seam, take-append_seam}
use Rattle.std.proofs.lemmas.List.{take-append-drop, length_push, nil_from_length}
use Rattle.std.proofs.lemmas.List.Elements.{Contains-append_cases}
use Rattle.std.specs.BTreeSet.{insert_key}
use Rattle.std.specs.Cmp.Lexicographic.{slice_cmp}
use Rattle.std.specs.FinMap.Entries.{by_order}
use Rattle.std.specs.Ordering.{nat_cmp, match_ordering}
use Rattle.std.specs.Prelude.{◌≡◌, ◌≢◌, ◌⊎◌, ℕ, zero, suc, ◌+◌, List, [], ◌∷◌, ◌++◌, length, take, drop, Contains, Option, Some, None, MatchOption}
use Rattle.std.proofs.lemmas.Option.{none-some, same_Some}
use Rattle.std.specs.declared.cmp.Ordering.{Ordering}
use Rattle.std.specs.declared.cmp.Ordering.TheVariants.{Less, Equal, Greater}
use mathlib.Core.Logic.{inl, inr}
use Rattle.layout_spec.proofs.Contained.{contains_here, contains_cases, contains_none}
use Rattle.layout_spec.specs.declared.Need.{Need}
use Rattle.fewest_spec.specs.Making.{put_text}
use Rattle.layout.specs.Groups.{IsFront, IsGroup, targets_onto}

-- ---- the size of a group

pub record IsTaken (asked : List ℕ) (needs : List Need) (size : ℕ) (left : List Need) : Type 0 where
  pub done : List Need
  pub whole : done ++ left ≡ needs
  pub count : length done ≡ size
  pub all : size + length left ≡ length needs
  pub alike : (need : Need) → Contains done need → need.asked ≡ asked

pub none_taken : (asked : List ℕ) (needs left : List Need) → left ≡ needs → IsTaken asked needs 0 left
none_taken asked needs left e = record {
  done = [];
  whole = e;
  count = refl;
  all = (let n = ap length e in omega (arith, n));
  alike = λ need c. absurd (contains_none need c);
}

pub taken_more : (asked : List ℕ) (needs left more : List Need) (size : ℕ) (need : Need) → IsTaken asked needs size left → left ≡ need ∷ more → need.asked ≡ asked → IsTaken asked needs (size + 1) more
taken_more asked needs left more size need t e same = record {
  done = t.done ++ need ∷ [];
  whole = append_assoc t.done (need ∷ []) more ∙ (ap (λ ns. t.done ++ ns) (sym e) ∙ t.whole);
  count = (let c = t.count in let p = length_push t.done need in omega (arith, c, p));
  all = (let a = t.all in let n = ap length e in omega (arith, a, n));
  alike = λ any c. elim (Contains-append_cases t.done (need ∷ []) any c) [
    | inl old ↦ t.alike any old
    | inr last ↦ elim (contains_cases any need [] last) [
      | inl is ↦ ap (λ (n : Need). n.asked) (sym is) ∙ same
      | inr none ↦ absurd (contains_none any none)
    ]
  ];
}

front_taken : (asked : List ℕ) (needs left : List Need) (size : ℕ) → IsTaken asked needs size left → ((need : Need) (behind : List Need) → left ≡ need ∷ behind → need.asked ≢ asked) → IsFront asked needs size
front_taken asked needs left size t next = record {
  within = (let a = t.all in omega (arith, a));
  alike = λ need c. t.alike need (subst (λ ns. Contains ns need) front c);
  next = λ need behind e. next need behind (sym back ∙ e);
}
  where
    front : take size needs ≡ t.done
    front = (λ i. take (sym t.count i) (sym t.whole i)) ∙ take-append_seam t.done left

    back : drop size needs ≡ left
    back = (λ i. drop (sym t.count i) (sym t.whole i)) ∙ drop-append_seam t.done left

pub taken_until : (asked : List ℕ) (needs left more : List Need) (size : ℕ) (row : Need) → IsTaken asked needs size left → left ≡ row ∷ more → (row.asked ≡ asked → ⊥) → IsFront asked needs size
taken_until asked needs left more size row t e apart =
    front_taken asked needs left size t (λ need behind f same. apart (subst (λ (n : Need). n.asked ≡ asked) (first_is row need more behind (sym e ∙ f)) same))
  where
    head : Need → List Need → Need
    head d [] = d
    head d (x ∷ xs) = x

    first_is : (x y : Need) (xs ys : List Need) → x ∷ xs ≡ y ∷ ys → y ≡ x
    first_is x y xs ys g = sym (ap (head x) g)

pub taken_all : (asked : List ℕ) (needs left : List Need) (size : ℕ) → IsTaken asked needs size left → length left ≡ 0 → IsFront asked needs size
taken_all asked needs left size t none =
    front_taken asked needs left size t (λ need behind e same. absurd (let n = ap length e in omega (arith, n, none)))

pub group_from : (rows group more rest : List Need) (first : Need) (size : ℕ) → rows ≡ first ∷ rest → IsFront first.asked rows size → group ≡ take size rows → more ≡ drop size rows → IsGroup rows group more
group_from rows group more rest first size e front group_is more_is = record {
  first = first;
  is_first = subst (λ ns. Contains ns first) (sym group_is) (by size front.next);
  whole = (λ i. group_is i ++ more_is i) ∙ take-append-drop size rows;
  alike = λ need c. front.alike need (subst (λ ns. Contains ns need) group_is c);
  next = λ need behind f. front.next need behind (sym more_is ∙ f);
}
  where
    by : (n : ℕ) → ((need : Need) (behind : List Need) → drop n rows ≡ need ∷ behind → need.asked ≢ first.asked) → Contains (take n rows) first
    by zero next = absurd (next first rest e refl)
    by (suc n) next = subst (λ ns. Contains (take (suc n) ns) first) (sym e) (contains_here first (take n rest))

-- ---- one target

abbrev pub OnlySoFar : List ℕ → List Need → List Need → Type 0
OnlySoFar target needs left = (need : Need) → Contains needs need → (need.target ≡ target) ⊎ Contains left need

pub only_starts : (target : List ℕ) (needs left : List Need) → left ≡ needs → OnlySoFar target needs left
only_starts target needs left e need c = inr (subst (λ ns. Contains ns need) (sym e) c)

pub only_on : (target : List ℕ) (needs left more : List Need) (row : Need) → OnlySoFar target needs left → left ≡ row ∷ more → row.target ≡ target → OnlySoFar target needs more
only_on target needs left more row so e same need c = elim (so need c) [
  | inl is ↦ inl is
  | inr later ↦ elim (contains_cases need row more (subst (λ ns. Contains ns need) e later)) [
    | inl here ↦ inl (ap (λ (n : Need). n.target) (sym here) ∙ same)
    | inr behind ↦ inr behind
  ]
]

pub only_done : (target : List ℕ) (needs left : List Need) → OnlySoFar target needs left → length left ≡ 0 → (need : Need) → Contains needs need → need.target ≡ target
only_done target needs left so none need c = elim (so need c) [
  | inl is ↦ is
  | inr later ↦ absurd (let l = later.1 in omega (arith, l, none))
]

-- ---- targets

pub insert_is_put : (texts : List (List ℕ)) (text : List ℕ) → insert_key (slice_cmp nat_cmp) texts text ≡ put_text text texts
insert_is_put [] text = refl
insert_is_put (first ∷ texts) text = by (slice_cmp nat_cmp text first) (insert_is_put texts text)
  where
    by : (o : Ordering) → insert_key (slice_cmp nat_cmp) texts text ≡ put_text text texts → match_ordering o (text ∷ first ∷ texts) (first ∷ texts) (first ∷ insert_key (slice_cmp nat_cmp) texts text) ≡ by_order o (text ∷ first ∷ texts) (first ∷ texts) (first ∷ put_text text texts)
    by Less e = refl
    by Equal e = refl
    by Greater e = ap (λ xs. first ∷ xs) e

pub targets_on : (all texts after : List (List ℕ)) (left more : List Need) (row : Need) (target : List ℕ) → targets_onto texts left ≡ all → left ≡ row ∷ more → target ≡ row.target → after ≡ insert_key (slice_cmp nat_cmp) texts target → targets_onto after more ≡ all
targets_on all texts after left more row target so e same put =
    ap (λ ts. targets_onto ts more) (put ∙ (insert_is_put texts target ∙ ap (λ t. put_text t texts) same)) ∙ (ap (targets_onto texts) (sym e) ∙ so)

pub targets_done : (all texts : List (List ℕ)) (left : List Need) → targets_onto texts left ≡ all → length left ≡ 0 → texts ≡ all
targets_done all texts left so none = ap (targets_onto texts) (sym (nil_from_length left none)) ∙ so

pub with_put : (items after texts : List (List ℕ)) (text copy : List ℕ) → items ≡ after → after ≡ insert_key (slice_cmp nat_cmp) texts copy → copy ≡ text → items ≡ put_text text texts
with_put items after texts text copy e put same = e ∙ (put ∙ (insert_is_put texts copy ∙ ap (λ t. put_text t texts) same))

-- ---- what a match tells

pub matched_none : (X N : Type 0) (S : X → Type 0) (o : Option X) → o ≡ None → MatchOption o N S → N
matched_none X N S None e m = m
matched_none X N S (Some x) e m = absurd (none-some x (sym e))

pub matched_some : (X N : Type 0) (S : X → Type 0) (o : Option X) (x : X) → o ≡ Some x → MatchOption o N S → S x
matched_some X N S None x e m = absurd (none-some x e)
matched_some X N S (Some y) x e m = subst S (same_Some y x e) m
