-- The members by number, one more at a time, and the others behind them.
use Rattle.std.proofs.Common.{◌≡◌, ℕ, ◌+◌, Bool, true, false, cond, List, [], ◌∷◌, ◌++◌, refl, sym, ap, ◌∙◌, subst, arith}
use Rattle.std.specs.Prelude.{nat_lt}
use Rattle.std.specs.declared.cmp.Ordering.{Ordering}
use Rattle.std.specs.declared.cmp.Ordering.TheVariants.{Less, Equal, Greater}
use Rattle.std.specs.Ordering.{nat_cmp, is_lt, ordering_then, match_ordering}
use Rattle.std.specs.BTreeMap.{BTreeMap, insert_entry}
use Rattle.std.specs.Cmp.{nat_cmp_is}
use Rattle.std.specs.Map.{values_of}
use Rattle.std.proofs.lemmas.Bool.Decides.{nat_tests}
use Rattle.std.proofs.lemmas.Bool.{cond-true, cond-false}
use denote.Ref.{Bor}
use Rattle.json_spec.specs.PropertyOrder.{number_of, is_array_index, by_number, index_members, other_members, joined, in_property_order}
use Rattle.json_spec.specs.Value.{Members, a_member}
use Rattle.ordered_json.specs.Shown.{json_of}
use Rattle.ordered_json.specs.declared.value.Value.{Value}
use Rattle.ordered_json.specs.Lent.{lent, AreNumbered, HasIndices}

abbrev Lent : Type 0
Lent = Bor (List ℕ × Value)

abbrev Numbered : Type 0
Numbered = (ℕ × ℕ) × Lent

abbrev by_both : ℕ × ℕ → ℕ × ℕ → Ordering
by_both x y = ordering_then (nat_cmp x.0 y.0) (nat_cmp x.1 y.1)

-- a greater count breaks ties
placed : {A : Type 0} (o p : Ordering) (a b c : A) → p ≡ Greater → match_ordering (ordering_then o p) a b c ≡ cond (is_lt o) a c
placed Less p a b c e = refl
placed Equal p a b c e = ap (λ r. match_ordering r a b c) e
placed Greater p a b c e = refl

lent_either : (t : Bool) (a b : List Numbered) → lent (values_of (cond t a b)) ≡ cond t (lent (values_of a)) (lent (values_of b))
lent_either true a b = refl
lent_either false a b = refl

is_lower : (n m : ℕ) → is_lt (nat_cmp n m) ≡ nat_lt n m
is_lower n m = grind (arith, nat_tests)

inserted : (count : ℕ) (pair : Lent) (es : List Numbered) → AreNumbered count es
    → lent (values_of (insert_entry by_both es (number_of pair.now.0, count) pair)) ≡ by_number pair.now.0 (json_of pair.now.1) (lent (values_of es))
inserted count pair [] below = refl
inserted count pair (e ∷ es) below =
    let n = number_of pair.now.0 in
    let later : nat_cmp count e.0.1 ≡ Greater = sym (nat_cmp_is count e.0.1 Greater below.1) in
    let before : is_lt (nat_cmp n e.0.0) ≡ nat_lt n (number_of e.1.now.0) = is_lower n e.0.0 ∙ ap (nat_lt n) below.0 in
    ap (λ fs. lent (values_of fs)) (placed (nat_cmp n e.0.0) (nat_cmp count e.0.1) _ _ _ later)
    ∙ (lent_either (is_lt (nat_cmp n e.0.0)) _ _
    ∙ both _ before (ap (a_member e.1.now.0 (json_of e.1.now.1)) (inserted count pair es below.2)))
  where
    both : {A : Type 0} {s t : Bool} {c d : A} (a : A) → s ≡ t → c ≡ d → cond s a c ≡ cond t a d
    both a p q = λ i. cond (p i) a (q i)

numbered_either : (count : ℕ) (t : Bool) (a b : List Numbered) → AreNumbered count a → AreNumbered count b → AreNumbered count (cond t a b)
numbered_either count true a b p q = p
numbered_either count false a b p q = q

more_counts : (count : ℕ) (es : List Numbered) → AreNumbered count es → AreNumbered (count + 1) es
more_counts count [] below = tt
more_counts count (e ∷ es) below = let l = below.1 in (below.0, omega arith, more_counts count es below.2)

still_numbered : (count : ℕ) (pair : Lent) (es : List Numbered) → AreNumbered count es → AreNumbered (count + 1) (insert_entry by_both es (number_of pair.now.0, count) pair)
still_numbered count pair [] below = (refl, omega arith, tt)
still_numbered count pair (e ∷ es) below =
    let n = number_of pair.now.0 in
    let later : nat_cmp count e.0.1 ≡ Greater = sym (nat_cmp_is count e.0.1 Greater below.1) in
    let all = more_counts count (e ∷ es) below in
    subst (AreNumbered (count + 1)) (sym (placed (nat_cmp n e.0.0) (nat_cmp count e.0.1) _ _ _ later))
    (numbered_either (count + 1) (is_lt (nat_cmp n e.0.0)) _ _ (refl, omega arith, all) (all.0, all.1, still_numbered count pair es below.2))

-- a pair whose name is an array index goes to its place
pub index_put : (count : ℕ) (number : ℕ) (pair : Lent) (old new : BTreeMap (ℕ × ℕ) Lent) → is_array_index pair.now.0 ≡ true → number ≡ number_of pair.now.0 → new.entries ≡ insert_entry by_both old.entries (number, count) pair
    → (seen : List (List ℕ × Value)) → HasIndices count seen old → HasIndices (count + 1) (pair.now ∷ seen) new
index_put count number pair old new index named e seen h =
    let put : new.entries ≡ insert_entry by_both old.entries (number_of pair.now.0, count) pair = e ∙ ap (λ n. insert_entry by_both old.entries (n, count) pair) named in
    record {
      members = ap (λ es. lent (values_of es)) put ∙ (inserted count pair old.entries h.numbers ∙ (ap (by_number pair.now.0 (json_of pair.now.1)) h.members ∙ sym (cond-true _ _ _ index)));
      numbers = subst (AreNumbered (count + 1)) (sym put) (still_numbered count pair old.entries h.numbers);
    }

-- and any other one isn't put
pub other_passed : (count : ℕ) (pair : List ℕ × Value) (numbered : BTreeMap (ℕ × ℕ) Lent) → is_array_index pair.0 ≡ false → (seen : List (List ℕ × Value)) → HasIndices count seen numbered → HasIndices (count + 1) (pair ∷ seen) numbered
other_passed count pair numbered other seen h =
    record { members = h.members ∙ sym (cond-false _ _ _ other); numbers = more_counts count numbered.entries h.numbers }

pub nothing_put : (numbered : BTreeMap (ℕ × ℕ) Lent) → numbered.entries ≡ [] → HasIndices 1 [] numbered
nothing_put numbered e = record { members = ap (λ es. lent (values_of es)) e; numbers = subst (AreNumbered 1) (sym e) tt }

-- ---- the others behind them

pushed : (xs : List Lent) (pair : Lent) (more : Members) → joined (lent (xs ++ pair ∷ [])) more ≡ joined (lent xs) (a_member pair.now.0 (json_of pair.now.1) more)
pushed [] pair more = refl
pushed (x ∷ xs) pair more = ap (a_member x.now.0 (json_of x.now.1)) (pushed xs pair more)

pub other_put : (pair : Lent) (old new : List Lent) → is_array_index pair.now.0 ≡ false → new ≡ old ++ pair ∷ []
    → (more : Members) → joined (lent new) (other_members more) ≡ joined (lent old) (other_members (a_member pair.now.0 (json_of pair.now.1) more))
other_put pair old new other e more = ap (λ xs. joined (lent xs) (other_members more)) e ∙ (pushed old pair (other_members more) ∙ ap (joined (lent old)) (sym (cond-false _ _ _ other)))

pub index_passed : (pair : List ℕ × Value) (old : List Lent) → is_array_index pair.0 ≡ true
    → (more : Members) → joined (lent old) (other_members more) ≡ joined (lent old) (other_members (a_member pair.0 (json_of pair.1) more))
index_passed pair old index more = ap (joined (lent old)) (sym (cond-true _ _ _ index))

pub whole : (xs ys : List Lent) (ms : Members) → lent xs ≡ index_members ms → lent ys ≡ joined (lent xs) (other_members ms) → lent ys ≡ in_property_order ms
whole xs ys ms e f = f ∙ ap (λ indices. joined indices (other_members ms)) e
