-- How many mappings a map has: at places and for specifiers each of which stands once.
use Rattle.std.proofs.Common.{refl, sym, ap, ◌∙◌, subst, arith}
use Rattle.std.proofs.lemmas.Bool.{cases_Bool, cond-true, cond-false}
use Rattle.std.proofs.lemmas.List.Sums.{sum_by-cons}
use Rattle.std.proofs.lemmas.Option.{none-some}
use Rattle.std.specs.Cmp.Lexicographic.{slice_cmp, nat_list_cmp_total}
use Rattle.std.specs.FinMap.{get, remove, insert, entries, len, empty, same_map, slice_cmp-IsAntisymmetric, nat_cmp-IsAntisymmetric, get-remove, entries-insert, get-entries, len-entries, find, put}
use Rattle.std.specs.FinMap.Entries.{by_order}
use Rattle.std.specs.List.{sum_by}
use Rattle.std.specs.Ordering.{nat_cmp, is_eq}
use Rattle.std.specs.Prelude.{◌≡◌, ◌⊎◌, ℕ, ◌≤◌, ◌+◌, true, false, cond, List, [], ◌∷◌, length, Option, Some, None, Contains}
use Rattle.std.specs.declared.cmp.Ordering.{Ordering}
use Rattle.std.specs.declared.cmp.Ordering.TheVariants.{Less, Equal, Greater}
use mathlib.Core.Logic.{inl, inr}
use Rattle.import_map_spec.proofs.Entries.{same_key, same_key_is, same_key_itself, get_inserted, get_nowhere, no_entries, cases_option}
use Rattle.import_map_spec.specs.ParsedMap.{Texts}
use Rattle.layout_spec.proofs.Contained.{contains_here, contains_there, contains_cases, contains_none}
use Rattle.fewest_spec.proofs.Counts.{Apart, one_if_some, count_at, without}

-- ---- what the values of a map weigh together

module _ {X : Type 0} (size : X → ℕ) where
  abbrev pub weight : Option X → ℕ
  weight None = 0
  weight (Some x) = size x

  abbrev pub weigh : Texts X → List (List ℕ) → ℕ
  weigh m [] = 0
  weigh m (key ∷ keys) = weight (get m key) + weigh m keys

  abbrev pub all_of : List (List ℕ × X) → ℕ
  all_of es = sum_by (λ e. size e.1) es

  put_weight : (k : List ℕ) (x : X) (es : List (List ℕ × X)) → find (slice_cmp nat_cmp) k es ≡ None → all_of (put (slice_cmp nat_cmp) k x es) ≡ size x + all_of es
  put_weight k x [] e = sum_by-cons (λ (e : List ℕ × X). size e.1) (k, x) []
  put_weight k x (first ∷ es) e = by (slice_cmp nat_cmp k first.0) refl (put_weight k x es)
    where
      by : (o : Ordering) → slice_cmp nat_cmp k first.0 ≡ o → (find (slice_cmp nat_cmp) k es ≡ None → all_of (put (slice_cmp nat_cmp) k x es) ≡ size x + all_of es) → all_of (by_order o ((k, x) ∷ first ∷ es) ((first.0, x) ∷ es) (first ∷ put (slice_cmp nat_cmp) k x es)) ≡ size x + all_of (first ∷ es)
      by Less f inner = sum_by-cons (λ (e : List ℕ × X). size e.1) (k, x) (first ∷ es)
      by Equal f inner = absurd (none-some first.1 (sym e ∙ cond-true _ (Some first.1) (find (slice_cmp nat_cmp) k es) (ap is_eq f)))
      by Greater f inner =
          let rest = inner (sym (cond-false _ (Some first.1) (find (slice_cmp nat_cmp) k es) (ap is_eq f)) ∙ e) in
          let a = sum_by-cons (λ (e : List ℕ × X). size e.1) first (put (slice_cmp nat_cmp) k x es) in
          let b = sum_by-cons (λ (e : List ℕ × X). size e.1) first es in
          omega (arith, rest, a, b)

  gone : (m : Texts X) (key : List ℕ) → get (remove m key) key ≡ None
  gone m key = get-remove nat_list_cmp_total m key key ∙ cond-true _ None (get m key) (same_key_itself key)

  put_back : (m : Texts X) (key : List ℕ) (x : X) → get m key ≡ Some x → insert (remove m key) key x ≡ m
  put_back m key x e = same_map nat_list_cmp_total (slice_cmp-IsAntisymmetric nat_cmp-IsAntisymmetric) (insert (remove m key) key x) m (λ q.
      get_inserted (remove m key) key x q ∙ (ap (cond (same_key q key) (Some x)) (get-remove nat_list_cmp_total m key q) ∙ by q (cases_Bool (same_key q key))))
    where
      by : (q : List ℕ) → (same_key q key ≡ true) ⊎ (same_key q key ≡ false) → cond (same_key q key) (Some x) (cond (same_key q key) None (get m q)) ≡ get m q
      by q (inl t) = cond-true _ (Some x) (cond (same_key q key) None (get m q)) t ∙ (sym e ∙ ap (get m) (sym (same_key_is q key t)))
      by q (inr f) = cond-false _ (Some x) (cond (same_key q key) None (get m q)) f ∙ cond-false _ None (get m q) f

  pub weight_without : (m : Texts X) (key : List ℕ) (x : X) → get m key ≡ Some x → size x + all_of (entries (remove m key)) ≡ all_of (entries m)
  weight_without m key x e =
      sym (put_weight key x (entries (remove m key)) (sym (get-entries (remove m key) key) ∙ gone m key))
      ∙ (ap all_of (sym (entries-insert nat_list_cmp_total (remove m key) key x)) ∙ ap (λ (n : Texts X). all_of (entries n)) (put_back m key x e))

  weigh_without : (m : Texts X) (key : List ℕ) (keys : List (List ℕ)) → (Contains keys key → ⊥) → weigh (remove m key) keys ≡ weigh m keys
  weigh_without m key [] apart = refl
  weigh_without m key (first ∷ keys) apart =
      λ i. weight (without m key first (λ e. apart (subst (Contains (first ∷ keys)) e (contains_here first keys))) i) + weigh_without m key keys (λ c. apart (contains_there key first keys c)) i

  pub weigh_within : (m : Texts X) (keys : List (List ℕ)) → Apart keys → weigh m keys ≤ all_of (entries m)
  weigh_within m [] apart = omega arith
  weigh_within m (key ∷ keys) apart = elim (cases_option (get m key)) [
    | inl none ↦ let n = ap weight none in let l = weigh_within m keys apart.1 in omega (arith, n, l)
    | inr some ↦
        let n = ap weight some.1 in
        let l = weigh_within (remove m key) keys apart.1 in
        let c = weigh_without m key keys apart.0 in
        let s = weight_without m key some.0 some.1 in
        omega (arith, n, l, c, s)
  ]

  abbrev pub Covers : List (List ℕ) → Texts X → Type 0
  Covers keys m = (key : List ℕ) (x : X) → get m key ≡ Some x → Contains keys key

  covers_rest : (m : Texts X) (key : List ℕ) (keys : List (List ℕ)) → Covers (key ∷ keys) m → Covers keys (remove m key)
  covers_rest m key keys covers other x e = elim (cases_Bool (same_key other key)) [
    | inl t ↦ absurd (none-some x (sym (get-remove nat_list_cmp_total m key other ∙ cond-true _ None (get m other) t) ∙ e))
    | inr f ↦ elim (contains_cases other key keys (covers other x (sym (get-remove nat_list_cmp_total m key other ∙ cond-false _ None (get m other) f) ∙ e))) [
      | inr later ↦ later
      | inl same ↦ absurd (none-some x (sym (ap (get (remove m key)) (sym same) ∙ gone m key) ∙ e))
    ]
  ]

  same_none : (m : Texts X) (key : List ℕ) → get m key ≡ None → remove m key ≡ m
  same_none m key e = same_map nat_list_cmp_total (slice_cmp-IsAntisymmetric nat_cmp-IsAntisymmetric) (remove m key) m (λ q. get-remove nat_list_cmp_total m key q ∙ by q (cases_Bool (same_key q key)))
    where
      by : (q : List ℕ) → (same_key q key ≡ true) ⊎ (same_key q key ≡ false) → cond (same_key q key) None (get m q) ≡ get m q
      by q (inl t) = cond-true _ None (get m q) t ∙ (sym e ∙ ap (get m) (sym (same_key_is q key t)))
      by q (inr f) = cond-false _ None (get m q) f

  -- keys that cover a map are all that it weighs
  pub weigh_all : (m : Texts X) (keys : List (List ℕ)) → Apart keys → Covers keys m → all_of (entries m) ≤ weigh m keys
  weigh_all m [] apart covers =
      let none : m ≡ empty = same_map nat_list_cmp_total (slice_cmp-IsAntisymmetric nat_cmp-IsAntisymmetric) m empty (λ q. elim (cases_option (get m q)) [
        | inl none ↦ none ∙ sym (get_nowhere q)
        | inr some ↦ absurd (contains_none q (covers q some.0 some.1))
      ]) in
      let e = ap (λ (n : Texts X). all_of (entries n)) none ∙ ap all_of (no_entries X) in
      omega (arith, e)
  weigh_all m (key ∷ keys) apart covers = elim (cases_option (get m key)) [
    | inl none ↦
        let n = ap weight none in
        let l = weigh_all m keys apart.1 (subst (Covers keys) (same_none m key none) (covers_rest m key keys covers)) in
        omega (arith, n, l)
    | inr some ↦
        let n = ap weight some.1 in
        let l = weigh_all (remove m key) keys apart.1 (covers_rest m key keys covers) in
        let c = weigh_without m key keys apart.0 in
        let s = weight_without m key some.0 some.1 in
        omega (arith, n, l, c, s)
  ]

-- ---- a size that is one is a count

length_ones : {X : Type 0} (es : List X) → sum_by (λ e. 1) es ≡ length es
length_ones [] = refl
length_ones (e ∷ es) = let a = sum_by-cons (λ e. 1) e es in let b = length_ones es in omega (arith, a, b)

count_ones : (X : Type 0) (m : Texts X) (keys : List (List ℕ)) → weigh (λ x. 1) m keys ≡ count_at m keys
count_ones X m [] = refl
count_ones X m (key ∷ keys) = λ i. by (get m key) i + count_ones X m keys i
  where
    by : (o : Option X) → weight (λ x. 1) o ≡ one_if_some o
    by None = refl
    by (Some x) = refl

pub count_all : (X : Type 0) (m : Texts X) (keys : List (List ℕ)) → Apart keys → ((key : List ℕ) (x : X) → get m key ≡ Some x → Contains keys key) → len m ≤ count_at m keys
count_all X m keys apart covers =
    let l = weigh_all (λ x. 1) m keys apart covers in
    let a = length_ones (entries m) in
    let b = len-entries m in
    let c = count_ones X m keys in
    omega (arith, l, a, b, c)
