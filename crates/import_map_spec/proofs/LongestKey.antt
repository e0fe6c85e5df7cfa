-- The walk over the fronts of a text is the walk over the keys in descending order: the longest key that matches answers.
use Rattle.std.proofs.Common.{refl, ap, ◌∙◌, arith, subst, sym}
use Rattle.std.proofs.lemmas.Bool.{cases_eq, cond-true, cond-false, cases_Bool}
use Rattle.std.specs.Prelude.{◌≡◌, ℕ, zero, suc, ◌<◌, ◌≤◌, List, take, drop, Option, Some, None, length, if◌then◌else◌, Bool, true, false}
use mathlib.Core.Logic.{inl, inr}
use Rattle.std.specs.Prelude.{◌↔◌, [], ◌∷◌, ◌++◌}
use Rattle.std.specs.declared.cmp.Ordering.TheVariants.{Less, Equal, Greater}
use Rattle.std.specs.Ordering.{nat_cmp, ordering_then}
use Rattle.std.specs.Cmp.Lexicographic.{slice_cmp}
use Rattle.std.specs.Option.{option_or}
use Rattle.std.proofs.Common.{append-nil}
use Rattle.std.proofs.lemmas.Cmp.{tied_itself, nat_cmp_total}
use Rattle.import_map_spec.specs.Resolving.{KeyApplies, itself, prefix, ScopeApplies, own, above}
use Rattle.import_map_spec.specs.Laws.{NoneAbove, IsFolderFront, KeyOrder}
use Rattle.url_spec.specs.Specifiers.{ends_in_slash}
use Rattle.import_map_spec.specs.LookUps.{longest_front, prefix_match, exact_match, Lookup, prefix_key, scope_match, prefix_scope}
use Rattle.import_map_spec.specs.Resolving.{Resolution, takes_prefixes}

module _ {A : Type 0} (answer : List ℕ → List ℕ → Option A) (text : List ℕ) where
  abbrev At : ℕ → Option A
  At k = answer (take k text) (drop k text)

  longest_some : (n k : ℕ) (a : A) → 0 < k → k ≤ n → At k ≡ Some a → ((j : ℕ) → k < j → j ≤ n → At j ≡ None) → longest_front answer text n ≡ Some a
  longest_some zero k a p l e none = absurd (omega arith)
  longest_some (suc n) k a p l e none =
      elim (cases_eq k (suc n)) [
        | inl same ↦ ap (λ o. option_or o (longest_front answer text n)) (subst (λ j. At j ≡ Some a) same e)
        | inr other ↦ ap (λ o. option_or o (longest_front answer text n)) (none (suc n) (omega arith) (omega arith)) ∙ longest_some n k a p (omega arith) e (λ j m o. none j m (omega arith))
      ]

  longest_none : (n : ℕ) → ((j : ℕ) → 0 < j → j ≤ n → At j ≡ None) → longest_front answer text n ≡ None
  longest_none zero none = refl
  longest_none (suc n) none = ap (λ o. option_or o (longest_front answer text n)) (none (suc n) (omega arith) (omega arith)) ∙ longest_none n (λ j m o. none j m (omega arith))

slash_only : {A : Type 0} (look : List ℕ → Option A) (text : List ℕ) (k j : ℕ) → NoneAbove look text k → k < j → j ≤ length text → (if ends_in_slash (take j text) then look (take j text) else None) ≡ None
slash_only look text k j none l m =
    elim (cases_Bool (ends_in_slash (take j text))) [
      | inl t ↦ cond-true _ _ _ t ∙ none j l (record { some = omega arith; within = m; slash = t })
      | inr f ↦ cond-false _ _ _ f
    ]

pub is_some_match : (address : Option (List ℕ)) (rest : List ℕ) → (a : Resolution) × (prefix_match (Some address) rest ≡ Some a)
is_some_match None rest = (_, refl)
is_some_match (Some url) rest = (_, refl)

-- a front with no key has no answer
no_match : (o : Option (Option (List ℕ))) (t : Bool) (rest : List ℕ) → (if t then o else None) ≡ None → (if t then prefix_match o rest else None) ≡ None
no_match o true rest e = rw e refl
no_match o false rest e = refl

first_exact : (address : Option (List ℕ)) (other : Option Resolution) → option_or (exact_match (Some address)) other ≡ exact_match (Some address)
first_exact None other = refl
first_exact (Some url) other = refl

none_either : {A : Type 0} (b : Bool) (o : Option A) → o ≡ None → (if b then o else None) ≡ None
none_either true o e = e
none_either false o e = refl

module _ (addresses : Lookup (Option (List ℕ))) (text : List ℕ) where
  no_longer : (k : ℕ) → NoneAbove addresses text k → (j : ℕ) → k < j → j ≤ length text → prefix_key addresses (take j text) (drop j text) ≡ None
  no_longer k none j l m = no_match (addresses (take j text)) (ends_in_slash (take j text)) (drop j text) (slash_only addresses text k j none l m)

  prefix_answers : (k : ℕ) (address : Option (List ℕ)) → IsFolderFront text k → addresses (take k text) ≡ Some address → NoneAbove addresses text k → longest_front (prefix_key addresses) text (length text) ≡ prefix_match (Some address) (drop k text)
  prefix_answers k address front found none =
      let match = is_some_match address (drop k text) in
      let here : prefix_key addresses (take k text) (drop k text) ≡ Some match.0 = cond-true _ _ _ front.slash ∙ (ap (λ o. prefix_match o (drop k text)) found ∙ match.1) in
      longest_some (prefix_key addresses) text (length text) k match.0 front.some front.within here (no_longer k none) ∙ sym match.1

-- ---- fronts of one text, and their order

in_order : (one other more rest : List ℕ) → one ++ more ≡ other ++ rest → (slice_cmp nat_cmp one other ≡ Less) ↔ (length one < length other)
in_order [] [] more rest e = ((λ (l : Equal ≡ Less). absurd (cc)), (λ l. absurd (omega arith)))
in_order [] (y ∷ ys) more rest e = ((λ l. omega arith), (λ l. refl))
in_order (x ∷ xs) [] more rest e = ((λ (l : Greater ≡ Less). absurd (cc)), (λ l. absurd (omega arith)))
in_order (x ∷ xs) (y ∷ ys) more rest e =
    let same : x ≡ y = cc in
    let tails : xs ++ more ≡ ys ++ rest = cc in
    let tie : nat_cmp x y ≡ Equal = ap (nat_cmp x) (sym same) ∙ tied_itself nat_cmp_total x in
    let tail = in_order xs ys more rest tails in
    subst (λ o. (ordering_then o (slice_cmp nat_cmp xs ys) ≡ Less) ↔ (length (x ∷ xs) < length (y ∷ ys))) (sym tie)
    ((λ l. let m = tail.0 l in omega arith), (λ l. tail.1 (omega arith)))

-- of two fronts of one text the lesser one is the shorter
fronts_in_order : (text one other more rest : List ℕ) → text ≡ one ++ more → text ≡ other ++ rest → (slice_cmp nat_cmp one other ≡ Less) ↔ (length one < length other)
fronts_in_order text one other more rest e f = in_order one other more rest (sym e ∙ f)

record IsFront (text front : List ℕ) : Type 0 where
  rest : List ℕ
  parts : text ≡ front ++ rest

key_front : (url : Option (List ℕ)) (text key : List ℕ) → KeyApplies url text key → IsFront text key
key_front url text key (itself e) = record { rest = []; parts = sym e ∙ sym (append-nil key) }
key_front url text key (prefix rest takes slash parts) = record { rest = rest; parts = parts }

scope_front : (referrer key : List ℕ) → ScopeApplies referrer key → IsFront referrer key
scope_front referrer key (own e) = record { rest = []; parts = sym e ∙ sym (append-nil key) }
scope_front referrer key (above rest slash parts) = record { rest = rest; parts = parts }

pub key_order : KeyOrder
key_order = record {
  exact = λ addresses url text address e. ap (λ o. option_or (exact_match o) (if takes_prefixes url then longest_front (prefix_key addresses) text (length text) else None)) e ∙ first_exact address _;
  prefix = λ addresses url text k address e p front found none. ap (λ o. option_or (exact_match o) (if takes_prefixes url then longest_front (prefix_key addresses) text (length text) else None)) e
      ∙ (cond-true _ _ _ p ∙ prefix_answers addresses text k address front found none);
  no_key = λ addresses url text e none. ap (λ o. option_or (exact_match o) (if takes_prefixes url then longest_front (prefix_key addresses) text (length text) else None)) e
      ∙ none_either (takes_prefixes url) (longest_front (prefix_key addresses) text (length text)) (longest_none (prefix_key addresses) text (length text) (λ j l m. no_longer addresses text 0 none j l m));
  no_prefix = λ addresses url text e f. ap (λ o. option_or (exact_match o) (if takes_prefixes url then longest_front (prefix_key addresses) text (length text) else None)) e ∙ cond-false _ _ _ f;
  own_scope = λ scopes url text referrer answer e. ap (λ (o : Option Resolution). option_or o (longest_front (prefix_scope url text scopes) referrer (length referrer))) e;
  keys_descend = λ url text one other a b. let p = key_front url text one a in let q = key_front url text other b in fronts_in_order text one other p.rest q.rest p.parts q.parts;
  scopes_descend = λ referrer one other a b. let p = scope_front referrer one a in let q = scope_front referrer other b in fronts_in_order referrer one other p.rest q.rest p.parts q.parts;
  scope = λ scopes url text referrer k answer e front found none. ap (λ o. option_or o (longest_front (prefix_scope url text scopes) referrer (length referrer))) e
      ∙ longest_some (prefix_scope url text scopes) referrer (length referrer) k answer front.some front.within (cond-true _ _ _ front.slash ∙ found) (λ j l m. slash_only (λ key. scope_match url text (scopes key)) referrer k j none l m);
  no_scope = λ scopes url text referrer e none. ap (λ o. option_or o (longest_front (prefix_scope url text scopes) referrer (length referrer))) e
      ∙ longest_none (prefix_scope url text scopes) referrer (length referrer) (λ j l m. slash_only (λ key. scope_match url text (scopes key)) referrer 0 j none l m);
}
