-- The walk over the fronts of a text, by those of them that end in `/`.
use Rattle.std.proofs.Common.{◌≡◌, ℕ, zero, suc, ◌<◌, ◌≤◌, Bool, true, false, List, take, drop, length, Option, Some, None, refl, sym, ap, ◌∙◌, arith}
use Rattle.std.specs.Prelude.{if◌then◌else◌, option_map}
use Rattle.std.specs.Option.{option_or}
use Rattle.std.proofs.lemmas.Bool.{cond-true, cond-false, cases_eq}
use Rattle.std.proofs.lemmas.List.{take_at, drop_at, take-take, take_all}
use mathlib.Core.Logic.{inl, inr}
use Rattle.url_spec.specs.Specifiers.{ends_in_slash}
use Rattle.import_map_spec.specs.LookUps.{longest_front, prefix_match, prefix_key, scope_match, prefix_scope, scope_addresses, resolve_imports_match, Lookup}
use Rattle.import_map_spec.specs.ParsedMap.{Texts, Addresses}
use Rattle.std.specs.FinMap.{get}
use Rattle.html_resolve.specs.Fronts.{NoneBetween, HasNoFront, IsNextFront}

module _ {A : Type 0} (answer : List ℕ → List ℕ → Option A) (skips : (f r : List ℕ) → ends_in_slash f ≡ false → answer f r ≡ None) (text : List ℕ) where
  skip_to : (m n : ℕ) → m ≤ n → NoneBetween text m n → longest_front answer text n ≡ longest_front answer text m
  skip_to m zero l none = ap (longest_front answer text) (let e : zero ≡ m = omega arith in e)
  skip_to m (suc n) l none =
      elim (cases_eq m (suc n)) [
        | inl same ↦ ap (longest_front answer text) (sym same)
        | inr other ↦ ap (λ o. option_or o (longest_front answer text n)) (skips (take (suc n) text) (drop (suc n) text) (none (suc n) (omega arith) (omega arith)))
            ∙ skip_to m n (omega arith) (λ j p q. none j p (omega arith))
      ]

  walk_none : (n : ℕ) → HasNoFront text n → longest_front answer text n ≡ None
  walk_none n f = skip_to 0 n (omega arith) f.none

  walk_next : (n : ℕ) (front rest left : List ℕ) → IsNextFront text n front rest left → longest_front answer text n ≡ option_or (answer front rest) (longest_front answer text (length left))
  walk_next n front rest left f =
      let taken : take (suc (length left)) text ≡ front = ap (take (suc (length left))) f.whole ∙ take_at front rest (suc (length left)) (omega arith) in
      let dropped : drop (suc (length left)) text ≡ rest = ap (drop (suc (length left))) f.whole ∙ drop_at front rest (suc (length left)) (omega arith) in
      skip_to (length front) n f.within f.none ∙ (ap (longest_front answer text) (let e : length front ≡ suc (length left) = omega arith in e) ∙ parts taken dropped)
    where
      parts : take (suc (length left)) text ≡ front → drop (suc (length left)) text ≡ rest → longest_front answer text (suc (length left)) ≡ option_or (answer front rest) (longest_front answer text (length left))
      parts p q = λ i. option_or (answer (p i) (q i)) (longest_front answer text (length left))

if_not : {A : Type 0} (t : Bool) (o : Option A) → t ≡ false → (if t then o else None) ≡ None
if_not t o e = cond-false _ _ _ e

-- the walk over the keys of a set of addresses
pub keys_none : (look : Lookup (Option (List ℕ))) (text : List ℕ) (n : ℕ) → HasNoFront text n → longest_front (prefix_key look) text n ≡ None
keys_none look text n f = walk_none (prefix_key look) (λ front rest e. if_not (ends_in_slash front) (prefix_match (look front) rest) e) text n f

pub keys_next : (look : Lookup (Option (List ℕ))) (text : List ℕ) (n : ℕ) (front rest left : List ℕ) → IsNextFront text n front rest left → longest_front (prefix_key look) text n ≡ option_or (prefix_match (look front) rest) (longest_front (prefix_key look) text (length left))
keys_next look text n front rest left f =
    walk_next (prefix_key look) (λ front rest e. if_not (ends_in_slash front) (prefix_match (look front) rest) e) text n front rest left f
    ∙ ap (λ o. option_or o (longest_front (prefix_key look) text (length left))) (cond-true _ _ _ f.slash)

-- the walk over the scopes
pub scopes_none : (url : Option (List ℕ)) (asked : List ℕ) (scopes : Lookup (Lookup (Option (List ℕ)))) (text : List ℕ) (n : ℕ) → HasNoFront text n → longest_front (prefix_scope url asked scopes) text n ≡ None
scopes_none url asked scopes text n f = walk_none (prefix_scope url asked scopes) (λ front rest e. if_not (ends_in_slash front) (scope_match url asked (scopes front)) e) text n f

pub scopes_next : (url : Option (List ℕ)) (asked : List ℕ) (scopes : Lookup (Lookup (Option (List ℕ)))) (text : List ℕ) (n : ℕ) (front rest left : List ℕ) → IsNextFront text n front rest left → longest_front (prefix_scope url asked scopes) text n ≡ option_or (scope_match url asked (scopes front)) (longest_front (prefix_scope url asked scopes) text (length left))
scopes_next url asked scopes text n front rest left f =
    walk_next (prefix_scope url asked scopes) (λ front rest e. if_not (ends_in_slash front) (scope_match url asked (scopes front)) e) text n front rest left f
    ∙ ap (λ o. option_or o (longest_front (prefix_scope url asked scopes) text (length left))) (cond-true _ _ _ f.slash)

-- the fronts that are longer than any key are passed over
module _ {A : Type 0} (answer : List ℕ → List ℕ → Option A) (text : List ℕ) where
  pass_to : (m n : ℕ) → m ≤ n → ((j : ℕ) (rest : List ℕ) → m < j → j ≤ n → answer (take j text) rest ≡ None) → longest_front answer text n ≡ longest_front answer text m
  pass_to m zero l none = ap (longest_front answer text) (let e : zero ≡ m = omega arith in e)
  pass_to m (suc n) l none =
      elim (cases_eq m (suc n)) [
        | inl same ↦ ap (longest_front answer text) (sym same)
        | inr other ↦ ap (λ o. option_or o (longest_front answer text n)) (none (suc n) (drop (suc n) text) (omega arith) (omega arith))
            ∙ pass_to m n (omega arith) (λ j rest p q. none j rest p (omega arith))
      ]

  reach_to : (before : List ℕ) (m : ℕ) → before ≡ take (length before) text → m ≤ length before → ((j : ℕ) (rest : List ℕ) → m < j → j ≤ length before → answer (take j before) rest ≡ None) → longest_front answer text (length before) ≡ longest_front answer text m
  reach_to before m e l none =
      pass_to m (length before) l (λ j rest p q. ap (λ f. answer f rest) (sym (take-take j (length before) text q) ∙ sym (ap (take j) e)) ∙ none j rest p q)

neither : {A : Type 0} (t : Bool) (o : Option A) → o ≡ None → (if t then o else None) ≡ None
neither true o e = e
neither false o e = refl

-- no key of the addresses is a longer front of what stands before
pub keys_reach : (look : Lookup (Option (List ℕ))) (text before : List ℕ) (m : ℕ) → before ≡ take (length before) text → m ≤ length before → ((j : ℕ) → m < j → j ≤ length before → look (take j before) ≡ None) → longest_front (prefix_key look) text (length before) ≡ longest_front (prefix_key look) text m
keys_reach look text before m e l none =
    reach_to (prefix_key look) text before m e l (λ j rest p q. neither (ends_in_slash (take j before)) (prefix_match (look (take j before)) rest) (ap (λ o. prefix_match o rest) (none j p q)))

pub scopes_reach : (url : Option (List ℕ)) (asked : List ℕ) (scopes : Lookup (Lookup (Option (List ℕ)))) (text before : List ℕ) (m : ℕ) → before ≡ take (length before) text → m ≤ length before → ((j : ℕ) → m < j → j ≤ length before → scopes (take j before) ≡ None) → longest_front (prefix_scope url asked scopes) text (length before) ≡ longest_front (prefix_scope url asked scopes) text m
scopes_reach url asked scopes text before m e l none =
    reach_to (prefix_scope url asked scopes) text before m e l (λ j rest p q. neither (ends_in_slash (take j before)) (scope_match url asked (scopes (take j before))) (ap (scope_match url asked) (none j p q)))

pub whole_front : (text : List ℕ) → text ≡ take (length text) text
whole_front text = sym (take_all (length text) text (omega arith))

-- what stands before the `/` of a front stays within the text
pub within_front : (text : List ℕ) (n : ℕ) (front rest before : List ℕ) (m : ℕ) → n ≤ length text → IsNextFront text n front rest before → m ≤ length before → m ≤ length text
within_front text n front rest before m l f k = let s = f.shorter in let w = f.within in omega arith

-- a scope that is there, and one that isn't
pub scope_is : (url : Option (List ℕ)) (asked : List ℕ) (scopes : Texts Addresses) (key : List ℕ) (addresses : Addresses) → get scopes key ≡ Some addresses → scope_match url asked (scope_addresses scopes key) ≡ resolve_imports_match url asked (get addresses)
scope_is url asked scopes key addresses e = ap (λ o. scope_match url asked (option_map get o)) e

pub no_scope : (url : Option (List ℕ)) (asked : List ℕ) (scopes : Texts Addresses) (key : List ℕ) → get scopes key ≡ None → scope_match url asked (scope_addresses scopes key) ≡ None
no_scope url asked scopes key e = ap (λ o. scope_match url asked (option_map get o)) e

pub none_scoped : (scopes : Texts Addresses) (key : List ℕ) → get scopes key ≡ None → scope_addresses scopes key ≡ None
none_scoped scopes key e = ap (option_map get) e
