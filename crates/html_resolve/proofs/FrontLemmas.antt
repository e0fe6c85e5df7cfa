-- The last `/` of a text, and the fronts of that text.
use Rattle.std.proofs.Common.{◌≡◌, ◌≢◌, ℕ, zero, suc, ◌<◌, ◌≤◌, ◌+◌, ◌-◌, ◌++◌, true, false, List, [], ◌∷◌, take, drop, length, sym, ap, ◌∙◌, subst, arith, get_or, min, lit<}
use Rattle.std.specs.Prelude.{nat_eq, codes, ◌&&◌}
use Rattle.std.specs.Prelude.{IsUtf8, IsCharBoundary}
use Rattle.std.proofs.lemmas.Str.{IsCharBoundary-after_ascii}
use Rattle.std.specs.Cmp.Lexicographic.{pointwise}
use Rattle.std.proofs.Math.Seq.{take-suc}
use Rattle.std.proofs.lemmas.Bool.{ne_eqb}
use Rattle.std.proofs.lemmas.List.{get_or-take, length-take, take-append-drop, drop_at, length-take-le}
use Rattle.std.proofs.lemmas.List.{length_push}
use Rattle.html_resolve.specs.Fronts.{NoneBetween, HasNoFront, IsNextFront}
use Rattle.url_spec.specs.Specifiers.{ends_in_slash}

last : (p : List ℕ) (b : ℕ) → drop (length (p ++ b ∷ []) - 1) (p ++ b ∷ []) ≡ b ∷ []
last p b = let e = length_push p b in drop_at p (b ∷ []) (length (p ++ b ∷ []) - 1) (omega arith)

ends_slash : (p : List ℕ) → ends_in_slash (p ++ 47 ∷ []) ≡ true
ends_slash p = ap (pointwise nat_eq (codes "/")) (last p 47)

other : (b : ℕ) → b ≢ 47 → pointwise nat_eq (codes "/") (b ∷ []) ≡ false
other b n = ap (λ t. t && true) (ne_eqb 47 b (λ e. n (sym e)))

ends_other : (p : List ℕ) (b : ℕ) → b ≢ 47 → ends_in_slash (p ++ b ∷ []) ≡ false
ends_other p b n = ap (pointwise nat_eq (codes "/")) (last p b) ∙ other b n

within_text : (text left : List ℕ) → left ≡ take (length left) text → length left ≤ length text
within_text text left e = let p : length left ≡ min (length left) (length text) = ap length e ∙ length-take (length left) text in omega arith

-- what holds of each byte behind the one at k
abbrev pub NoSlash : List ℕ → ℕ → Type 0
NoSlash left k = (i : ℕ) → k < i → i < length left → get_or left i 0 ≢ 47

module _ (text left : List ℕ) (e : left ≡ take (length left) text) where
  same_byte : (i : ℕ) → i < length left → get_or left i 0 ≡ get_or text i 0
  same_byte i l = ap (λ xs. get_or xs i 0) e ∙ get_or-take (length left) text i 0 l

  front_of : (i : ℕ) → i < length left → take (suc i) text ≡ take i text ++ get_or left i 0 ∷ []
  front_of i l = let w = within_text text left e in take-suc text i 0 (omega arith) ∙ ap (λ b. take i text ++ b ∷ []) (sym (same_byte i l))

  no_slash_at : (i : ℕ) → i < length left → get_or left i 0 ≢ 47 → ends_in_slash (take (suc i) text) ≡ false
  no_slash_at i l n = ap ends_in_slash (front_of i l) ∙ ends_other (take i text) (get_or left i 0) n

  slash_at : (i : ℕ) → i < length left → get_or left i 0 ≡ 47 → ends_in_slash (take (suc i) text) ≡ true
  slash_at i l s = ap ends_in_slash (front_of i l ∙ ap (λ b. take i text ++ b ∷ []) s) ∙ ends_slash (take i text)

  none_above : (k : ℕ) → NoSlash left k → NoneBetween text (suc k) (length left)
  none_above k none zero p q = absurd (omega arith)
  none_above k none (suc i) p q = no_slash_at i (omega arith) (none i (omega arith) (omega arith))

  none_at_all : ((i : ℕ) → i < length left → get_or left i 0 ≢ 47) → NoneBetween text 0 (length left)
  none_at_all none zero p q = absurd (omega arith)
  none_at_all none (suc i) p q = no_slash_at i (omega arith) (none i (omega arith))

  front_at :
      (k : ℕ) (front rest before : List ℕ) → k < length left → get_or left k 0 ≡ 47 → NoSlash left k → front ≡ take (suc k) text → rest ≡ drop (suc k) text → before ≡ take k text
      → IsNextFront text (length left) front rest before
  front_at k front rest before l s absent f r b =
      let w = within_text text left e in
      let long : length front ≡ suc k = ap length f ∙ length-take-le (suc k) text (omega arith) in
      let short : length before ≡ k = ap length b ∙ length-take-le k text (omega arith) in
      record {
        whole = sym (take-append-drop (suc k) text) ∙ (λ i. sym f i ++ sym r i);
        slash = ap ends_in_slash f ∙ slash_at k l s;
        within = omega arith;
        none = subst (λ m. NoneBetween text m (length left)) (sym long) (none_above k absent);
        left = b ∙ ap (λ n. take n text) (sym short);
        shorter = omega arith;
      }

-- the fronts of at most so many bytes, where these are the bytes
module _ (text left : List ℕ) (limit : ℕ) (within : limit ≤ length text) (is : left ≡ take limit text) where
  long : length left ≡ limit
  long = ap length is ∙ length-take-le limit text within

  front_is : left ≡ take (length left) text
  front_is = is ∙ ap (λ n. take n text) (sym long)

  pub no_front : ((i : ℕ) → i < length left → get_or left i 0 ≢ 47) → HasNoFront text limit
  no_front absent = record { none = subst (NoneBetween text 0) long (none_at_all text left front_is absent) }

  pub next_one :
      (k : ℕ) (front rest before : List ℕ) → k < length left → get_or left k 0 ≡ 47 → NoSlash left k → front ≡ take (suc k) text → rest ≡ drop (suc k) text → before ≡ take k text
      → IsNextFront text limit front rest before
  next_one k front rest before l s absent f r b = subst (λ n. IsNextFront text n front rest before) long (front_at text left front_is k front rest before l s absent f r b)

  pub behind_slash : (k : ℕ) → k < length left → get_or left k 0 ≡ 47 → IsUtf8 text → IsCharBoundary text (k + 1)
  behind_slash k l s u =
      let here : get_or text k 0 ≡ 47 = sym (same_byte text left front_is k l) ∙ s in
      let e = long in
      IsCharBoundary-after_ascii text k u (omega arith) (subst (λ b. b < 128) (sym here) (lit< tt))
