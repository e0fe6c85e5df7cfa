-- Chains from their ends: their order is that by their lengths and then by their numbers, and where they lead.
use Rattle.std.proofs.Common.{◌≡◌, ◌<◌, ◌⊎◌, ◌++◌, [], ◌∷◌, ℕ, suc, List, Some, refl, sym, ap, ◌∙◌, subst, inl, inr, length, arith, reverse, append-nil, append_assoc}
use Rattle.std.specs.Prelude.{slice_get}
use Rattle.std.proofs.lemmas.List.{reverse-append, length-reverse}
use Rattle.chain_spec.specs.Chains.{Asker, by_page, by_module, Targets, end_of, Less, GoesBefore}
use Rattle.chain_spec.proofs.Ways.{one_more, goes}
use Rattle.chain_search.specs.Backs.{LeadsTo, at_page, asks, Before, UpTo}

-- ---- an order

pub through : (a b c : List ℕ) → Before a b → Before b c → Before a c
through a [] c p q = absurd (p)
through a (y ∷ b) [] p q = absurd (q)
through [] (y ∷ b) (z ∷ c) p q = tt
through (x ∷ a) (y ∷ b) (z ∷ c) (inl p) (inl q) = inl (through a b c p q)
through (x ∷ a) (y ∷ b) (z ∷ c) (inl p) (inr q) = inl (subst (Before a) q.0 p)
through (x ∷ a) (y ∷ b) (z ∷ c) (inr p) (inl q) = inl (subst (λ l. Before l c) (sym p.0) q)
through (x ∷ a) (y ∷ b) (z ∷ c) (inr p) (inr q) =
    inr (p.0 ∙ q.0, (let one = p.1 in let two = q.1 in omega arith))

pub upto_then : (a b c : List ℕ) → UpTo a b → UpTo b c → UpTo a c
upto_then a b c (inl e) q = subst (λ l. UpTo l c) (sym e) q
upto_then a b c (inr p) (inl e) = inr (subst (Before a) e p)
upto_then a b c (inr p) (inr q) = inr (through a b c p q)

pub before_upto : (a b c : List ℕ) → Before a b → UpTo b c → Before a c
before_upto a b c p (inl e) = subst (Before a) e p
before_upto a b c p (inr q) = through a b c p q

pub upto_before : (a b c : List ℕ) → UpTo a b → Before b c → Before a c
upto_before a b c (inl e) q = subst (λ l. Before l c) (sym e) q
upto_before a b c (inr p) q = through a b c p q

-- what goes on from an earlier chain is earlier
pub same_number : (a b : List ℕ) (number : ℕ) → UpTo a b → UpTo (number ∷ a) (number ∷ b)
same_number a b number (inl e) = inl (ap (λ l. number ∷ l) e)
same_number a b number (inr p) = inr (inl p)

pub own_front : (a : List ℕ) (number : ℕ) → Before a (number ∷ a)
own_front [] number = tt
own_front (x ∷ a) number = inl (own_front a x)

-- ---- the same as by lengths and numbers

less_behind : (a b c d : List ℕ) → Less a b → Less (a ++ c) (b ++ d)
less_behind [] b c d p = absurd (p)
less_behind (x ∷ a) [] c d p = absurd (p)
less_behind (x ∷ a) (y ∷ b) c d (inl p) = inl p
less_behind (x ∷ a) (y ∷ b) c d (inr p) = inr (p.0, less_behind a b c d p.1)

less_last : (a : List ℕ) (x y : ℕ) → x < y → Less (a ++ x ∷ []) (a ++ y ∷ [])
less_last [] x y p = inl p
less_last (z ∷ a) x y p = inr (refl, less_last a x y p)

turned : (x : ℕ) (a : List ℕ) → reverse (x ∷ a) ≡ reverse a ++ x ∷ []
turned x a = reverse-append (x ∷ []) a

pub record Sorted (a b : List ℕ) : Type 0 where
  pub by : (length a < length b) ⊎ ((length a ≡ length b) × Less (reverse a) (reverse b))

by_ends : (a b : List ℕ) → Before a b → Sorted a b
by_ends a [] p = absurd (p)
by_ends [] (y ∷ b) p = record { by = inl (omega arith) }
by_ends (x ∷ a) (y ∷ b) (inl p) =
    elim ((by_ends a b p).by) [
      | inl short ↦ record { by = inl (omega (arith, short)) }
      | inr both ↦ record {
        by = inr (
          ap suc both.0,
          subst (λ l. Less l (reverse (y ∷ b))) (sym (turned x a))
              (subst (Less (reverse a ++ x ∷ [])) (sym (turned y b))
              (less_behind (reverse a) (reverse b) (x ∷ []) (y ∷ []) both.1)),
        );
      }
    ]
by_ends (x ∷ a) (y ∷ b) (inr p) = record {
  by = inr (
    ap (λ l. suc (length l)) p.0,
    subst (λ l. Less l (reverse (y ∷ b))) (sym (turned x a))
        (subst (Less (reverse a ++ x ∷ [])) (sym (turned y b) ∙ refl)
        (subst (λ l. Less (reverse a ++ x ∷ []) (reverse l ++ y ∷ [])) p.0 (less_last (reverse a) x y p.1))),
  );
}

abbrev pub ComesFirst : List ℕ → List ℕ → Type 0
ComesFirst numbers others = (numbers ≡ others) ⊎ GoesBefore numbers others

pub comes_first : (a b : List ℕ) → UpTo a b → ComesFirst (reverse a) (reverse b)
comes_first a b (inl e) = inl (ap reverse e)
comes_first a b (inr p) =
    elim ((by_ends a b p).by) [
      | inl short ↦ inr (inl (omega (arith, short, length-reverse a, length-reverse b)))
      | inr both ↦ inr (inr (length-reverse a ∙ (both.0 ∙ sym (length-reverse b)), both.1))
    ]

-- ---- where a chain leads

module _ {M : Type 0} (targets : Targets M) where
  pub one_end : (back : List ℕ) (one other : Asker M) → LeadsTo targets back one → LeadsTo targets back other
      → one ≡ other
  one_end _ _ _ at_page at_page = refl
  one_end _ _ _ (asks number back from m leads e) (asks _ _ other n also f) =
      let same : from ≡ other = one_end back from other leads also in
      let found : Some m ≡ Some n = sym e ∙ (ap (λ r. slice_get (targets r) number) same ∙ f) in
      let modules : m ≡ n = cc in
      ap by_module modules

  pub ends_there : (back : List ℕ) (at : Asker M) → LeadsTo targets back at
      → end_of targets by_page (reverse back) ≡ Some at
  ends_there _ _ at_page = refl
  ends_there _ _ (asks number back from m leads e) =
      ap (end_of targets by_page) (turned number back)
      ∙ one_more targets by_page (reverse back) number from m (ends_there back from leads) e

  -- from a chain forwards to one by its end
  forwards : (front : List ℕ) (from : Asker M) (numbers : List ℕ) (at : Asker M) → LeadsTo targets front from
      → end_of targets from numbers ≡ Some at → LeadsTo targets (reverse numbers ++ front) at
  forwards front from [] at leads e = let same : from ≡ at = cc in subst (LeadsTo targets front) same leads
  forwards front from (number ∷ numbers) at leads e =
      let gone = goes targets from number numbers at e in
      subst (λ l. LeadsTo targets l at) (sym (moved numbers))
      (forwards (number ∷ front) (by_module gone.m) numbers at (asks number front from gone.m leads gone.there) gone.on)
    where
      moved : (rest : List ℕ) → reverse (number ∷ rest) ++ front ≡ reverse rest ++ number ∷ front
      moved rest = ap (λ l. l ++ front) (turned number rest) ∙ append_assoc (reverse rest) (number ∷ []) front

  pub leads_back : (numbers : List ℕ) (at : Asker M) → end_of targets by_page numbers ≡ Some at
      → LeadsTo targets (reverse numbers) at
  leads_back numbers at e =
      subst (λ l. LeadsTo targets l at) (append-nil (reverse numbers)) (forwards [] by_page numbers at at_page e)
