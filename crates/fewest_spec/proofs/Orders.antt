-- The order of texts.
use Rattle.std.proofs.Common.{refl, ap, ◌∙◌}
use Rattle.std.proofs.lemmas.Cmp.{tied_itself}
use Rattle.std.specs.Cmp.Lexicographic.{slice_cmp, nat_list_cmp_total}
use Rattle.std.specs.FinMap.{slice_cmp-IsAntisymmetric, nat_cmp-IsAntisymmetric}
use Rattle.std.specs.Ordering.{nat_cmp, ordering_reverse}
use Rattle.std.specs.Prelude.{◌≡◌, ℕ, List}
use Rattle.std.specs.declared.cmp.Ordering.{Ordering}
use Rattle.std.specs.declared.cmp.Ordering.TheVariants.{Less, Equal, Greater}
use Rattle.fewest_spec.specs.Fewest.{Before}

pub never_itself : (a : List ℕ) → Before a a → ⊥
never_itself a e = let t = tied_itself nat_list_cmp_total a in absurd (cc)

pub not_both : (a b : List ℕ) → Before a b → Before b a → ⊥
not_both a b e f = let t = nat_list_cmp_total.antisymm a b in absurd (let r = ap ordering_reverse f in cc)

pub data Order (a b : List ℕ) : Type 0 where
  is_before : Before a b → Order a b
  is_same : a ≡ b → Order a b
  is_behind : Before b a → Order a b

pub order_of : (a b : List ℕ) → Order a b
order_of a b = by (slice_cmp nat_cmp a b) refl
  where
    by : (o : Ordering) → slice_cmp nat_cmp a b ≡ o → Order a b
    by Less e = is_before e
    by Equal e = is_same (slice_cmp-IsAntisymmetric nat_cmp-IsAntisymmetric a b e)
    by Greater e = is_behind (nat_list_cmp_total.antisymm b a ∙ ap ordering_reverse e)
