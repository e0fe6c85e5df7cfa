-- Looks that are those that are laid but at some paths.
use Rattle.std.proofs.Common.{◌≡◌, ◌∷◌, ◌++◌, ◌||◌, [], ℕ, Bool, true, false, List, Option, Some, Result, Ok, Err}
use Rattle.std.proofs.Common.{refl, sym, ap, ◌∙◌, subst}
use Rattle.std.specs.Prelude.{bytes_eq, length, cond, OnOk, OnErr}
use Rattle.std.specs.List.{list_any}
use Rattle.std.proofs.lemmas.Cmp.{nat_list_eq_equiv}
use Rattle.std.proofs.lemmas.Slice.Eq.{bytes_eq-Decides}
use Rattle.tree_spec.specs.declared.Look.{Look}
use Rattle.package_lookup.specs.declared.over.Over.{Over}
use Rattle.package_lookup.specs.Looked.{over_at, Follows, Puts}
use Rattle.edit_session.specs.Agreement.{AgreeBut}

turned : (path other : List ℕ) → bytes_eq path other ≡ bytes_eq other path
turned path other = nat_list_eq_equiv.symm path other

-- what stands there after one look more follows
followed : (same : Bool) (here there was : Option Look) → (same ≡ true → here ≡ there) → (same ≡ false → was ≡ there)
    → cond same here was ≡ there
followed true here there was same other = same refl
followed false here there was same other = other refl

or_none : (a b : Bool) → (a || b) ≡ false → (a ≡ false) × (b ≡ false)
or_none true b e = absurd (cc)
or_none false b e = (refl, e)

or_both : (a b : Bool) → a ≡ false → b ≡ false → (a || b) ≡ false
or_both true b e f = e
or_both false b e f = f

both_of : (test : List ℕ → Bool) (xs : List (List ℕ)) (x : List ℕ) → list_any test (xs ++ x ∷ []) ≡ false
    → (list_any test xs ≡ false) × (test x ≡ false)
both_of test [] x none = (refl, (or_none (test x) false none).0)
both_of test (y ∷ ys) x none =
    (let split = or_none (test y) (list_any test (ys ++ x ∷ [])) none in
    let rest = both_of test ys x split.1 in
    (or_both (test y) (list_any test ys) split.0 rest.0, rest.1))

module _ (laid over next : Over) (path : List ℕ) (follows : Follows over path laid next) where
  there_so : (at : List ℕ) → bytes_eq path at ≡ true → over_at laid path ≡ over_at laid at
  there_so at e = ap (over_at laid) ((bytes_eq-Decides path at).0 e)

  pub agrees_as_well : (changed : List (List ℕ)) → AgreeBut changed laid over → AgreeBut changed laid next
  agrees_as_well changed agree = λ at none.
      follows at
      ∙ followed (bytes_eq path at) (over_at laid path) (over_at laid at) (over_at over at) (there_so at)
      (λ e. agree at none)

  one_less : (at : List ℕ) (more : List (List ℕ)) → bytes_eq path at ≡ false → list_any (bytes_eq at) more ≡ false
      → list_any (bytes_eq at) (path ∷ more) ≡ false
  one_less at more e none = or_both (bytes_eq at path) (list_any (bytes_eq at) more) (turned at path ∙ e) none

  pub agrees_there : (rest more : List (List ℕ)) → rest ≡ path ∷ more → AgreeBut rest laid over
      → AgreeBut more laid next
  agrees_there rest more is agree = λ at none.
      follows at
      ∙ followed (bytes_eq path at) (over_at laid path) (over_at laid at) (over_at over at) (there_so at)
      (λ e. agree at (ap (list_any (bytes_eq at)) is ∙ one_less at more e none))

pub agrees_all : (rest : List (List ℕ)) (laid over : Over) → length rest ≡ 0 → AgreeBut rest laid over
    → (path : List ℕ) → over_at over path ≡ over_at laid path
agrees_all [] laid over none agree path = agree path refl
agrees_all (one ∷ rest) laid over none agree path = absurd (cc)

-- one path more at which they may be others
module _ (path : List ℕ) (changed : List (List ℕ)) (laid over : Over) (agree : AgreeBut changed laid over) where
  both_none : (at : List ℕ) → list_any (bytes_eq at) (changed ++ path ∷ []) ≡ false
      → (list_any (bytes_eq at) changed ≡ false) × (bytes_eq at path ≡ false)
  both_none at none = both_of (bytes_eq at) changed path none

  agrees_but_one : AgreeBut (changed ++ path ∷ []) laid over
  agrees_but_one = λ at none. agree at ((both_none at none).0)

  agrees_put : (look : Look) (next : Over) → Puts over path look next → AgreeBut (changed ++ path ∷ []) laid next
  agrees_put look next puts = λ at none.
      (let both = both_none at none in
      let other : bytes_eq path at ≡ false = turned path at ∙ both.1 in
      puts at ∙ (ap (λ b. cond b (Some look) (over_at over at)) other ∙ agree at both.0))

-- looks that are the same everywhere agree as well
pub agrees_same : (changed : List (List ℕ)) (laid over next : Over)
    → ((path : List ℕ) → over_at next path ≡ over_at over path) → AgreeBut changed laid over
    → AgreeBut changed laid next
agrees_same changed laid over next same agree = λ at none. same at ∙ agree at none

pub agrees_alike : (changed : List (List ℕ)) (laid as_laid over next : Over) → as_laid ≡ laid
    → ((path : List ℕ) → over_at next path ≡ over_at over path) → AgreeBut changed laid over
    → AgreeBut changed as_laid next
agrees_alike changed laid as_laid over next e same agree =
    subst (λ there. AgreeBut changed there next) (sym e) (agrees_same changed laid over next same agree)

-- whatever comes of a look that is put there
pub agrees_set : {E : Type 0} (path : List ℕ) (changed : List (List ℕ)) (laid over next : Over) (look : Look)
    (result : Result (Unit {0}) E) → OnOk result (Puts over path look next)
    → OnErr result ((at : List ℕ) → over_at next at ≡ over_at over at)
    → AgreeBut changed laid over → AgreeBut (changed ++ path ∷ []) laid next
agrees_set path changed laid over next look (Ok done) puts same agree =
    agrees_put path changed laid over agree look next puts
agrees_set path changed laid over next look (Err lack) puts same agree =
    agrees_same (changed ++ path ∷ []) laid over next same (agrees_but_one path changed laid over agree)
