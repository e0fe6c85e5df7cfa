-- That no two needs of a list clash is found by comparing each two of them.
use Rattle.std.proofs.Common.{subst, sym}
use Rattle.std.proofs.lemmas.Bool.{and_parts, true≢false}
use Rattle.std.proofs.lemmas.Slice.Eq.{bytes_eq-Decides}
use Rattle.std.specs.List.{list_all}
use Rattle.std.specs.Prelude.{Bool, not, ◌&&◌, ◌||◌, bytes_eq, List, ◌≡◌, true, [], ◌∷◌, Contains, false}
use mathlib.Core.Logic.{inl, inr}
use Rattle.layout_spec.proofs.Contained.{contains_cases, contains_none}
use Rattle.layout_spec.specs.Needs.{NoClash}
use Rattle.layout_spec.specs.declared.Need.{Need}

abbrev pub agrees : Need → Need → Bool
agrees one other = not (bytes_eq one.referrer other.referrer && bytes_eq one.asked other.asked) || bytes_eq one.target other.target

abbrev pub all_agree : List Need → Bool
all_agree needs = list_all (λ one. list_all (agrees one) needs) needs

pub passes_at : {A : Type 0} (test : A → Bool) (x : A) (xs : List A) → list_all test xs ≡ true → Contains xs x → test x ≡ true
passes_at test x [] all c = absurd (contains_none x c)
passes_at test x (first ∷ xs) all c =
    let parts = and_parts (test first) (list_all test xs) all in
    elim (contains_cases x first xs c) [
      | inl same ↦ subst (λ y. test y ≡ true) same parts.0
      | inr later ↦ passes_at test x xs parts.1 later
    ]

forced : (b c d : Bool) → b ≡ true → c ≡ true → (not (b && c) || d) ≡ true → d ≡ true
forced true true d p q e = e
forced true false d p q e = absurd (true≢false (sym q))
forced false c d p q e = absurd (true≢false (sym p))

pub no_clash_from_test : (needs : List Need) → all_agree needs ≡ true → NoClash needs
no_clash_from_test needs all one other c d same_referrer same_asked =
    let agree = passes_at (agrees one) other needs (passes_at (λ n. list_all (agrees n) needs) one needs all c) d in
    (bytes_eq-Decides one.target other.target).0 (forced _ _ _ ((bytes_eq-Decides one.referrer other.referrer).1 same_referrer) ((bytes_eq-Decides one.asked other.asked).1 same_asked) agree)
