-- The package name at the front of a bare specifier.
--     slash_none, slash_at         where the first `/` stands
--     is_subpath                   what stands behind the name
use mathlib.Core.Logic.{◌⊎◌, inl, inr}
use Rattle.std.proofs.Common.{◌≡◌, ◌≢◌, ◌<◌, ◌+◌, ◌==◌, ℕ, zero, suc, true, not, List, [], ◌∷◌, length, get_or, refl, sym, ap, ◌∙◌, arith, ⊎_elim}
use Rattle.std.specs.Prelude.{◌++◌, codes, drop, ⊤}
use Rattle.std.proofs.Common.{subst}
use Rattle.std.proofs.lemmas.List.{drop-drop}
use Rattle.std.proofs.lemmas.Bool.{cases_Bool, cases_eq}
use Rattle.std.proofs.lemmas.Bool.{cond-true, cond-false, eq-eqb, ne_eqb}
use Rattle.node_spec.specs.PackageResolve.{until_slash, name_length}
use Rattle.url_spec.specs.Specifiers.{begins, is_relative}
use Rattle.node_resolve.specs.Asked.{IsSubpath}

passed : (b : ℕ) (text : List ℕ) → b ≢ 47 → until_slash (b ∷ text) ≡ 1 + until_slash text
passed b text n = cond-true (not (b == 47)) (1 + until_slash text) 0 (ap not (ne_eqb b 47 n))

reached : (b : ℕ) (text : List ℕ) → b ≡ 47 → until_slash (b ∷ text) ≡ 0
reached b text e = cond-false (not (b == 47)) (1 + until_slash text) 0 (ap not (eq-eqb b 47 e))

pub slash_none : (text : List ℕ) → ((i : ℕ) → i < length text → get_or text i 0 ≢ 47) → length text ≡ until_slash text
slash_none [] none = refl
slash_none (b ∷ text) none =
    let rest = slash_none text (λ i l. none (suc i) (omega (arith, l))) in
    let here = passed b text (none 0 (omega arith)) in
    omega (arith, rest, here)

pub slash_at : (text : List ℕ) (at : ℕ) → at < length text → get_or text at 0 ≡ 47
    → ((i : ℕ) → i < at → get_or text i 0 ≢ 47) → at ≡ until_slash text
slash_at [] at l e before = absurd (omega (arith, l))
slash_at (b ∷ text) zero l e before = sym (reached b text e)
slash_at (b ∷ text) (suc at) l e before =
    let rest = slash_at text at (omega (arith, l)) e (λ i m. before (suc i) (omega (arith, m))) in
    let here = passed b text (before 0 (omega arith)) in
    omega (arith, rest, here)

abbrev AtSlash : List ℕ → Type 0
AtSlash [] = ⊤
AtSlash (b ∷ rest) = b ≡ 47

behind_by : (b : ℕ) (text : List ℕ) → AtSlash (drop (until_slash text) text) → (b ≡ 47) ⊎ (b ≢ 47)
    → AtSlash (drop (until_slash (b ∷ text)) (b ∷ text))
behind_by b text rest (inl e) = subst (λ n. AtSlash (drop n (b ∷ text))) (sym (reached b text e)) e
behind_by b text rest (inr n) =
    let p = passed b text n in
    let e : suc (until_slash text) ≡ until_slash (b ∷ text) = omega (arith, p) in
    subst (λ m. AtSlash (drop m (b ∷ text))) e rest

behind_slash : (text : List ℕ) → AtSlash (drop (until_slash text) text)
behind_slash [] = tt
behind_slash (b ∷ text) = behind_by b text (behind_slash text) (cases_eq b 47)

behind_name : (text : List ℕ) → AtSlash (drop (name_length text) text)
behind_name text =
    ⊎_elim
    (λ e. subst (λ n. AtSlash (drop n text)) (sym (cond-true _ _ _ e))
    (subst AtSlash (join text) (behind_slash (drop (1 + until_slash text) text))))
    (λ e. subst (λ n. AtSlash (drop n text)) (sym (cond-false _ _ _ e)) (behind_slash text))
    (cases_Bool (begins text (codes "@")))
  where
    join : (text : List ℕ)
        → drop (until_slash (drop (1 + until_slash text) text)) (drop (1 + until_slash text) text)
        ≡ drop (until_slash text + (1 + until_slash (drop (1 + until_slash text) text))) text
    join text =
        drop-drop (until_slash (drop (1 + until_slash text) text)) (1 + until_slash text) text
        ∙ ap (λ n. drop n text) (omega arith)

subpath_by : (rest : List ℕ) → AtSlash rest → IsSubpath (codes "." ++ rest)
subpath_by [] at = λ e. absurd (cc)
subpath_by (b ∷ rest) at = λ e. subst (λ c. is_relative (codes "." ++ c ∷ rest) ≡ true) (sym at) refl

is_subpath_at : (text : List ℕ) → IsSubpath (codes "." ++ drop (name_length text) text)
is_subpath_at text = subpath_by (drop (name_length text) text) (behind_name text)

pub is_subpath : (text subpath : List ℕ) → subpath ≡ codes "." ++ drop (name_length text) text → IsSubpath subpath
is_subpath text subpath e = subst IsSubpath (sym e) (is_subpath_at text)
