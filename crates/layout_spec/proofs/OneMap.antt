-- A tidy map is told by what its places hold.
use Rattle.std.proofs.Common.{ap, sym, ◌∙◌}
use Rattle.std.proofs.lemmas.Option.{none-some}
use Rattle.std.specs.Cmp.Lexicographic.{nat_list_cmp_total}
use Rattle.std.specs.FinMap.{get, empty, same_map, slice_cmp-IsAntisymmetric, nat_cmp-IsAntisymmetric}
use Rattle.std.specs.Prelude.{◌≡◌, ℕ, List, [], ◌∷◌, Option, Some, None, unwrap_or}
use mathlib.Core.Logic.{inl, inr}
use Rattle.import_map_spec.proofs.Entries.{get_nowhere, cases_option}
use Rattle.import_map_spec.specs.ParsedMap.{Addresses, ParsedMap}
use Rattle.layout_spec.specs.Serving.{held, IsTidy}

abbrev pub SameHeld : ParsedMap → ParsedMap → Type 0
SameHeld m n = (asked place : List ℕ) → held m asked place ≡ held n asked place

module _ (m n : ParsedMap) (a : IsTidy m) (b : IsTidy n) (same : SameHeld m n) where
  -- what one of them has as a scope, the other has
  scope_too : (key : List ℕ) (scope : Addresses) → get m.scopes key ≡ Some scope → get n.scopes key ≡ None → ⊥
  scope_too [] scope e none = none-some scope (sym a.no_top ∙ e)
  scope_too (c ∷ rest) scope e none =
      let some = a.some (c ∷ rest) scope e in
      let there : held m some.0 (c ∷ rest) ≡ Some some.1 = ap (λ (o : Option Addresses). get (unwrap_or o empty) some.0) e ∙ some.2 in
      let nothing : held n some.0 (c ∷ rest) ≡ None = ap (λ (o : Option Addresses). get (unwrap_or o empty) some.0) none ∙ get_nowhere some.0 in
      none-some some.1 (sym nothing ∙ (sym (same some.0 (c ∷ rest)) ∙ there))

  both_scopes : (key : List ℕ) (one other : Addresses) → get m.scopes key ≡ Some one → get n.scopes key ≡ Some other → one ≡ other
  both_scopes [] one other e f = absurd (none-some one (sym a.no_top ∙ e))
  both_scopes (c ∷ rest) one other e f =
      same_map nat_list_cmp_total (slice_cmp-IsAntisymmetric nat_cmp-IsAntisymmetric) one other
      (λ asked. ap (λ (o : Option Addresses). get (unwrap_or o empty) asked) (sym e) ∙ (same asked (c ∷ rest) ∙ ap (λ (o : Option Addresses). get (unwrap_or o empty) asked) f))

turned : (m n : ParsedMap) → SameHeld m n → SameHeld n m
turned m n same asked place = sym (same asked place)

same_scope : (m n : ParsedMap) → IsTidy m → IsTidy n → SameHeld m n → (key : List ℕ) → get m.scopes key ≡ get n.scopes key
same_scope m n a b same key =
    elim (cases_option (get m.scopes key)) [
      | inl none ↦ elim (cases_option (get n.scopes key)) [
        | inl none_too ↦ none ∙ sym none_too
        | inr some ↦ absurd (scope_too n m b a (turned m n same) key some.0 some.1 none)
      ]
      | inr some ↦ elim (cases_option (get n.scopes key)) [
        | inl none ↦ absurd (scope_too m n a b same key some.0 some.1 none)
        | inr some_too ↦ some.1 ∙ (ap Some (both_scopes m n a b same key some.0 some_too.0 some.1 some_too.1) ∙ sym some_too.1)
      ]
    ]

pub one_map : (m n : ParsedMap) → IsTidy m → IsTidy n → SameHeld m n → m.integrity ≡ n.integrity → m ≡ n
one_map m n a b same texts =
    let scopes : m.scopes ≡ n.scopes = same_map nat_list_cmp_total (slice_cmp-IsAntisymmetric nat_cmp-IsAntisymmetric) m.scopes n.scopes (same_scope m n a b same) in
    let imports : m.imports ≡ n.imports = same_map nat_list_cmp_total (slice_cmp-IsAntisymmetric nat_cmp-IsAntisymmetric) m.imports n.imports (λ asked. same asked []) in
    λ i. record { imports = imports i; scopes = scopes i; integrity = texts i }
