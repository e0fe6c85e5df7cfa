-- What a list contains, by tests; and what a list holds once.
use Rattle.std.specs.Prelude.{◌≡◌, ◌⊎◌, ◌&&◌, ℕ, zero, suc, Bool, true, false, List, [], ◌∷◌, ◌++◌, length}
use Rattle.std.specs.Prelude.{slice_get, Some, bytes_eq, Contains}
use Rattle.std.specs.List.{list_any}
use Rattle.std.proofs.Common.{refl, sym, ap, ◌∙◌, subst}
use mathlib.Core.Logic.{inl, inr}
use Rattle.std.proofs.lemmas.Bool.{cases_Bool, cond-true, cond-false, true≢false, and_parts, or_parts, or_left}
use Rattle.std.proofs.lemmas.Bool.{or_right}
use Rattle.std.proofs.lemmas.Slice.Eq.{bytes_eq-Decides}
use Rattle.layout_spec.proofs.Contained.{contains_cases, contains_none}
use Rattle.trace_spec.specs.Walking.{new_modules}
use Rattle.trace_spec.specs.Modules.{Module, is_module}

pub none_by_test : {A : Type 0} (test : A → Bool) (xs : List A) → list_any test xs ≡ false → (x : A) → Contains xs x
    → test x ≡ false
none_by_test test [] e x c = absurd (contains_none x c)
none_by_test test (y ∷ xs) e x c =
    let parts = or_parts (test y) (list_any test xs) e in
    elim (contains_cases x y xs c) [
      | inl same ↦ subst (λ z. test z ≡ false) same parts.0
      | inr later ↦ none_by_test test xs parts.1 x later
    ]

-- ---- modules

pub same_module : (one other : Module) → is_module one other ≡ true → one ≡ other
same_module one other e =
    let parts = and_parts _ _ e in
    let paths : one.path ≡ other.path = (bytes_eq-Decides _ _).0 parts.0 in
    let suffixes : one.suffix ≡ other.suffix = (bytes_eq-Decides _ _).0 parts.1 in
    (λ i. record { path = paths i; suffix = suffixes i })

pub module_itself : (m : Module) → is_module m m ≡ true
module_itself m =
    ap (λ b. b && bytes_eq m.suffix m.suffix) ((bytes_eq-Decides m.path m.path).1 refl)
    ∙ (bytes_eq-Decides m.suffix m.suffix).1 refl

-- ---- a list that holds each module once

abbrev pub AreOnce : List Module → Type 0
AreOnce modules = (i j : ℕ) (m : Module) → slice_get modules i ≡ Some m → slice_get modules j ≡ Some m → i ≡ j

record IsLast (modules : List Module) (i : ℕ) (m last : Module) : Type 0 where
  place : i ≡ length modules
  is_last : last ≡ m

pushed_at : (modules : List Module) (last : Module) (i : ℕ) (m : Module) → slice_get (modules ++ last ∷ []) i ≡ Some m
    → (slice_get modules i ≡ Some m) ⊎ IsLast modules i m last
pushed_at [] last zero m e = inr (record { place = refl; is_last = (let p : last ≡ m = cc in p) })
pushed_at [] last (suc i) m e = absurd (cc)
pushed_at (x ∷ modules) last zero m e = inl e
pushed_at (x ∷ modules) last (suc i) m e =
    elim (pushed_at modules last i m e) [
      | inl there ↦ inl there
      | inr at ↦ inr (record { place = ap suc at.place; is_last = at.is_last })
    ]

found_by_test : (target : Module) (modules : List Module) (i : ℕ) → slice_get modules i ≡ Some target
    → list_any (is_module target) modules ≡ true
found_by_test target [] i e = absurd (cc)
found_by_test target (x ∷ modules) zero e =
    or_left (is_module target x) (list_any (is_module target) modules)
    (let p : x ≡ target = cc in subst (λ y. is_module target y ≡ true) (sym p) (module_itself target))
found_by_test target (x ∷ modules) (suc i) e =
    or_right (is_module target x) (list_any (is_module target) modules) (found_by_test target modules i e)

not_there : (target : Module) (modules : List Module) → list_any (is_module target) modules ≡ false
    → (i : ℕ) (m : Module) → m ≡ target → slice_get modules i ≡ Some m → ⊥
not_there target modules none i m same e = true≢false (sym (found_by_test target modules i (e ∙ ap Some same)) ∙ none)

once_pushed : (modules : List Module) (target : Module) → AreOnce modules → list_any (is_module target) modules ≡ false
    → AreOnce (modules ++ target ∷ [])
once_pushed modules target once none i j m e f =
    elim (pushed_at modules target i m e) [
      | inl a ↦ elim (pushed_at modules target j m f) [
        | inl b ↦ once i j m a b
        | inr b ↦ absurd (not_there target modules none i m (sym b.is_last) a)
      ]
      | inr a ↦ elim (pushed_at modules target j m f) [
        | inl b ↦ absurd (not_there target modules none j m (sym a.is_last) b)
        | inr b ↦ a.place ∙ sym b.place
      ]
    ]

-- a module that is asked for is known, or put at the end
pub new_module : (modules : List Module) (target : Module)
    → ((list_any (is_module target) modules ≡ true) × (new_modules is_module modules (target ∷ []) ≡ []))
    ⊎ ((list_any (is_module target) modules ≡ false) × (new_modules is_module modules (target ∷ []) ≡ target ∷ []))
new_module modules target =
    elim (cases_Bool (list_any (is_module target) modules)) [
      | inl known ↦ inl (known, cond-true _ _ _ known)
      | inr new ↦ inr (new, cond-false _ _ _ new)
    ]

append_none : {A : Type 0} (xs : List A) → xs ++ [] ≡ xs
append_none [] = refl
append_none (x ∷ xs) = ap (λ ys. x ∷ ys) (append_none xs)

pub once_more : (modules : List Module) (target : Module) → AreOnce modules
    → AreOnce (modules ++ new_modules is_module modules (target ∷ []))
once_more modules target once =
    elim (new_module modules target) [
      | inl known ↦
          subst (λ more. AreOnce (modules ++ more)) (sym known.1) (subst AreOnce (sym (append_none modules)) once)
      | inr new ↦ subst (λ more. AreOnce (modules ++ more)) (sym new.1) (once_pushed modules target once new.0)
    ]
