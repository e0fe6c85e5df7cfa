-- One look more is kept.
use Rattle.std.proofs.Common.{◌≡◌, ℕ, Bool, true, false, List, Option, Some, None, refl, sym, ap, ◌∙◌}
use Rattle.std.specs.Prelude.{bytes_eq, if◌then◌else◌}
use Rattle.std.specs.Option.{option_or}
use Rattle.std.proofs.lemmas.Slice.Eq.{bytes_eq-Decides}
use Rattle.tree_spec.specs.declared.Look.{Look}
use Rattle.package_lookup.specs.declared.known.Known.{Known}
use Rattle.package_lookup.specs.Looked.{laid_at, kept_at, known_at, over_at, Grows}

kept_by : (same : Bool) (held look : Look) (before after : Option Look) → after ≡ (if same then Some held else before)
    → (same ≡ true → before ≡ None) → before ≡ Some look → after ≡ Some look
kept_by true held look before after e none is = (let f = none refl in absurd (cc))
kept_by false held look before after e none is = e ∙ is

under_by : (same : Bool) (held look : Look) (laid before after : Option Look)
    → after ≡ (if same then Some held else before) → (same ≡ true → laid ≡ None) → laid ≡ Some look → after ≡ before
under_by true held look laid before after e none is = (let f = none refl in absurd (cc))
under_by false held look laid before after e none is = e

no_laid : (laid kept : Option Look) → option_or laid kept ≡ None → laid ≡ None
no_laid None kept e = refl
no_laid (Some look) kept e = e

no_kept : (laid kept : Option Look) → option_or laid kept ≡ None → kept ≡ None
no_kept None kept e = e
no_kept (Some look) kept e = absurd (cc)

module _ (old new : Known) (path : List ℕ) (held : Look) (same : new.laid ≡ old.laid) where
  pub grows_by_one : known_at old path ≡ None
      → ((other : List ℕ) → kept_at new other ≡ (if bytes_eq path other then Some held else kept_at old other))
      → Grows old new
  grows_by_one none puts = record {
    laid = λ other. ap (λ over. over_at over other) same;
    kept = λ other look e.
        kept_by (bytes_eq path other) held look (kept_at old other) (kept_at new other) (puts other)
        (λ equal. ap (kept_at old) (sym ((bytes_eq-Decides path other).0 equal)) ∙ no_kept (laid_at old path) (kept_at old path) none) e;
    under = λ other look e.
        under_by (bytes_eq path other) held look (laid_at old other) (kept_at old other) (kept_at new other) (puts other)
        (λ equal. ap (laid_at old) (sym ((bytes_eq-Decides path other).0 equal)) ∙ no_laid (laid_at old path) (kept_at old path) none) e;
  }

  pub grows_by_none : ((other : List ℕ) → kept_at new other ≡ kept_at old other) → Grows old new
  grows_by_none puts = record {
    laid = λ other. ap (λ over. over_at over other) same;
    kept = λ other look e. puts other ∙ e;
    under = λ other look e. puts other;
  }
