-- A text that is read as a map of which no need differs serves.
use Rattle.std.proofs.Common.{sym, ◌∙◌, subst}
use Rattle.std.proofs.lemmas.Bool.{cases_Bool, cond-true, cond-false}
use Rattle.std.specs.Prelude.{◌≡◌, ℕ, suc, List, [], ◌∷◌, Contains}
use mathlib.Core.Logic.{inl, inr}
use Rattle.import_map_spec.specs.ParsedMap.{ParsedMap}
use Rattle.import_map_spec.specs.Resolving.{Resolved}
use Rattle.check_spec.proofs.DifferenceLemmas.{is_url_is}
use Rattle.check_spec.proofs.NeedLemmas.{specifiers_agree}
use Rattle.check_spec.specs.Differences.{Difference, gets, is_url, differences_from}
use Rattle.layout_spec.proofs.Contained.{contains_cases, contains_none}
use Rattle.layout_spec.specs.declared.Need.{Need}
use Rattle.soundness.proofs.Sound.{led_requests}
use Rattle.soundness.specs.Soundness.{CheckedMapsServe}

no_more : (d : Difference) (ds : List Difference) → d ∷ ds ≡ [] → ⊥
no_more d ds e = absurd (cc)

all_get : (m : ParsedMap) (number : ℕ) (needs : List Need) → differences_from m number needs ≡ [] → (need : Need) → Contains needs need → gets m need ≡ Resolved need.target
all_get m number [] none need c = absurd (contains_none need c)
all_get m number (first ∷ more) none need c =
    elim (cases_Bool (is_url (gets m first) first.target)) [
      | inl served ↦ elim (contains_cases need first more c) [
        | inl same ↦ subst (λ (n : Need). gets m n ≡ Resolved n.target) same (is_url_is (gets m first) first.target served)
        | inr behind ↦ all_get m (suc number) more (sym (cond-true _ _ _ served) ∙ none) need behind
      ]
      | inr other ↦ absurd (no_more _ _ (sym (cond-false _ _ _ other) ∙ none))
    ]

pub checked_maps_serve : CheckedMapsServe
checked_maps_serve tree config all base bytes m traces named parses none = record {
  map_base = base;
  named = named;
  map = m;
  parses = parses;
  all_lead =
      led_requests tree config all traces m
      (λ need specifier c asks. specifiers_agree m need specifier asks ∙ all_get m 0 all.needs none need c);
}
