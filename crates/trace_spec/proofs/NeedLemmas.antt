-- Needs that are put among others, each at its first place.
use Rattle.std.specs.Prelude.{◌≡◌, ◌&&◌, not, false, List, bytes_eq, Contains}
use Rattle.std.specs.List.{list_any}
use Rattle.std.proofs.Common.{sym, ap, ◌∙◌}
use mathlib.Core.Logic.{inl, inr}
use Rattle.std.proofs.lemmas.Bool.{cases_Bool, true≢false}
use Rattle.std.proofs.lemmas.Slice.Eq.{bytes_eq-Decides}
use Rattle.layout_spec.specs.declared.Need.{Need}
use Rattle.layout_spec.specs.Needs.{with_need, clashes, NoClash}
use Rattle.layout_spec.proofs.CountedNeeds.{with_need_cases}
use Rattle.trace_spec.proofs.Lists.{none_by_test}

-- a need that clashes with none agrees with each that asks the same
agrees : (needs : List Need) (need other : Need) → list_any (clashes need) needs ≡ false → Contains needs other
    → other.referrer ≡ need.referrer → other.asked ≡ need.asked → other.target ≡ need.target
agrees needs need other clear c referrer asked =
    let test : clashes need other ≡ false = none_by_test (clashes need) needs clear other c in
    elim (cases_Bool (bytes_eq other.target need.target)) [
      | inl same ↦ (bytes_eq-Decides _ _).0 same
      | inr apart ↦
          let same_referrer = (bytes_eq-Decides other.referrer need.referrer).1 referrer in
          let same_asked = (bytes_eq-Decides other.asked need.asked).1 asked in
          absurd (true≢false (sym (λ i. (same_referrer i && same_asked i) && ap not apart i) ∙ test))
    ]

pub no_clash_more : (needs : List Need) (need : Need) → NoClash needs → list_any (clashes need) needs ≡ false
    → NoClash (with_need needs need)
no_clash_more needs need no_clash clear one other c d referrer asked =
    elim (with_need_cases needs need one c) [
      | inl old ↦ elim (with_need_cases needs need other d) [
        | inl old_too ↦ no_clash one other old old_too referrer asked
        | inr new ↦
            agrees needs need one clear old (referrer ∙ ap (λ n. n.referrer) (sym new))
            (asked ∙ ap (λ n. n.asked) (sym new)) ∙ ap (λ n. n.target) new
      ]
      | inr new ↦ elim (with_need_cases needs need other d) [
        | inl old_too ↦
            ap (λ n. n.target) (sym new) ∙ sym (agrees needs need other clear old_too
            (sym referrer ∙ ap (λ n. n.referrer) (sym new)) (sym asked ∙ ap (λ n. n.asked) (sym new)))
        | inr new_too ↦ ap (λ n. n.target) (sym new ∙ new_too)
      ]
    ]
