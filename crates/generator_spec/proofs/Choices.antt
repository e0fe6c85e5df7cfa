-- Whether some specifier has too many choices.
use Rattle.std.proofs.Common.{◌≡◌, ◌<◌, ◌⊎◌, ℕ, List, [], ◌∷◌, length, Contains, sym, subst, inl, inr, arith}
use Rattle.std.proofs.lemmas.Bool.{cases_lt}
use Rattle.std.specs.Prelude.{◌*◌}
use Rattle.tree_spec.specs.declared.LimitName.TheVariants.{Choices}
use Rattle.tree_spec.specs.Limits.{limit_number}
use Rattle.layout_spec.proofs.Contained.{contains_here, contains_cases, contains_none}
use Rattle.layout_spec.specs.declared.Need.{Need}
use Rattle.fewest_spec.proofs.OneLists.{one_places, one_targets}
use Rattle.fewest_spec.specs.Wishes.{ArePlaces, AreTargets, HasManyChoices, HasTooManyChoices}

module _ (needs : List Need) where
  -- a specifier has one number of choices
  not_many :
      (asked : List ℕ) (ps ts : List (List ℕ)) → ArePlaces needs asked ps → AreTargets needs asked ts
      → (limit_number Choices < length ps * length ts → ⊥) → HasManyChoices needs asked → ⊥
  not_many asked ps ts places targets few many =
      let p = (one_places needs asked).1 many.ps ps many.places places in
      let t = (one_targets needs asked).1 many.ts ts many.targets targets in
      few (subst (λ n. limit_number Choices < n) (λ i. length (p i) * length (t i)) many.many)

  judged : (asked : List ℕ) → HasManyChoices needs asked ⊎ (HasManyChoices needs asked → ⊥)
  judged asked =
      let ps = (one_places needs asked).0 in
      let ts = (one_targets needs asked).0 in
      elim (cases_lt (limit_number Choices) (length ps.0 * length ts.0)) [
        | inl many ↦ inl (record { ps = ps.0; ts = ts.0; places = ps.1; targets = ts.1; many = many })
        | inr few ↦ inr (not_many asked ps.0 ts.0 ps.1 ts.1 (λ many. omega (arith, many, few)))
      ]

  -- a specifier that no need asks for has no choice
  abbrev IsAskedFor : List ℕ → Type 0
  IsAskedFor asked = (need : Need) × Contains needs need × (need.asked ≡ asked)

  asked_for : (asked : List ℕ) → HasManyChoices needs asked → IsAskedFor asked
  asked_for asked many = by many.ps many.places many.many
    where
      by : (ps : List (List ℕ)) → ArePlaces needs asked ps → limit_number Choices < length ps * length many.ts → IsAskedFor asked
      by [] places large = absurd (omega (arith, large))
      by (p ∷ ps) places large =
          let found = places.only p (contains_here p ps) in
          (found.0, found.1.is_need, found.1.asks)

  -- one of these needs asks for a specifier with too many choices, or none does
  by_need : (some : List Need) → HasTooManyChoices needs ⊎ ((need : Need) → Contains some need → HasManyChoices needs need.asked → ⊥)
  by_need [] = inr (λ need c. absurd (contains_none need c))
  by_need (first ∷ more) =
      elim (judged first.asked) [
        | inl many ↦ inl (first.asked, many)
        | inr few ↦ elim (by_need more) [
          | inl found ↦ inl found
          | inr none ↦ inr (λ need c many. elim (contains_cases need first more c) [
            | inl same ↦ few (subst (λ (n : Need). HasManyChoices needs n.asked) (sym same) many)
            | inr later ↦ none need later many
          ])
        ]
      ]

  pub many_or_few : HasTooManyChoices needs ⊎ (HasTooManyChoices needs → ⊥)
  many_or_few =
      elim (by_need needs) [
        | inl found ↦ inl found
        | inr none ↦ inr (λ found.
            let asked = asked_for found.0 found.1 in
            none asked.0 asked.1 (subst (HasManyChoices needs) (sym asked.2) found.1))
      ]
