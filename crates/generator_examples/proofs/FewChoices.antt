-- That no specifier has too many choices is found by counting those of each need's specifier.
use Rattle.std.proofs.Common.{◌≡◌, ◌<◌, ℕ, List, [], ◌∷◌, length, Contains, sym, subst, arith}
use Rattle.std.proofs.lemmas.Bool.{leb-true}
use Rattle.std.specs.List.{list_all}
use Rattle.std.specs.Prelude.{◌*◌, Bool, true, leb}
use Rattle.tree_spec.specs.declared.LimitName.TheVariants.{Choices}
use Rattle.tree_spec.specs.Limits.{limit_number}
use Rattle.layout_spec.proofs.Contained.{contains_here}
use Rattle.layout_spec.proofs.examples.Agreement.{passes_at}
use Rattle.layout_spec.specs.declared.Need.{Need}
use Rattle.fewest_spec.proofs.OneLists.{one_places, one_targets}
use Rattle.fewest_spec.proofs.SomeFewest.{places_are, targets_are}
use Rattle.fewest_spec.specs.Making.{places_for, targets_for}
use Rattle.fewest_spec.specs.Wishes.{ArePlaces, HasManyChoices, HasTooManyChoices}

-- so many choices are looked at
abbrev has_few : List Need → List ℕ → Bool
has_few needs asked = leb (length (places_for needs asked) * length (targets_for needs asked)) (limit_number Choices)

abbrev pub have_few : List Need → Bool
have_few needs = list_all (λ need. has_few needs need.asked) needs

module _ (needs : List Need) where
  abbrev IsAskedFor : List ℕ → Type 0
  IsAskedFor asked = (need : Need) × Contains needs need × (need.asked ≡ asked)

  asked_for : (asked : List ℕ) → HasManyChoices needs asked → IsAskedFor asked
  asked_for asked many = by many.ps many.places many.many
    where
      by : (ps : List (List ℕ)) → ArePlaces needs asked ps → limit_number Choices < length ps * length many.ts → IsAskedFor asked
      by [] places large = absurd (omega (arith, large))
      by (p ∷ ps) places large =
          let found = places.only p (contains_here p ps) in
          (found.0, found.1.is_need, found.1.asks)

  not_many : (asked : List ℕ) → has_few needs asked ≡ true → HasManyChoices needs asked → ⊥
  not_many asked few many =
      let p = (one_places needs asked).1 many.ps (places_for needs asked) many.places (places_are needs asked) in
      let t = (one_targets needs asked).1 many.ts (targets_for needs asked) many.targets (targets_are needs asked) in
      let large : limit_number Choices < length (places_for needs asked) * length (targets_for needs asked) =
      subst (λ n. limit_number Choices < n) (λ i. length (p i) * length (t i)) many.many in
      let small = leb-true _ _ few in
      omega (arith, large, small)

  pub few_choices : have_few needs ≡ true → HasTooManyChoices needs → ⊥
  few_choices all found =
      let asked = asked_for found.0 found.1 in
      not_many asked.0.asked (passes_at (λ need. has_few needs need.asked) asked.0 needs all asked.1) (subst (HasManyChoices needs) (sym asked.2) found.1)
