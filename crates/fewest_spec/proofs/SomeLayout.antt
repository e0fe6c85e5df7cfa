-- All needs without a clash have a layout with the fewest mappings.
use Rattle.std.proofs.Common.{refl, sym, ap, ◌∙◌, subst}
use Rattle.std.proofs.lemmas.Option.{none-some, same_Some}
use Rattle.std.specs.FinMap.{get}
use Rattle.std.specs.List.{filter_map}
use Rattle.std.specs.Prelude.{◌≡◌, ℕ, List, Option, Some, None, option_map, flat_map, Contains}
use mathlib.Core.Logic.{inl, inr}
use Rattle.import_map_spec.proofs.Entries.{cases_option}
use Rattle.layout_spec.proofs.Contained.{contains_flat, flat_from, contains_given, given_from}
use Rattle.layout_spec.proofs.Laying.{Mapping, laid, is_laid, NoConflict}
use Rattle.layout_spec.specs.Serving.{held}
use Rattle.layout_spec.specs.declared.Need.{Need}
use Rattle.fewest_spec.specs.Choosing.{no_weight}
use Rattle.fewest_spec.specs.Laws.{SomeFewestLayout}
use Rattle.fewest_spec.specs.Making.{wish_of, places_for, choice_of}
use Rattle.fewest_spec.proofs.SomeFewest.{chosen_within, some_fewest, places_are}

abbrev mapped : List ℕ → List ℕ → List ℕ → Mapping
mapped p asked t = record { place = p; asked = asked; target = t }

module _ (needs : List Need) where
  abbrev mapping_at : Need → List ℕ → Option Mapping
  mapping_at need p = option_map (mapped p need.asked) (get (choice_of needs need.asked) p)

  abbrev of_need : Need → List Mapping
  of_need need = filter_map (mapping_at need) (places_for needs need.asked)

  abbrev mappings : List Mapping
  mappings = flat_map of_need needs

  stands : (mapping : Mapping) → Contains mappings mapping → get (choice_of needs mapping.asked) mapping.place ≡ Some mapping.target
  stands mapping c =
      let from = flat_from of_need mapping needs c in
      let given = given_from (mapping_at from.item) mapping (places_for needs from.item.asked) from.holds in
      by from.item given.item (get (choice_of needs from.item.asked) given.item) refl given.gives
    where
      by : (need : Need) (p : List ℕ) (o : Option (List ℕ)) → get (choice_of needs need.asked) p ≡ o → option_map (mapped p need.asked) o ≡ Some mapping → get (choice_of needs mapping.asked) mapping.place ≡ Some mapping.target
      by need p None e g = absurd (none-some mapping g)
      by need p (Some t) e g = subst (λ (m : Mapping). get (choice_of needs m.asked) m.place ≡ Some m.target) (same_Some _ mapping g) e

  no_conflict : NoConflict mappings
  no_conflict one other c d same_place same_asked = same_Some _ _ (sym (stands one c) ∙ ((λ i. get (choice_of needs (same_asked i)) (same_place i)) ∙ stands other d))

  listed : (asked p t : List ℕ) → get (choice_of needs asked) p ≡ Some t → Contains mappings (mapped p asked t)
  listed asked p t e =
      let at = chosen_within (wish_of needs asked) (places_for needs asked) no_weight p t e in
      let found = (places_are needs asked).only p at in
      contains_flat of_need found.0 _ needs found.1.is_need (contains_given (mapping_at found.0) p _ (places_for needs found.0.asked) (subst (λ a. Contains (places_for needs a) p) (sym found.1.asks) at)
      (subst (λ a. option_map (mapped p a) (get (choice_of needs a) p) ≡ Some (mapped p asked t)) (sym found.1.asks) (ap (option_map (mapped p asked)) e)))

pub some_fewest_layout : SomeFewestLayout
some_fewest_layout needs no_clash =
    let is = is_laid (mappings needs) (no_conflict needs) in (
      laid (mappings needs),
      record {
        tidy = is.tidy;
        no_digests = is.integrity;
        choices = λ asked. (
          choice_of needs asked,
          some_fewest needs asked no_clash,
          λ place. elim (cases_option (get (choice_of needs asked) place)) [
            | inr some ↦ is.holds (mapped place asked some.0) (listed needs asked place some.0 some.1) ∙ ap (option_map Some) (sym some.1)
            | inl none ↦ elim (cases_option (held (laid (mappings needs)) asked place)) [
              | inl nothing ↦ nothing ∙ ap (option_map Some) (sym none)
              | inr some ↦
                  let found = is.only place asked some.0 some.1 in
                  absurd (none-some found.0.target (sym ((λ i. get (choice_of needs (found.1.asked_is i)) (found.1.place_is i)) ∙ none) ∙ stands needs found.0 found.1.is_mapping))
            ]
          ],
        );
      },
    )
