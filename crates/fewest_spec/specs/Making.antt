-- The choice of needs, made in order to be computed.
--     sorted texts      the texts in the order of their bytes, each once
--     wish_of needs asked, places_of needs asked      what is chosen for
--     choice_of needs asked      the choice
--     picked wish places weights      the same as a list
use Rattle.std.specs.Cmp.Lexicographic.{slice_cmp}
use Rattle.std.specs.FinMap.{find}
use Rattle.std.specs.FinMap.Entries.{by_order}
use Rattle.std.specs.List.{list_all, filter}
use Rattle.std.specs.Ordering.{nat_cmp}
use Rattle.std.specs.Prelude.{◌||◌, ◌++◌, not, ℕ, Bool, cond, List, [], ◌∷◌, map, flat_map, reverse, unwrap_or, bytes_eq}
use Rattle.layout_spec.specs.Places.{places, above}
use Rattle.layout_spec.specs.Serving.{first_of}
use Rattle.layout_spec.specs.declared.Need.{Need}
use Rattle.fewest_spec.specs.Choosing.{Wish, Weights, no_weight, is_best, reduced, first_best, chosen}
use Rattle.fewest_spec.specs.Fewest.{Choice}

abbrev pub put_text : List ℕ → List (List ℕ) → List (List ℕ)
put_text text [] = text ∷ []
put_text text (other ∷ more) =
    by_order (slice_cmp nat_cmp text other) (text ∷ other ∷ more) (other ∷ more) (other ∷ put_text text more)

abbrev pub sorted : List (List ℕ) → List (List ℕ)
sorted [] = []
sorted (text ∷ more) = put_text text (sorted more)

abbrev pub asking : List Need → List ℕ → List Need
asking needs asked = filter (λ need. bytes_eq need.asked asked) needs

abbrev pub fits_in : List Need → List ℕ → List ℕ → Bool
fits_in needs place value = list_all (λ need. not (bytes_eq need.referrer place) || bytes_eq need.target value) needs

abbrev pub wish_of : List Need → List ℕ → Wish
wish_of needs asked = record {
  asked = asked;
  targets = sorted (asked ∷ map (λ need. need.target) (asking needs asked));
  fits = fits_in (asking needs asked);
}

abbrev pub places_for : List Need → List ℕ → List (List ℕ)
places_for needs asked = reverse (sorted (flat_map (λ need. places need.referrer) (asking needs asked)))

abbrev pub targets_for : List Need → List ℕ → List (List ℕ)
targets_for needs asked = sorted (map (λ need. need.target) (asking needs asked))

abbrev pub choice_of : List Need → List ℕ → Choice
choice_of needs asked = chosen (wish_of needs asked) (places_for needs asked) no_weight

abbrev pub pick : Wish → Weights → List ℕ → List (List ℕ × List ℕ) → List (List ℕ × List ℕ)
pick wish weights place picks =
    cond (is_best wish weights place (unwrap_or (first_of (λ p. find (slice_cmp nat_cmp) p picks) (above place)) wish.asked))
    picks (picks ++ (place, first_best wish weights place) ∷ [])

abbrev pub picked : Wish → List (List ℕ) → Weights → List (List ℕ × List ℕ)
picked wish [] weights = []
picked wish (place ∷ before) weights = pick wish weights place (picked wish before (reduced wish place weights))
