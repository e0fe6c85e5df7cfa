-- The worked examples, by computation.
use Rattle.tree_spec.proofs.ByteLists.{texts_differ}
use Rattle.std.proofs.Common.{◌∙◌, refl}
use Rattle.std.specs.Prelude.{[], ◌∷◌, codes}
use Rattle.url.proofs.OnLiterals.{url_on_literals}
use Rattle.url_spec.specs.Parsing.{parse_alone, parse_against, text_of}
use Rattle.layout_spec.specs.ShortForms.{short}
use Rattle.layout_spec.proofs.examples.Agreement.{no_clash_from_test}
use Rattle.layout_spec.proofs.Contained.{contains_here, contains_there}
use Rattle.layout_spec.proofs.examples.PrintedLists.{lists_text}
use Rattle.layout_spec.proofs.examples.HeldLists.{none_captured, captured, of_no_need}
use Rattle.layout_spec.specs.WorkedExamples.{PlaceExamples, the_base, app_ab, page_app, app_home, app_id, home_id, CountExamples, below_app, beside, ClashExamples, WorkedExamples, nothing_mapped, only_integrity, two_scopes, several, TextExamples, neighbor, with_addresses, x_below, x_itself, ServingExamples}

place_examples : PlaceExamples
unfolding parse_alone text_of url_on_literals
place_examples = record { page = refl; at_root = refl; deep = refl; in_query = refl; no_own_text = refl; of_file = refl; of_none = refl }

count_examples : CountExamples
count_examples = record { once = refl; clashing = refl }

clash_examples : ClashExamples
clash_examples = record {
  two_targets = λ none. texts_differ below_app.target beside.target refl (none below_app beside (contains_here below_app (beside ∷ [])) (contains_there beside below_app (beside ∷ []) (contains_here beside [])) refl refl);
  none = no_clash_from_test (page_app ∷ app_home ∷ app_id ∷ home_id ∷ app_ab ∷ []) refl;
}

serving_examples : ServingExamples
unfolding parse_alone text_of url_on_literals
serving_examples = record {
  in_folder = none_captured (with_addresses [] (x_below ∷ [])) (below_app ∷ []) (refl, tt);
  on_top = none_captured (with_addresses (x_below ∷ []) []) (below_app ∷ []) (refl, tt);
  longest = none_captured (with_addresses (x_itself ∷ []) (x_below ∷ [])) (below_app ∷ []) (refl, tt);
  not_longest = captured (with_addresses (x_below ∷ []) (x_itself ∷ [])) (below_app ∷ []) below_app (contains_here below_app []) (codes x_itself) refl (λ same. texts_differ _ _ refl same);
  free = none_captured (with_addresses [] []) (neighbor ∷ []) (refl, tt);
  free_captured = captured (with_addresses [] (x_below ∷ [])) (below_app ∷ neighbor ∷ []) neighbor (contains_there neighbor below_app (neighbor ∷ []) (contains_here neighbor [])) (codes x_below) refl (λ same. texts_differ _ _ refl same);
  no_need = λ of_needs. of_no_need (with_addresses [] (x_below ∷ [])) neighbor of_needs (codes "https://app.test/app/") (codes x_itself) (codes x_below) refl (λ same. texts_differ _ _ refl same);
}

text_examples : TextExamples
unfolding parse_against short text_of url_on_literals
text_examples = record { empty = lists_text the_base nothing_mapped ∙ refl; scoped = lists_text the_base two_scopes ∙ refl; no_scopes = lists_text the_base only_integrity ∙ refl; sorted = lists_text the_base several ∙ refl }

pub worked_examples : WorkedExamples
worked_examples = (place_examples, count_examples, clash_examples, serving_examples, text_examples)
