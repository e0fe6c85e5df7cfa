-- The worked examples, by computation.
use Rattle.std.proofs.Common.{refl}
use Rattle.std.specs.Prelude.{◌≡◌, List, codes, true}
use Prim.Native.String.{String}
use Rattle.url.proofs.OnLiterals.{url_on_literals}
use Rattle.url_spec.specs.Parsing.{parse_alone, text_of}
use Rattle.layout_spec.proofs.examples.Agreement.{no_clash_from_test, all_agree}
use Rattle.layout_spec.specs.declared.Need.{Need}
use Rattle.fewest_spec.specs.Choosing.{no_weight, is_best, reduced}
use Rattle.fewest_spec.specs.Making.{wish_of, places_for, picked}
use Rattle.fewest_spec.specs.WorkedExamples.{ChoosesAs, FewestExamples, written}
use Rattle.fewest_spec.proofs.SomeFewest.{fewest_picked}

chooses : (needs : List Need) (asked : String) (mappings : List (String × String)) → all_agree needs ≡ true → picked (wish_of needs (codes asked)) (places_for needs (codes asked)) no_weight ≡ written mappings → ChoosesAs needs asked mappings
chooses needs asked mappings agree e = record { is = fewest_picked needs (codes asked) (written mappings) (no_clash_from_test needs agree) e }

pub fewest_examples : FewestExamples
unfolding parse_alone text_of url_on_literals is_best reduced
fewest_examples = record {
  none = chooses _ _ _ refl refl;
  one = chooses _ _ _ refl refl;
  free = chooses _ _ _ refl refl;
  two = chooses _ _ _ refl refl;
  three = chooses _ _ _ refl refl;
  free_stays = chooses _ _ _ refl refl;
  most = chooses _ _ _ refl refl;
  smaller = chooses _ _ _ refl refl;
  smaller_above = chooses _ _ _ refl refl;
  nested = chooses _ _ _ refl refl;
  three_targets = chooses _ _ _ refl refl;
  below_page = chooses _ _ _ refl refl;
  to_itself = chooses _ _ _ refl refl;
}
