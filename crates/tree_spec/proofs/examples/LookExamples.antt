-- The worked examples of looks, by computation.
use Rattle.std.specs.Prelude.{refl}
use Rattle.tree_spec.specs.FoldersAbove.{folders_from}
use Rattle.tree_spec.specs.LookExamples.{LimitExamples, FootprintExamples, FolderExamples, LookExamples}

limit_examples : LimitExamples
unfolding folders_from
limit_examples = record {
  nothing = refl;
  largest_file = refl;
  too_large = refl;
  most_looks = refl;
  third_path = refl;
  known_path = refl;
  looks_first = refl;
  most_bytes = refl;
  too_many_bytes = refl;
  file_first = refl;
  counted_once = refl;
  large_again = refl;
  next_question = refl;
}

footprint_examples : FootprintExamples
unfolding folders_from
footprint_examples = record {
  each_once = refl;
  none = refl;
}

folder_examples : FolderExamples
unfolding folders_from
folder_examples = record {
  of_root = refl;
  of_file = refl;
  root_of_root = refl;
  in_root = refl;
  below = refl;
}

pub look_examples : LookExamples
look_examples = (limit_examples, footprint_examples, folder_examples)
