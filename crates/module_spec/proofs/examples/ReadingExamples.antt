-- Worked examples of whole texts, by computation.
use Rattle.std.proofs.Common.{refl}
use Rattle.std.specs.Char.{encode_utf8}
use Rattle.std.specs.Str.{chars}
use Rattle.module_spec.specs.Characters.{name_size}
use Rattle.module_spec.specs.Spellings.{blank_rest}
use Rattle.module_spec.specs.Sorts.{word}
use Rattle.module_spec.specs.Tokens.{piece, next_at}
use Rattle.module_spec.specs.StringValues.{string_value}
use Rattle.module_spec.specs.OutlineReading.{read_outline}
use Rattle.module_spec.specs.Examples.{ReadingExamples}

-- what the reading of an outline unfolds to compute on literals
unfoldable pub outline_on_literals : Unit {0}
unfolding chars encode_utf8 name_size blank_rest word piece next_at string_value read_outline
outline_on_literals = tt

pub reading_examples : ReadingExamples
unfolding outline_on_literals
reading_examples = record {
  empty = refl;
  effects = refl;
  two = refl;
  bindings = refl;
  no_request = refl;
  no_declaration = refl;
  calls = refl;
  common_js = refl;
  spaced_call = refl;
  call_in_a_template = refl;
  call_in_options = refl;
  call_of_a_call = refl;
  no_string_alone = refl;
  spelled_call = refl;
  call_and_meta = refl;
  call_behind_an_export = refl;
  call_in_braces = refl;
  no_value_of_a_call = refl;
  wrong_form_first = refl;
  no_value_in_braces = refl;
  wrong_around = refl;
  call_of_no_value_alone = refl;
  cut_call = refl;
  a_comment = refl;
  a_hashbang = refl;
  wrong_form = refl;
  cut = refl;
  open_at_end = refl;
}
