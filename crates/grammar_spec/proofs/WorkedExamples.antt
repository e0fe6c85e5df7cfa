-- Worked examples, by computation.
use Rattle.std.proofs.Common.{refl}
use Rattle.std.specs.Char.{encode_utf8}
use Rattle.std.specs.Str.{chars}
use Rattle.module_spec.specs.Characters.{name_size}
use Rattle.module_spec.specs.Spellings.{blank_rest}
use Rattle.module_spec.specs.Sorts.{word}
use Rattle.module_spec.specs.Tokens.{piece, next_at}
use Rattle.module_spec.specs.StringValues.{string_value}
use Rattle.grammar_spec.specs.Sights.{passes, holds}
use Rattle.grammar_spec.specs.Statements.{body}
use Rattle.grammar_spec.specs.PlainReading.{lexed}
use Rattle.grammar_spec.specs.Examples.{DeclarationExamples, BindingExamples, StatementExamples, ExpressionExamples}

-- what a verdict unfolds to compute on literals
unfoldable verdicts_on_literals : Unit {0}
unfolding chars encode_utf8 name_size blank_rest word piece next_at string_value passes holds body lexed
verdicts_on_literals = tt

pub declaration_examples : DeclarationExamples
unfolding verdicts_on_literals
declaration_examples = record {
  modules = (refl, refl, refl, refl, refl, refl);
  imports = (refl, refl, refl, refl, refl, refl, refl, refl, refl, refl, refl);
  clauses = (refl, refl, refl, refl, refl, refl, refl, refl, refl, refl, refl, refl, refl);
  attributes = (refl, refl, refl, refl, refl, refl, refl);
  exports = (refl, refl, refl, refl, refl, refl, refl, refl, refl, refl, refl, refl);
  defaults = (refl, refl, refl, refl, refl, refl, refl, refl, refl, refl, refl);
}

pub binding_examples : BindingExamples
unfolding verdicts_on_literals
binding_examples = record {
  variables = (refl, refl, refl, refl, refl, refl, refl, refl, refl, refl);
  arrays = (refl, refl, refl, refl, refl, refl);
  objects = (refl, refl, refl, refl, refl, refl, refl, refl, refl, refl);
  functions = (refl, refl, refl, refl, refl, refl, refl, refl, refl, refl, refl, refl, refl);
  classes = (refl, refl, refl, refl, refl, refl, refl, refl, refl);
  members = (refl, refl, refl, refl, refl, refl, refl, refl, refl, refl, refl, refl, refl, refl, refl);
}

pub statement_examples : StatementExamples
unfolding verdicts_on_literals
statement_examples = record {
  blocks = (refl, refl, refl, refl);
  conditions = (refl, refl, refl, refl, refl, refl, refl, refl, refl);
  rounds = (refl, refl, refl, refl, refl, refl, refl, refl, refl, refl, refl);
  wrong_rounds = (refl, refl, refl, refl, refl, refl, refl, refl, refl, refl);
  loops = (refl, refl, refl, refl, refl, refl, refl, refl);
  jumps = (refl, refl, refl, refl, refl, refl, refl, refl, refl, refl, refl, refl);
  choices = (refl, refl, refl, refl, refl, refl, refl);
  tries = (refl, refl, refl, refl, refl, refl, refl, refl, refl);
  others = (refl, refl, refl, refl, refl, refl, refl, refl);
  ends = (refl, refl, refl, refl, refl, refl, refl);
}

pub expression_examples : ExpressionExamples
unfolding verdicts_on_literals
expression_examples = record {
  assignments = (refl, refl, refl, refl, refl, refl, refl, refl, refl);
  arrows = (refl, refl, refl, refl, refl, refl, refl, refl, refl, refl, refl, refl, refl, refl);
  choices = (refl, refl, refl, refl, refl);
  operators = (refl, refl, refl, refl, refl, refl);
  units = (refl, refl, refl, refl, refl, refl, refl, refl, refl, refl, refl);
  tails = (refl, refl, refl, refl, refl, refl, refl, refl, refl, refl, refl, refl, refl, refl, refl);
  arguments = (refl, refl, refl, refl, refl, refl);
  primaries = (refl, refl, refl, refl, refl, refl, refl, refl, refl, refl, refl, refl, refl, refl, refl);
  objects = (refl, refl, refl, refl, refl, refl, refl, refl, refl, refl, refl, refl);
  templates = (refl, refl, refl, refl);
  calls = (refl, refl, refl, refl, refl, refl, refl, refl, refl, refl, refl, refl, refl);
}
