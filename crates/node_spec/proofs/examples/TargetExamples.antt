-- The worked examples of targets, by computation.
use Rattle.std.proofs.Common.{subst}
use Rattle.std.specs.Prelude.{ℕ, List, codes, bytes_eq, if◌then◌else◌, ◌≡◌, refl}
use Rattle.percent_encoding.specs.Percent.{percent_decode}
use Rattle.url.proofs.OnLiterals.{url_on_literals}
use Rattle.url.specs.Input.{strip_tabs_and_new_lines}
use Rattle.json_spec.specs.PropertyOrder.{is_array_index}
use Rattle.json_spec.specs.Value.{Json}
use Rattle.url_spec.specs.Parsing.{text_of, parse_alone}
use Rattle.node_spec.proofs.SomeOutcome.{CallsAndOutcome, found, sound}
use Rattle.node_spec.specs.PackageTargets.{Rules, Call, ResolvesTarget, is_invalid_segment, names_package}
use Rattle.node_spec.specs.TargetExamples.{StringExamples, NestedExamples, TargetExamples}
use Rattle.node_spec.specs.declared.BareAnswer.{BareAnswer}
use Rattle.node_spec.specs.declared.BareAnswer.TheVariants as bare_answer
use Rattle.node_spec.specs.declared.Outcome.{Outcome}

answers : List ℕ → BareAnswer
answers text = if bytes_eq text (codes "x") then bare_answer.InvalidTarget else if bytes_eq text (codes "s") then bare_answer.Stop else bare_answer.Found

comes : (rules : Rules) (target : Json) (asked : List Call) (out : Outcome) → found answers rules target ≡ record { asked = asked; out = out } → ResolvesTarget rules target asked out
comes rules target asked out e = subst (λ (f : CallsAndOutcome). ResolvesTarget rules target f.asked f.out) e (sound answers rules target)

string_examples : StringExamples
unfolding answers is_invalid_segment names_package percent_decode strip_tabs_and_new_lines parse_alone text_of url_on_literals
string_examples = record {
  place = comes _ _ _ _ refl;
  star = comes _ _ _ _ refl;
  stars = comes _ _ _ _ refl;
  star_kept = comes _ _ _ _ refl;
  above = comes _ _ _ _ refl;
  escaped = comes _ _ _ _ refl;
  modules = comes _ _ _ _ refl;
  no_name = comes _ _ _ _ refl;
  tab = comes _ _ _ _ refl;
  match_above = comes _ _ _ _ refl;
  match_empty = comes _ _ _ _ refl;
  both_invalid = comes _ _ _ _ refl;
  bare_export = comes _ _ _ _ refl;
  bare_import = comes _ _ _ _ refl;
  bare_star = comes _ _ _ _ refl;
  url_import = comes _ _ _ _ refl;
  above_import = comes _ _ _ _ refl;
}

nested_examples : NestedExamples
unfolding answers is_invalid_segment names_package is_array_index percent_decode strip_tabs_and_new_lines parse_alone text_of url_on_literals
nested_examples = record {
  null_ends = comes _ _ _ _ refl;
  no_condition = comes _ _ _ _ refl;
  falls_through = comes _ _ _ _ refl;
  first_default = comes _ _ _ _ refl;
  zero_key = comes _ _ _ _ refl;
  greatest_index = comes _ _ _ _ refl;
  past_indices = comes _ _ _ _ refl;
  leading_zero = comes _ _ _ _ refl;
  empty_list = comes _ _ _ _ refl;
  a_bool = comes _ _ _ _ refl;
  passes_invalid = comes _ _ _ _ refl;
  stops = comes _ _ _ _ refl;
  last_invalid = comes _ _ _ _ refl;
  last_null = comes _ _ _ _ refl;
  null_kept = comes _ _ _ _ refl;
  asked_twice = comes _ _ _ _ refl;
}

pub target_examples : TargetExamples
target_examples = (string_examples, nested_examples)
