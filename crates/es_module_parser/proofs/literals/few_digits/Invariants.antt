use Rattle.std.proofs.Common.{◌≡◌, ◌≤◌, ◌+◌, length}
use denote.Text.{Utf8}
use denote.Shadow.{shadow}
use Rattle.std.specs.Str.{chars}
use Rattle.module_spec.specs.Characters.{hex_digits}
use Rattle.es_module_parser.proofs.literals.few_digits.Given as goal

abbrev pub invariant-loop-first : goal.invariant-loop-first
invariant-loop-first l =
    record {
      utf8 : shadow (Utf8 l.rest);
      counted : hex_digits (chars l.fn.text) ≡ l.count + hex_digits (chars l.rest);
      few : l.count ≤ 6;
    }

abbrev pub decreases-loop-first : goal.decreases-loop-first
decreases-loop-first l = length (chars l.rest)
