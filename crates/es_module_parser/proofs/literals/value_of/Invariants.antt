use Rattle.std.proofs.Common.{◌≡◌, length, zero}
use denote.Text.{Utf8}
use denote.Shadow.{shadow}
use Rattle.std.specs.Str.{chars}
use Rattle.std.specs.String.{string_bytes}
use Rattle.module_spec.specs.StringValues.{elements}
use Rattle.es_module_parser.specs.Literals.{inside_value, settled, IsWaiting}
use Rattle.es_module_parser.proofs.literals.value_of.Given as goal

abbrev pub invariant-loop-first : goal.invariant-loop-first
invariant-loop-first l =
    record {
      utf8 : shadow (Utf8 l.rest);
      value : inside_value (chars l.fn.inside) ≡ settled (string_bytes l.text) l.waiting (elements zero (chars l.rest));
      waits : IsWaiting l.waiting;
    }

abbrev pub decreases-loop-first : goal.decreases-loop-first
decreases-loop-first l = length (chars l.rest)
