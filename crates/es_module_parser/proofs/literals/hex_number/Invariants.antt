use Rattle.std.proofs.Common.{◌≡◌, ◌<◌, ◌≤◌, ◌-◌, drop}
use denote.Text.{Utf8}
use denote.Shadow.{shadow}
use Rattle.std.specs.Str.{chars}
use Rattle.module_spec.specs.StringValues.{hex_number}
use Rattle.es_module_parser.specs.Literals.{sixteens}
use Rattle.es_module_parser.proofs.literals.hex_number.Given as goal

abbrev pub invariant-loop-left : goal.invariant-loop-left
invariant-loop-left l =
    record {
      utf8 : shadow (Utf8 l.rest);
      number : hex_number 0 l.fn.count (chars l.fn.text) ≡ hex_number l.value l.left (chars l.rest);
      behind : drop l.fn.count (chars l.fn.text) ≡ drop l.left (chars l.rest);
      few : l.left ≤ l.fn.count;
      below : l.value < sixteens (l.fn.count - l.left);
    }

abbrev pub decreases-loop-left : goal.decreases-loop-left
decreases-loop-left l = l.left
