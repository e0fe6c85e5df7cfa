use Rattle.std.proofs.Common.{◌≡◌, ◌+◌, length}
use Rattle.module_spec.specs.Characters.{hex_digits}
use Rattle.es_lexer.proofs.names.hex_digits.Given as goal

abbrev pub invariant-loop-b : goal.invariant-loop-b
invariant-loop-b l = (hex_digits l.bytes ≡ l.count + hex_digits l.rest) × (l.count + length l.rest ≡ length l.bytes)

abbrev pub decreases-loop-b : goal.decreases-loop-b
decreases-loop-b l = length l.rest
