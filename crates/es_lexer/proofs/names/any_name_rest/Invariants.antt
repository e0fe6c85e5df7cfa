use Rattle.std.proofs.Common.{◌≡◌, length}
use Rattle.module_spec.specs.Characters.{name_rest}
use Rattle.es_lexer.proofs.names.any_name_rest.Given as goal

abbrev pub invariant-loop-more : goal.invariant-loop-more
invariant-loop-more l = name_rest l.bytes ≡ name_rest l.rest

abbrev pub decreases-loop-more : goal.decreases-loop-more
decreases-loop-more l = length l.rest
