use Rattle.std.proofs.Common.{◌≡◌, false, length}
use Rattle.module_spec.specs.Spellings.{regex_body_rest}
use Rattle.es_lexer.proofs.spellings.regex_body_rest.Given as goal

abbrev pub invariant-loop-b : goal.invariant-loop-b
invariant-loop-b l = regex_body_rest false false l.bytes ≡ regex_body_rest l.class l.escaped l.rest

abbrev pub decreases-loop-b : goal.decreases-loop-b
decreases-loop-b l = length l.rest
