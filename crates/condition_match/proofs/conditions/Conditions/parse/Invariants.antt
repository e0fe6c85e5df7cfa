use Rattle.std.proofs.Common.{◌≡◌, ◌++◌, length}
use Rattle.std.specs.Prelude.{option_map}
use Rattle.node_spec.specs.Conditions.{names_in, AreConditions}
use Rattle.condition_match.specs.Names.{names_left}
use Rattle.condition_match.proofs.conditions.Conditions.parse.Given as goal

abbrev pub invariant-loop-rest : goal.invariant-loop-rest
invariant-loop-rest l = (names_in l.fn.text ≡ l.names ++ names_left (option_map (λ text. text.now) l.rest)) × AreConditions l.names

abbrev pub decreases-loop-rest : goal.decreases-loop-rest
decreases-loop-rest l = length (names_left (option_map (λ text. text.now) l.rest))
