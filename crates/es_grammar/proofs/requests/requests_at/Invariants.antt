use Rattle.std.proofs.Common.{◌≡◌, ◌++◌, map, length}
use Rattle.grammar_spec.specs.Verdicts.{requests_at}
use Rattle.grammar_tokens.specs.Spots.{sight_of}
use Rattle.es_grammar.proofs.requests.requests_at.Given as goal

abbrev pub invariant-put : goal.invariant-put
invariant-put l =
    requests_at (map (sight_of l.fn.text) l.fn.spots) l.fn.asked ≡ l.found ++ requests_at (map (sight_of l.fn.text) l.fn.spots) l.rest

abbrev pub decreases-put : goal.decreases-put
decreases-put l = length l.rest
