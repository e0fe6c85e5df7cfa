use Rattle.exports_patterns.specs.Found.{keys_of, Finds, HasSpan}
use Rattle.exports_patterns.specs.Indexes.{IsKeyIndex}
use Rattle.std.specs.Prelude.{IfSome}
use Rattle.exports_patterns.proofs.ChoiceLemmas.{at_names}
use Rattle.exports_patterns.proofs.pattern_keys.indexed_match.Goals as goal

pub returns-in-Some-clause-choice : goal.returns-in-Some-clause-choice
returns-in-Some-clause-choice c =
    at_names (λ names. IsKeyIndex names c.in-Some.index) (λ names. Finds names c.args.asked.now) c.best_indexed.result
    (keys_of c.args.members.now) (rw c.in-Some.is at c.requires) c.best_indexed.ensures.choice

pub returns-in-Some-clause-span : goal.returns-in-Some-clause-span
returns-in-Some-clause-span c =
    at_names (λ names. IsKeyIndex names c.in-Some.index) (λ names found. IfSome found (HasSpan c.args.asked.now)) c.best_indexed.result
    (keys_of c.args.members.now) (rw c.in-Some.is at c.requires) c.best_indexed.ensures.span
