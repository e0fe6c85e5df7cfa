use Rattle.exports_patterns.proofs.ChoiceLemmas.{IsSought}
use Rattle.exports_patterns.proofs.pattern_keys.best_pattern.Given as goal

abbrev pub invariant-loop-at : goal.invariant-loop-at
invariant-loop-at l = IsSought l.asked l.patterns l.at

abbrev pub decreases-loop-at : goal.decreases-loop-at
decreases-loop-at l = l.at
