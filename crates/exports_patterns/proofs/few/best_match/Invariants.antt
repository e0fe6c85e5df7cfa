use Rattle.std.proofs.Common.{take}
use Rattle.std.specs.Prelude.{IfSome}
use Rattle.exports_patterns.specs.Found.{keys_of, Finds, HasSpan}
use Rattle.exports_patterns.proofs.few.best_match.Given as goal

abbrev pub invariant-loop-index : goal.invariant-loop-index
invariant-loop-index l = record { found : Finds (take l.index (keys_of l.keys)) l.key l.best; span : IfSome l.best (HasSpan l.key) }
