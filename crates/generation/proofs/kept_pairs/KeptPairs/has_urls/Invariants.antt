use Rattle.std.proofs.Common.{ℕ, ◌<◌}
use Rattle.generation.specs.Pairing.{HasUrlAt}
use Rattle.generation.proofs.kept_pairs.KeptPairs.has_urls.Given as goal

abbrev pub invariant-loop-place : goal.invariant-loop-place
invariant-loop-place l = (k : ℕ) → k < l.place → HasUrlAt l.fn.config l.fn.trace.gathered.modules l.fn.self.modules k
