use Rattle.std.proofs.Common.{◌≡◌, length, take}
use Rattle.generation.specs.Pairing.{turned}
use Rattle.generation.proofs.kept_pairs.KeptPairs.follow.Given as goal

-- the modules before the place have their bytes
abbrev pub invariant-loop-place : goal.invariant-loop-place
invariant-loop-place l =
    (l.self.modules ≡ turned l.fn.self.modules (take l.place l.fn.trace.gathered.sources))
    × (length l.self.pairs ≡ length l.self.modules)
