use Rattle.std.proofs.Common.{◌≡◌, ◌≤◌, length}
use Rattle.std.specs.Prelude.{drop}
use Rattle.generator_spec.specs.Digests.{digests}
use Rattle.generation.specs.Digesting.{kept_texts}
use Rattle.generation.proofs.digests.digests.Given as goal

-- the digests of the modules from the place on
abbrev pub invariant-loop-place : goal.invariant-loop-place
invariant-loop-place g l =
    (l.place ≤ length l.fn.trace.gathered.modules)
    × (kept_texts l.kept ≡ digests l.fn.config (drop l.place l.fn.trace.gathered.modules) (drop l.place l.fn.trace.gathered.sources))

abbrev pub decreases-loop-place : goal.decreases-loop-place
decreases-loop-place g l = l.place
