use Rattle.std.proofs.Common.{◌≡◌, take}
use Rattle.generation.specs.Pairing.{named}
use Rattle.generation.proofs.kept_pairs.named_modules.Given as goal

abbrev pub invariant-loop-place : goal.invariant-loop-place
invariant-loop-place l =
    l.all.items ≡ named l.fn.config (take l.place l.fn.trace.gathered.modules) (take l.place l.fn.trace.gathered.sources)
