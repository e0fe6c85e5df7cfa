use Rattle.std.proofs.Common.{◌≡◌, take}
use Rattle.generation.proofs.kept_layout.copied.Given as goal

abbrev pub invariant-loop-place : goal.invariant-loop-place
invariant-loop-place l = l.copies.items ≡ take l.place l.fn.needs
