use Rattle.std.proofs.Common.{◌≡◌, take}
use Rattle.generation.proofs.kept_layout.are_in.Given as goal

abbrev pub invariant-loop-place : goal.invariant-loop-place
invariant-loop-place l = take l.place l.fn.kept ≡ take l.place l.fn.needs
