use Rattle.std.proofs.Common.{◌-◌, ◌^◌}
use Rattle.chain_why.proofs.Finding.{IsUnderWay}
use Rattle.chain_why.proofs.search.find.Given as goal

abbrev pub invariant-loop-place : goal.invariant-loop-place
invariant-loop-place l = IsUnderWay l.view l.roots l.path l.reached.keys l.place

-- there are fewer places than numbers
abbrev pub decreases-loop-place : goal.decreases-loop-place
decreases-loop-place l = 2 ^ 63 - l.place
