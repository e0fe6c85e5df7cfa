use Rattle.std.proofs.Common.{◌≡◌, ◌++◌, drop, map}
use Rattle.check_spec.specs.Differences.{differences, differences_from}
use Rattle.map_check.specs.Shown.{shown}
use Rattle.map_check.proofs.check.check_map.Given as goal

-- the differences of the needs that are left stand behind those that are there
abbrev pub invariant-loop-number : goal.invariant-loop-number
invariant-loop-number l = differences l.fn.parsed l.fn.needs ≡ map shown l.found ++ differences_from l.fn.parsed l.number (drop l.number l.fn.needs)
