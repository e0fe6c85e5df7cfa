use Rattle.std.proofs.Common.{◌≡◌, ◌++◌, drop}
use Rattle.std.specs.List.{concat}
use Rattle.generator_core.proofs.checking.joined.Given as goal

-- the lines that are left stand behind those that are there
abbrev pub invariant-loop-number : goal.invariant-loop-number
invariant-loop-number l = concat l.fn.lines ≡ l.text.items ++ concat (drop l.number l.fn.lines)
