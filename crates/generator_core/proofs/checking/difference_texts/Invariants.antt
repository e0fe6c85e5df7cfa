use Rattle.std.proofs.Common.{◌≡◌, ◌++◌, drop}
use Rattle.generator_core.proofs.ReportLemmas.{lines_of}
use Rattle.generator_core.proofs.checking.difference_texts.Given as goal

-- the lines that are left stand behind those that are there
abbrev pub invariant-loop-number : goal.invariant-loop-number
invariant-loop-number l = lines_of l.fn.trace.gathered l.fn.differences ≡ l.lines ++ lines_of l.fn.trace.gathered (drop l.number l.fn.differences)
