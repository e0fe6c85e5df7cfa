use Rattle.std.proofs.Common.{◌≡◌, ◌++◌}
use Rattle.std.specs.List.{concat}
use Rattle.generator_core.specs.Explaining.{step_lines}
use Rattle.generator_core.proofs.Explainings.{lines_left}
use Rattle.generator_core.proofs.explaining.push_steps.Given as goal

-- the lines that are left stand behind those that are there
abbrev pub invariant-loop-index : goal.invariant-loop-index
invariant-loop-index l =
    l.fn.text.items ++ concat (step_lines l.fn.trace.links.graph l.fn.config.entries l.fn.found)
    ≡ l.text.items ++ lines_left l.fn.trace.links.graph l.fn.config.entries l.from l.fn.found l.index
