use Rattle.generator_core.specs.Strictness.{IsStrictStop as strict_stop}
use Rattle.generator_core.proofs.strictness.push_module.Goals as goal

pub returns-in-Err-push_answer-clause-pushes : goal.returns-in-Err-push_answer-clause-pushes
returns-in-Err-push_answer-clause-pushes g c = record { pushed = tt; stopped = strict_stop.memory }
