use Rattle.std.proofs.Common.{Ok, refl, ap, inl, inr}
use Rattle.node_resolve.specs.Places.{module_of}
use Rattle.kept_trace.proofs.answering.shared_answer.Goals as goal

pub returns-in-Err-clause-is : goal.returns-in-Err-clause-is
returns-in-Err-clause-is c = inl (rw c.in-Err.is c.node_answer.ensures.is)

pub returns-in-Err-module-clause-is : goal.returns-in-Err-module-clause-is
returns-in-Err-module-clause-is c = inr (Ok (module_of c.in-Ok.found.value), rw c.in-Ok.is refl, refl)

pub returns-clause-is : goal.returns-clause-is
returns-clause-is c = inl (rw c.in-Ok.is (ap Ok (ap Ok (rw c.deref.ensures at c.in-Ok-module.ensures))))
