use Rattle.std.proofs.Common.{sym, subst}
use Rattle.generator_spec.specs.Lines.{line_of}
use Rattle.session_spec.specs.Replies.{fault_line}
use Rattle.session_run.specs.Editing.{SaysStop}
use Rattle.session_run.proofs.edits.stopped.Goals as goal

pub returns-in-Change : goal.returns-in-Change
returns-in-Change c =
    subst (λ why. SaysStop why c.said.result) (sym c.in-Change.is) (c.said.ensures (fault_line c.in-Change.fault) c.edit_line.ensures)

pub returns-in-Generation : goal.returns-in-Generation
returns-in-Generation c =
    subst (λ why. SaysStop why c.said-in-Generation.result) (sym c.in-Generation.is) (c.said-in-Generation.ensures (line_of c.in-Generation.why) c.line_of.ensures)
