use Rattle.std.proofs.Common.{sym, ◌∙◌}
use Rattle.session_input.proofs.ByteTests.{no_entry_bytes, entry_bytes}
use Rattle.session_input.proofs.line.entry_in.Goals as goal

pub returns-in-Err : goal.returns-in-Err
returns-in-Err c = no_entry_bytes c.args.bytes.now c.in-Err.ensures.cases.0

pub returns-in_ok-of-in-Ok : goal.returns-in_ok-of-in-Ok
returns-in_ok-of-in-Ok c = (
  entry_bytes c.args.bytes.now (sym c.is_empty.ensures ∙ c.if-is_empty.false) c.in-Ok.ensures.cases.1,
  c.in_ok-of-in-Ok.ensures ∙ c.in-Ok.ensures.cases.0,
)
