use Rattle.std.proofs.Common.{Err, ap, ◌∙◌}
use Rattle.session_input.proofs.ByteTests.{no_text_path, no_path_bytes, path_bytes}
use Rattle.session_input.proofs.line.path_in.Goals as goal

pub returns-in-Err : goal.returns-in-Err
returns-in-Err c = no_text_path c.args.bytes.now c.in-Err.ensures.cases.0

pub returns-in-Ok-parse : goal.returns-in-Ok-parse
returns-in-Ok-parse c = (
  path_bytes c.args.bytes.now _ c.in-Ok.ensures.cases.0 c.in-Ok.ensures.cases.1 c.in-Ok-parse.ensures.path.1,
  c.in-Ok-parse.ensures.path.0 ∙ c.in-Ok.ensures.cases.0,
)

pub returns-in-Err-BadPath : goal.returns-in-Err-BadPath
returns-in-Err-BadPath c =
    no_path_bytes c.args.bytes.now _ c.in-Ok.ensures.cases.0 (c.in-Err-BadPath.ensures.bad.0 (ap Err c.in-Err-BadPath.field-0-is))
