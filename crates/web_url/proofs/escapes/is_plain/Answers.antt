use Rattle.std.proofs.Common.{not, ap, ◌∙◌}
use Rattle.web_url.proofs.EscapeLemmas.{plain_byte}
use Rattle.web_url.proofs.escapes.is_plain.Goals as goal

pub returns : goal.returns
returns c = ap not c.should_percent_encode.ensures ∙ plain_byte c.args.byte
