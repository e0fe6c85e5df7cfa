use Rattle.layout_spec.proofs.TextBack.{texts_are_plain}
use Rattle.layout_spec.proofs.texts_are_plain.Goals as goal

pub returns : goal.returns
returns c = texts_are_plain
