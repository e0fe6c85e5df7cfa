use Rattle.layout_spec.proofs.ShortBack.{short_forms_parse}
use Rattle.layout_spec.proofs.short_forms_parse.Goals as goal

pub returns : goal.returns
returns c = short_forms_parse
