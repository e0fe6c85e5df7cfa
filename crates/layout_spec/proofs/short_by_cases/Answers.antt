use Rattle.layout_spec.proofs.ShortBack.{short_by_cases}
use Rattle.layout_spec.proofs.short_by_cases.Goals as goal

pub returns : goal.returns
returns c = short_by_cases
