use Rattle.page_spec.proofs.Values.{values_stand_in_tags}
use Rattle.page_spec.proofs.values_stand_in_tags.Goals as goal

pub returns : goal.returns
returns c = values_stand_in_tags
