use Rattle.module_spec.proofs.FormLaws.{forms_are_productions}
use Rattle.module_spec.proofs.forms_are_productions.Goals as goal

pub returns : goal.returns
returns c = forms_are_productions
