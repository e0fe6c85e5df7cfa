use Rattle.std.proofs.Common.{sym, ap, ◌∙◌}
use Rattle.ordered_json.proofs.ShownLemmas.{json_of_object}
use Rattle.ordered_json.specs.Shown.{json_of}
use Rattle.project_file.specs.Strings.{object_in}
use Rattle.project_file.proofs.parts.object_of.Goals as goal

pub returns-in-Object : goal.returns-in-Object
returns-in-Object c = sym (ap object_in (ap json_of c.in-Object.is ∙ json_of_object c.in-Object.members))
