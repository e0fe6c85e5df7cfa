use Rattle.std.proofs.Common.{sym, ap, ◌∙◌}
use Rattle.ordered_json.proofs.ShownLemmas.{json_of_list}
use Rattle.ordered_json.specs.Shown.{json_of}
use Rattle.project_file.specs.Strings.{list_in}
use Rattle.project_file.proofs.lists.list_of.Goals as goal

pub returns-in-List : goal.returns-in-List
returns-in-List c = sym (ap list_in (ap json_of c.in-List.is ∙ json_of_list c.in-List.items))
