use Rattle.std.proofs.Common.{lit<}
use Rattle.std.proofs.lemmas.Str.Pattern.{contains_char}
use Rattle.project_file.proofs.NameLemmas.{name_if}
use Rattle.project_file.proofs.lists.is_name.Goals as goal

pub returns-in_default : goal.returns-in_default
returns-in_default c =
    name_if c.args.text.now c.contains.result c.in_default.not-empty
    (contains_char 44 c.args.text.now c.contains.result c.contains.ensures.cases (lit< tt))
