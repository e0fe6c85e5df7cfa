use Rattle.std.proofs.Common.{lit<}
use Rattle.std.proofs.lemmas.Str.Pattern.{contains_char}
use Rattle.tree_model.proofs.Segments.{segment_if}
use Rattle.tree_model.proofs.path.is_segment.Goals as goal

pub returns-in_default : goal.returns-in_default
returns-in_default c =
    segment_if c.args.name.now c.contains.result c.in_default.not-empty c.in_default.not-text c.in_default.not-text-2 c.requires
    (contains_char 0 c.args.name.now c.contains.result c.contains.ensures.cases (lit< tt))
