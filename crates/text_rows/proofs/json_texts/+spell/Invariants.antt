use Rattle.std.proofs.Common.{◌+◌, ◌*◌}
use Rattle.text_rows.proofs.json_texts.+spell.Given as goal

abbrev pub decreases-push_value : goal.decreases-push_value
decreases-push_value l = 2 * l.depth

abbrev pub decreases-push_items : goal.decreases-push_items
decreases-push_items l = 2 * l.depth + 1

abbrev pub decreases-push_members : goal.decreases-push_members
decreases-push_members l = 2 * l.depth + 1
