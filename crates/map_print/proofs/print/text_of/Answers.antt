use Rattle.ordered_json.proofs.Appends.{from_nothing}
use Rattle.map_print.proofs.print.text_of.Goals as goal

pub returns : goal.returns
returns c = from_nothing c.new-out.ensures.items c.in_ok-push_map.ensures
