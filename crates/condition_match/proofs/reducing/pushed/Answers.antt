use Rattle.std.proofs.Common.{ap, ◌∙◌}
use Rattle.std.specs.Prelude.{map, reverse}
use Rattle.ordered_json.specs.Shown.{json_of}
use Rattle.condition_match.proofs.ReduceLemmas.{turned_back}
use Rattle.condition_match.proofs.reducing.pushed.Goals as goal

pub returns : goal.returns
returns c = ap (λ vs. map json_of (reverse vs)) c.in_ok-push.ensures.items ∙ turned_back c.args.back.items c.args.value
