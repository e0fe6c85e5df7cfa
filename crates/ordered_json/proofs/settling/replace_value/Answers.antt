use Rattle.ordered_json.proofs.PairsLemmas.{value_set}
use Rattle.ordered_json.proofs.settling.replace_value.Goals as goal

pub returns : goal.returns
returns c =
    record { all = λ before after name old e p. value_set c.args.pairs.now.items before after name old c.args.value c.args.place c.index_mut-pair.result.now c.index_mut-pair.ensures.value e p }
