use Rattle.json_spec.specs.Value.{a_text}
use Rattle.map_print.specs.PrintedLists.{value_text}
use Rattle.map_print.proofs.PrintedParts.{all_members}
use Rattle.map_print.proofs.print.push_more_pairs.Goals as goal

pub returns : goal.returns
returns c = all_members (λ pair. pair.0) (λ pair. a_text (value_text c.args.values c.args.folder.now pair.1)) c.args.level c.loop-pair.pair-index c.args.pairs.now c.loop-pair-test.false c.loop-pair.invariant
