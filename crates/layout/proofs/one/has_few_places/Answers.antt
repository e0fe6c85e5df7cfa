use Rattle.std.proofs.Common.{rules}
use Rattle.layout.proofs.Grouping.{matched_none, matched_some}
use Rattle.layout.proofs.Sizes.{alone_there, judged_short, judged_many, judged_built}
use Rattle.layout.proofs.one.has_few_places.Goals as goal

pub returns-then-is_short : goal.returns-then-is_short
returns-then-is_short c = judged_short c.args.asked.now c.args.target.now c.args.group.now c.requires.asking c.requires.one (c.is_short.ensures (search rules))

pub nodes_of-requires-clause-there : goal.nodes_of-requires-clause-there
nodes_of-requires-clause-there c = λ need at. alone_there c.args.target.now c.as_slice.result.now c.args.group.now (search rules) c.requires.one need at

pub returns-in-None : goal.returns-in-None
returns-in-None c = judged_many c.args.asked.now c.args.target.now c.args.group.now c.requires.asking c.requires.one (matched_none _ _ _ _ c.in-None.is c.in_ok-nodes_of.ensures)

pub returns : goal.returns
returns c =
    judged_built c.args.asked.now c.args.target.now c.args.group.now c.as_slice.result.now c.in-Some.field-0.items c.requires.asking c.requires.one (matched_some _ _ _ _ c.in-Some.field-0 c.in-Some.is c.in_ok-nodes_of.ensures)
