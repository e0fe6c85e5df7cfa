use Rattle.std.proofs.Common.{rules}
use Rattle.layout.specs.Laid.{laid_map}
use Rattle.layout.proofs.Grouping.{matched_none, matched_some}
use Rattle.layout.proofs.LaidGroups.{texts_there, asked_there, some_many, some_laid_at}
use Rattle.layout.proofs.some.lay_some.Goals as goal

pub nodes_of-requires-clause-there : goal.nodes_of-requires-clause-there
nodes_of-requires-clause-there c = λ need at. texts_there c.args.asked.now c.args.group.now c.as_slice.result.now c.requires (search rules) need at

pub returns-in-None-clause-many : goal.returns-in-None-clause-many
returns-in-None-clause-many c = λ same. some_many c.args.asked.now c.args.group.now c.len-width.result c.requires (search rules) (matched_none _ _ _ _ c.in-None.is c.in_ok-nodes_of.ensures)

pub lay_nodes-requires : goal.lay_nodes-requires
lay_nodes-requires c = asked_there c.args.asked.now c.args.group.now _ (search rules)

pub returns-clause-laid : goal.returns-clause-laid
returns-clause-laid c =
    some_laid_at c.args.asked.now c.args.group.now _ _ _ _ _ (laid_map c.args.laid.now) (laid_map c.lay_nodes.new.laid) c.requires
    (matched_some _ _ _ _ c.in-Some.nodes c.in-Some.is c.in_ok-nodes_of.ensures) c.in_ok-lay_nodes-in-Some.ensures (search rules) (search rules) (search rules) (search rules)
