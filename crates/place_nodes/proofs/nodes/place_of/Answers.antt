use Rattle.place_nodes.proofs.Growing.{byte_fails, slash_boundary, folder_there, folder_fails}
use Rattle.place_nodes.proofs.nodes.place_of.Goals as goal

pub returns-then-as_bytes-size-ne47 : goal.returns-then-as_bytes-size-ne47
returns-then-as_bytes-size-ne47 c = byte_fails c.args.referrer.now c.as_bytes.result.now c.args.size c.as_bytes.ensures.value c.if-size-eq0.false c.requires c.if-as_bytes-size-ne47.true

pub range-front-requires-clause-end_boundary : goal.range-front-requires-clause-end_boundary
range-front-requires-clause-end_boundary c = slash_boundary c.args.referrer.now c.as_bytes.result.now c.args.size c.utf8.referrer c.as_bytes.ensures.value c.if-size-eq0.false c.requires c.if-as_bytes-size-ne47.false

pub returns-then-branch : goal.returns-then-branch
returns-then-branch c = folder_there c.args.referrer.now c.range-front.result.now c.args.size c.in_ok-is_folder.field-0 c.range-front.ensures.value c.requires c.in_ok-is_folder.ensures c.if-branch.true

pub returns : goal.returns
returns c = folder_fails c.args.referrer.now c.range-front.result.now c.args.size c.in_ok-is_folder.field-0 c.range-front.ensures.value c.if-size-eq0.false c.requires c.in_ok-is_folder.ensures c.if-branch.false
