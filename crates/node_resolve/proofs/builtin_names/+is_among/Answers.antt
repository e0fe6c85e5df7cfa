use Rattle.std.proofs.Common.{◌∙◌}
use Rattle.node_resolve.proofs.BuiltinLemmas.{among_none, among_first, among_later}
use Rattle.node_resolve.proofs.builtin_names.+is_among.Goals as goal

pub returns-in-None : goal.returns-in-None
returns-in-None t c = among_none c.args.text.now c.args.names.now c.in-None.ensures.cases

pub returns-then-same : goal.returns-then-same
returns-then-same t c =
    c.if-same.true ∙ among_first c.args.text.now c.in-Some.name.now c.in-Some.more.now c.args.names.now c.same.result
    c.in-Some.ensures.cases.0 c.same.ensures c.if-same.true

pub returns-else-same : goal.returns-else-same
returns-else-same t c =
    among_later c.args.text.now c.in-Some.name.now c.in-Some.more.now c.args.names.now c.same.result c.is_among.result
    c.in-Some.ensures.cases.0 c.same.ensures c.if-same.false c.is_among.ensures
