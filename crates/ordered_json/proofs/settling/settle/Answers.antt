use Rattle.std.proofs.Common.{ap, sym, ◌∙◌}
use Rattle.json_spec.specs.Value.{settled}
use Rattle.json_spec.proofs.Settled.{settled_distinct}
use Rattle.ordered_json.specs.Shown.{members_of}
use Rattle.ordered_json.proofs.settling.settle.Goals as goal

pub returns-then-few_are_distinct : goal.returns-then-few_are_distinct
returns-then-few_are_distinct c =
    let same = ap members_of c.as_slice.ensures.value in
    let settled_same = ap settled (sym same) ∙ settled_distinct _ (c.few_are_distinct.ensures c.if-few_are_distinct.true) ∙ same in
    sym settled_same
