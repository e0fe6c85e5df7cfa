use Rattle.std.proofs.Common.{◌∙◌, ap, sym}
use Rattle.json_spec.specs.PropertyOrder.{in_property_order}
use Rattle.ordered_json.specs.Lists.{pairs_of}
use Rattle.ordered_json.specs.Shown.{members_of}
use Rattle.map_parse.proofs.ScopeLemmas.{put_as_written}
use Rattle.map_parse.proofs.scopes.gathered_of.Goals as goal

pub returns-then-are_as_written : goal.returns-then-are_as_written
returns-then-are_as_written c =
    put_as_written c.args.base.now (members_of (pairs_of c.args.members)) c.gathered_from.result
    (ap (λ ps. in_property_order (members_of ps)) (sym c.as_slice.ensures) ∙ (c.are_as_written.ensures c.if-are_as_written.true ∙ ap members_of c.as_slice.ensures))
    c.gathered_from.ensures
