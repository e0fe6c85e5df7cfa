use Rattle.std.proofs.Common.{rules, ◌+◌}
use Rattle.std.proofs.Math.Numerals.{add-one}
use Rattle.std.proofs.lemmas.Result.{on_ok_weaker}
use Rattle.json_spec.specs.Value.{a_text}
use Rattle.map_print.specs.PrintedLists.{value_text}
use Rattle.map_print.proofs.PrintedParts.{object}
use Rattle.map_print.proofs.print.push_mappings.Goals as goal

pub returns : goal.returns
returns c =
    on_ok_weaker c.push_close.result
    (object (λ pair. pair.0) (λ pair. a_text (value_text c.args.values c.args.folder.now pair.1)) c.args.level (c.args.level + 1) c.in-Some.first.now c.in-Some.more.now c.args.pairs.now (add-one c.args.level) (search rules) (search rules) (c.in_ok-push_pair.ensures) (c.in_ok-push_more_pairs.ensures))
    c.push_close.ensures
