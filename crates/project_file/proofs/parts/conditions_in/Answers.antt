use Rattle.std.proofs.Common.{rules, All, ◌≡◌}
use Rattle.ordered_json.specs.Lists.{values_of}
use Rattle.ordered_json.specs.Shown.{items_of}
use Rattle.project_file.specs.Names.{IsName, joined}
use Rattle.project_file.proofs.PartLemmas.{good_names, bad_names}
use Rattle.project_file.proofs.parts.conditions_in.Goals as goal

pub returns-in-Ok : goal.returns-in-Ok
returns-in-Ok c =
    let are : All IsName c.in-Some.names = search rules in
    let text : c.as_str.result.now ≡ joined c.in-Some.names = search rules in
    good_names (items_of (values_of c.args.items.now)) c.in-Some.names c.in-Ok.conditions c.as_str.result.now (search rules) are text (search rules) (search rules)

pub returns-in-Err-BadConditions : goal.returns-in-Err-BadConditions
returns-in-Err-BadConditions c =
    let are : All IsName c.in-Some.names = search rules in
    let text : c.as_str.result.now ≡ joined c.in-Some.names = search rules in
    bad_names (items_of (values_of c.args.items.now)) c.in-Some.names c.as_str.result.now (search rules) are text (search rules)
