use Rattle.std.proofs.Common.{rules, ◌≡◌}
use Rattle.ordered_json.specs.declared.value.Value.{the_lemmas}
use Rattle.json_spec.specs.Value.{an_object}
use Rattle.ordered_json.specs.Lists.{pairs_of}
use Rattle.ordered_json.specs.Shown.{json_of, members_of}
use Rattle.map_parse.proofs.FaultLemmas.{object_gives}
use Rattle.map_parse.proofs.parse.map_of_value.Goals as goal

pub returns-in-Object : goal.returns-in-Object
returns-in-Object c =
    let object : json_of c.args.value ≡ an_object (members_of (pairs_of c.in-Object.members)) = search (rules, the_lemmas) in
    object_gives c.args.base.now _ _ c.map_of_members.result object c.map_of_members.ensures
