use Rattle.std.proofs.Common.{rules, ◌≡◌}
use Rattle.ordered_json.specs.declared.value.Value.{the_lemmas}
use Rattle.json_spec.specs.Value.{an_object}
use Rattle.ordered_json.specs.Lists.{pairs_of}
use Rattle.ordered_json.specs.Shown.{json_of, members_of}
use Rattle.map_parse.proofs.ScopeLemmas.{scope_put}
use Rattle.map_parse.proofs.scopes.put_member.Goals as goal

pub returns-in-Ok : goal.returns-in-Ok
returns-in-Ok c =
    let object : json_of c.args.value.now ≡ an_object (members_of (pairs_of c.in-Object.members)) = search (rules, the_lemmas) in
    λ more. scope_put c.args.base.now c.args.scopes.now c.put_scope.new.scopes c.args.key.now _ _ more object c.in-Ok.ensures
