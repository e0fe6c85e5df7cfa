use Rattle.std.proofs.Common.{◌≡◌, [], Some, ap, ◌∙◌}
use Rattle.tree_spec.specs.LookAskings.{noted}
use Rattle.package_lookup.proofs.NotedPaths.{noted_behind, noted_shared}
use Rattle.package_lookup.proofs.question.Question.note.Goals as goal

pub returns-in_ok-self-inside-in-Some : goal.returns-in_ok-self-inside-in-Some
returns-in_ok-self-inside-in-Some c =
    let value = c.in-Some.ensures.value in
    let is = c.in-Some.is in
    let shared : c.self.inside.shared ≡ Some c.in-Some.paths = cc in
    let inner = c.deref.ensures in
    let slice = c.as_slice.ensures in
    let all : c.as_slice.result.now ≡ c.in-Some.paths.value = cc in
    noted_behind c.note-in-Some.result c.note-in-Some.new.self c.in_ok-self-inside-in-Some.field-0 c.args.self.now
    c.take.new.self c.args.path.now c.take.ensures.after
    (noted_shared c.self.inside.own c.args.self.now c.in_ok-self-inside-in-Some.field-0 c.self.inside.shared
    c.in-Some.paths shared c.self.view_is c.self.invariant
    (c.in_ok-self-inside-in-Some.ensures ∙ ap (noted []) all))
    c.note-in-Some.ensures
