use Rattle.std.proofs.Common.{false, sym, ap, ◌∙◌}
use Rattle.ordered_json.specs.Lists.{pairs_of}
use Rattle.ordered_json.specs.Shown.{json_of}
use Rattle.ordered_json.proofs.ShownLemmas.{json_of_object}
use Rattle.node_resolve.proofs.MemberLemmas.{comes_from, distinct_in, no_field, not_there, dot_at, dot_has_no_star}
use Rattle.node_resolve.proofs.package_exports_resolve.dot_of.Goals as goal

pub returns-in-None : goal.returns-in-None
returns-in-None c =
    let none = rw c.in-None.is at c.place_of.ensures in
    no_field _ (pairs_of c.args.members.now) (λ i e. none i dot_has_no_star e)

pub returns-in-None-at : goal.returns-in-None-at
returns-in-None-at c =
    let found = rw c.in-Some.is at c.place_of.ensures in
    absurd (not_there (pairs_of c.args.members.now) c.in-Some.place _ found
    (sym (rw c.in-None-at.is at c.at.ensures)))

pub returns-in-Some-at : goal.returns-in-Some-at
returns-in-Some-at c =
    let found = rw c.in-Some.is at c.place_of.ensures in
    let is = ap json_of c.requires.object ∙ json_of_object _ in
    let there = sym (rw c.in-Some-at.is at c.at.ensures) in
    comes_from _ _ _ _ _
    (dot_at (pairs_of c.args.members.now) c.in-Some.place _ (distinct_in _ _ is c.requires.subpaths.distinct)
    found there)
    (c.target_at.ensures false _ c.requires.subpaths
    (record { members = c.args.members.now; object = c.requires.object; stands = there }))

pub place_of-requires : goal.place_of-requires
place_of-requires c = (c.requires.subpaths.indexed _ (ap json_of c.requires.object ∙ json_of_object _)).keys
