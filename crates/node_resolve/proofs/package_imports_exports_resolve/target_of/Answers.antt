use Rattle.std.proofs.Common.{sym}
use Rattle.ordered_json.specs.Lists.{pairs_of}
use Rattle.node_resolve.proofs.MemberLemmas.{none_first, not_there, target_is}
use Rattle.node_resolve.proofs.package_imports_exports_resolve.target_of.Goals as goal

pub part_of-requires : goal.part_of-requires
part_of-requires c =
    rw (c.in-Ok-Some.is, c.in-Ok-Some.field-0-is) at c.indexed_match.ensures.span

pub returns-in-Ok-None : goal.returns-in-Ok-None
returns-in-Ok-None c = λ imports subpaths.
    let none = rw (c.in-Ok-None.is, c.in-Ok-None.field-0-is) at c.indexed_match.ensures.choice in
    none_first (pairs_of c.args.members.now) c.args.asked.now none

pub returns-in-None : goal.returns-in-None
returns-in-None c = λ imports subpaths.
    let found = rw (c.in-Ok-Some.is, c.in-Ok-Some.field-0-is) at c.indexed_match.ensures.choice in
    absurd (not_there (pairs_of c.args.members.now) c.in-Ok-Some.found.index found.key found.stands
    (sym (rw c.in-None.is at c.at.ensures)))

pub returns-in-Some : goal.returns-in-Some
returns-in-Some c = λ imports subpaths.
    let choice = rw (c.in-Ok-Some.is, c.in-Ok-Some.field-0-is) at c.indexed_match.ensures.choice in
    let there = sym (rw c.in-Some.is at c.at.ensures) in
    record {
      target = _;
      is = target_is (pairs_of c.args.members.now) c.args.asked.now c.in-Ok-Some.found _ _ c.requires.distinct
          choice there c.part_of.ensures;
      comes = c.target_at-target.ensures imports _ subpaths
          (record { members = c.args.members.now; object = c.requires.object; stands = there });
    }
