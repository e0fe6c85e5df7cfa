use Rattle.std.proofs.Common.{Some, None, false, sym, ◌∙◌}
use Rattle.node_spec.specs.LookupPackageScope.{package_scope, scopes}
use Rattle.package_lookup.specs.Lookups.{state_of}
use Rattle.package_lookup.specs.Responses.{given, fails, no_memory, never, by_fault, itself}
use Rattle.package_lookup.specs.declared.fault.LookupFault.TheVariants.{Memory}
use Rattle.package_lookup.proofs.SameLookups.{same_twice}
use Rattle.package_lookup.proofs.Questions.{looked_err, no_memory_now, left_twice}
use Rattle.package_lookup.proofs.Searches.{search_ends, search_accepts, search_fails, search_unfinished, search_tops, search_rises}
use Rattle.package_lookup.proofs.packages.scope_of.Goals as goal

pub returns-in_err-at-clause-answered : goal.returns-in_err-at-clause-answered
returns-in_err-at-clause-answered g c =
    looked_err itself _ _ (package_scope c.args.from.now) c.from_residual.result Memory c.from_residual.ensures.1
    (no_memory_now (state_of g.F.Folder.state c.args.lookup.now)
    (package_scope c.args.from.now))

pub returns-then-is_node_modules-clause-answered : goal.returns-then-is_node_modules-clause-answered
returns-then-is_node_modules-clause-answered g c =
    c.up.invariant.left.completes (given None) (state_of g.F.Folder.state c.up.lookup)
    (search_ends scopes (state_of g.F.Folder.state c.up.lookup) c.up.at
    c.is_node_modules.ensures.is_path (sym c.is_node_modules.ensures.named ∙ c.if-is_node_modules.true))

pub returns-in-Err-clause-answered : goal.returns-in-Err-clause-answered
returns-in-Err-clause-answered g c =
    c.up.invariant.left.completes (by_fault (fails never) (fails never) c.in-Err.fault)
    (state_of g.F.Folder.state c.holds_record.new.lookup)
    (search_fails scopes (state_of g.F.Folder.state c.up.lookup)
    (state_of g.F.Folder.state c.holds_record.new.lookup) c.up.at
    c.in-Err.fault c.is_node_modules.ensures.is_path
    (sym c.is_node_modules.ensures.named ∙ c.if-is_node_modules.false) (rw c.in-Err.is at c.holds_record.ensures.answered))

pub returns-in-Ok-true-clause-answered : goal.returns-in-Ok-true-clause-answered
returns-in-Ok-true-clause-answered g c =
    c.up.invariant.left.completes (given (Some c.up.at))
    (state_of g.F.Folder.state c.holds_record.new.lookup)
    (search_accepts scopes (state_of g.F.Folder.state c.up.lookup)
    (state_of g.F.Folder.state c.holds_record.new.lookup) c.up.at
    c.is_node_modules.ensures.is_path (sym c.is_node_modules.ensures.named ∙ c.if-is_node_modules.false)
    (rw (c.in-Ok-true.is, c.in-Ok-true.field-0-test) at c.holds_record.ensures.answered))

pub returns-in_err-parent-clause-answered : goal.returns-in_err-parent-clause-answered
returns-in_err-parent-clause-answered g c =
    looked_err itself _ _ (package_scope c.args.from.now) c.from_residual-in_err-parent.result Memory
    c.from_residual-in_err-parent.ensures.1
    (c.up.invariant.left.completes (fails no_memory)
    (state_of g.F.Folder.state c.holds_record.new.lookup)
    (search_unfinished scopes (state_of g.F.Folder.state c.up.lookup)
    (state_of g.F.Folder.state c.holds_record.new.lookup) c.up.at
    c.is_node_modules.ensures.is_path (sym c.is_node_modules.ensures.named ∙ c.if-is_node_modules.false)
    (rw (c.in-Ok-false.is, c.in-Ok-false.field-0-test) at c.holds_record.ensures.answered)))

pub returns-in-None-clause-answered : goal.returns-in-None-clause-answered
returns-in-None-clause-answered g c =
    c.up.invariant.left.completes (given None)
    (state_of g.F.Folder.state c.holds_record.new.lookup)
    (search_tops scopes (state_of g.F.Folder.state c.up.lookup)
    (state_of g.F.Folder.state c.holds_record.new.lookup) c.up.at
    (rw c.in-None.is at c.in_ok-parent.ensures.parent)
    (sym c.is_node_modules.ensures.named ∙ c.if-is_node_modules.false)
    (rw (c.in-Ok-false.is, c.in-Ok-false.field-0-test) at c.holds_record.ensures.answered))

pub up-preserved : goal.up-preserved
up-preserved g c = record {
  left =
      left_twice (state_of g.F.Folder.state c.args.lookup.now)
      (state_of g.F.Folder.state c.up.lookup)
      (state_of g.F.Folder.state c.holds_record.new.lookup)
      (package_scope c.args.from.now) (package_scope c.up.at) (package_scope c.in-Some.parent) c.up.invariant.left
      (search_rises scopes (state_of g.F.Folder.state c.up.lookup)
      (state_of g.F.Folder.state c.holds_record.new.lookup)
      c.in-Some.parent c.up.at (rw c.in-Some.is at c.in_ok-parent.ensures.parent)
      (sym c.is_node_modules.ensures.named ∙ c.if-is_node_modules.false)
      (rw (c.in-Ok-false.is, c.in-Ok-false.field-0-test) at c.holds_record.ensures.answered));
  same = same_twice c.up.invariant.same c.holds_record.ensures.same;
}
