use Rattle.std.proofs.Common.{Some, None, false, refl, ap, ◌∙◌}
use Rattle.tree_spec.specs.Paths.{joined}
use Rattle.node_spec.specs.Nearest.{nearest}
use Rattle.node_spec.specs.PackageResolve.{packages, package_folder}
use Rattle.package_lookup.specs.Lookups.{state_of}
use Rattle.package_lookup.specs.Responses.{given, fails, no_memory, never, by_fault, itself}
use Rattle.package_lookup.specs.declared.fault.LookupFault.TheVariants.{Memory}
use Rattle.package_lookup.proofs.SameLookups.{same_twice}
use Rattle.package_lookup.proofs.Questions.{looked_err, no_memory_now, left_twice, given_as}
use Rattle.package_lookup.proofs.Searches.{search_accepts, search_fails, search_unfinished, search_tops, search_rises, package_none, package_found, package_fails}
use Rattle.package_lookup.proofs.packages.find_package.Goals as goal

pub returns-in_err-place-clause-answered : goal.returns-in_err-place-clause-answered
returns-in_err-place-clause-answered g c =
    looked_err itself _ _ (package_folder c.args.from.now c.args.name.now) c.from_residual.result Memory
    c.from_residual.ensures.1
    (no_memory_now (state_of g.F.Folder.state c.args.lookup.now)
    (package_folder c.args.from.now c.args.name.now))

pub returns-in_err-at-clause-answered : goal.returns-in_err-at-clause-answered
returns-in_err-at-clause-answered g c =
    looked_err itself _ _ (package_folder c.args.from.now c.args.name.now) c.from_residual-in_err-at.result Memory
    c.from_residual-in_err-at.ensures.1
    (no_memory_now (state_of g.F.Folder.state c.args.lookup.now)
    (package_folder c.args.from.now c.args.name.now))

pub returns-in-Err-clause-answered : goal.returns-in-Err-clause-answered
returns-in-Err-clause-answered g c =
    package_fails (state_of g.F.Folder.state c.args.lookup.now)
    (state_of g.F.Folder.state c.package_in.new.lookup) c.args.from.now
    c.args.name.now c.in-Err.fault
    (c.up.invariant.left.completes (by_fault (fails never) (fails never) c.in-Err.fault)
    (state_of g.F.Folder.state c.package_in.new.lookup)
    (search_fails (packages c.args.name.now) (state_of g.F.Folder.state c.up.lookup)
    (state_of g.F.Folder.state c.package_in.new.lookup) c.up.at
    c.in-Err.fault c.up.invariant.is_path refl
    (rw c.in-Err.is at (c.package_in.ensures.answered c.args.name.now (c.as_str.ensures.value ∙ c.in_ok-place.ensures)))))

pub returns-in-Ok-Some-clause-answered : goal.returns-in-Ok-Some-clause-answered
returns-in-Ok-Some-clause-answered g c =
    given_as _ _ (package_folder c.args.from.now c.args.name.now) _ (Some c.in-Ok-Some.package)
    (ap Some (rw (c.in-Ok-Some.is, c.in-Ok-Some.field-0-is) at c.package_in.ensures.place
    ∙ ap (joined c.up.at) (c.as_str.ensures.value ∙ c.in_ok-place.ensures)))
    (package_found (state_of g.F.Folder.state c.args.lookup.now)
    (state_of g.F.Folder.state c.package_in.new.lookup) c.args.from.now
    c.args.name.now c.up.at
    (c.up.invariant.left.completes (given (Some c.up.at))
    (state_of g.F.Folder.state c.package_in.new.lookup)
    (search_accepts (packages c.args.name.now) (state_of g.F.Folder.state c.up.lookup)
    (state_of g.F.Folder.state c.package_in.new.lookup) c.up.at
    c.up.invariant.is_path refl
    (rw (c.in-Ok-Some.is, c.in-Ok-Some.field-0-is) at (c.package_in.ensures.answered c.args.name.now (c.as_str.ensures.value ∙ c.in_ok-place.ensures))))))

pub returns-in_err-parent-clause-answered : goal.returns-in_err-parent-clause-answered
returns-in_err-parent-clause-answered g c =
    looked_err itself _ _ (package_folder c.args.from.now c.args.name.now) c.from_residual-in_err-parent.result Memory
    c.from_residual-in_err-parent.ensures.1
    (package_fails (state_of g.F.Folder.state c.args.lookup.now)
    (state_of g.F.Folder.state c.package_in.new.lookup) c.args.from.now
    c.args.name.now Memory
    (c.up.invariant.left.completes (fails no_memory)
    (state_of g.F.Folder.state c.package_in.new.lookup)
    (search_unfinished (packages c.args.name.now) (state_of g.F.Folder.state c.up.lookup)
    (state_of g.F.Folder.state c.package_in.new.lookup) c.up.at
    c.up.invariant.is_path refl
    (rw (c.in-Ok-None.is, c.in-Ok-None.field-0-is) at (c.package_in.ensures.answered c.args.name.now (c.as_str.ensures.value ∙ c.in_ok-place.ensures))))))

pub returns-in-None-clause-answered : goal.returns-in-None-clause-answered
returns-in-None-clause-answered g c =
    package_none (state_of g.F.Folder.state c.args.lookup.now)
    (state_of g.F.Folder.state c.package_in.new.lookup) c.args.from.now
    c.args.name.now
    (c.up.invariant.left.completes (given None)
    (state_of g.F.Folder.state c.package_in.new.lookup)
    (search_tops (packages c.args.name.now) (state_of g.F.Folder.state c.up.lookup)
    (state_of g.F.Folder.state c.package_in.new.lookup) c.up.at
    (rw c.in-None.is at c.in_ok-parent.ensures.parent) refl
    (rw (c.in-Ok-None.is, c.in-Ok-None.field-0-is) at (c.package_in.ensures.answered c.args.name.now (c.as_str.ensures.value ∙ c.in_ok-place.ensures)))))

pub up-preserved : goal.up-preserved
up-preserved g c = record {
  left =
      left_twice (state_of g.F.Folder.state c.args.lookup.now)
      (state_of g.F.Folder.state c.up.lookup)
      (state_of g.F.Folder.state c.package_in.new.lookup)
      (nearest (packages c.args.name.now) c.args.from.now) (nearest (packages c.args.name.now) c.up.at)
      (nearest (packages c.args.name.now) c.in-Some.parent) c.up.invariant.left
      (search_rises (packages c.args.name.now) (state_of g.F.Folder.state c.up.lookup)
      (state_of g.F.Folder.state c.package_in.new.lookup)
      c.in-Some.parent c.up.at (rw c.in-Some.is at c.in_ok-parent.ensures.parent) refl
      (rw (c.in-Ok-None.is, c.in-Ok-None.field-0-is) at (c.package_in.ensures.answered c.args.name.now (c.as_str.ensures.value ∙ c.in_ok-place.ensures))));
  is_path = (rw c.in-Some.is at c.in_ok-parent.ensures.parent).is_path;
  same = same_twice c.up.invariant.same c.package_in.ensures.same;
}
