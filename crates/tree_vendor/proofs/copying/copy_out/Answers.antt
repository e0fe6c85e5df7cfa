use Rattle.std.proofs.Common.{◌≡◌, ◌≤◌, length, Some, subst, take_all}
use Rattle.std.specs.Prelude.{slice_get}
use Rattle.tree_vendor.proofs.Elements.{got}
use Rattle.tree_vendor.proofs.Writes.{AreWritten, all_written, none_written, one_written, write_failed}
use Rattle.tree_vendor.proofs.copying.copy_out.Goals as goal

pub loop-step-init : goal.loop-step-init
loop-step-init g c = none_written c.args.known.now (g.F.Folder.state c.args.folder.now)

pub loop-step-preserved : goal.loop-step-preserved
loop-step-preserved g c =
    one_written c.args.known.now c.args.plan.now c.loop-step.step-index c.step-item.result
    (g.F.Folder.state c.args.folder.now) (g.F.Folder.state c.loop-step.folder) (g.F.Folder.state c.copy_file.new.folder)
    c.copy_file.result
    (subst (λ steps. slice_get steps c.loop-step.step-index ≡ Some c.step-item.result) c.as_slice-step-items.ensures
    (got c.as_slice-step-items.result.now c.loop-step.step-index c.step-item.result c.loop-step-test.true c.step-item.is))
    c.loop-step.invariant c.copy_file.ensures c.in-Ok.is

pub returns-in-Err : goal.returns-in-Err
returns-in-Err g c =
    write_failed c.args.known.now c.args.plan.now c.loop-step.step-index c.step-item.result
    (g.F.Folder.state c.args.folder.now) (g.F.Folder.state c.loop-step.folder) (g.F.Folder.state c.copy_file.new.folder)
    c.copy_file.result
    (subst (λ steps. slice_get steps c.loop-step.step-index ≡ Some c.step-item.result) c.as_slice-step-items.ensures
    (got c.as_slice-step-items.result.now c.loop-step.step-index c.step-item.result c.loop-step-test.true c.step-item.is))
    c.loop-step.invariant c.copy_file.ensures c.in-Err.fault c.in-Err.is

pub returns : goal.returns
returns g c =
    all_written c.args.known.now c.args.plan.now (g.F.Folder.state c.args.folder.now) (g.F.Folder.state c.loop-step.folder)
    (subst
    (λ steps. AreWritten c.args.known.now steps (g.F.Folder.state c.args.folder.now) (g.F.Folder.state c.loop-step.folder))
    (take_all c.loop-step.step-index c.args.plan.now
    (subst (λ steps. length steps ≤ c.loop-step.step-index) c.as_slice-step-items.ensures c.loop-step-test.false))
    c.loop-step.invariant)
