use Rattle.std.proofs.Common.{take}
use Rattle.tree_vendor.proofs.Writes.{AreWritten}
use Rattle.tree_vendor.proofs.copying.copy_out.Given as goal

abbrev pub invariant-loop-step : goal.invariant-loop-step
invariant-loop-step g l =
    AreWritten l.fn.known (take l.step-index l.fn.plan) (g.F.Folder.state l.fn.folder) (g.F.Folder.state l.folder)
