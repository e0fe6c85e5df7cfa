use Rattle.std.proofs.Common.{◌≡◌, IfOk, subst}
use Rattle.package_lookup.proofs.Folders.{folder_of_root, folder_by_parent}
use Rattle.package_lookup.proofs.format.folder_of.Goals as goal

pub returns-in-None : goal.returns-in-None
returns-in-None c =
    subst (λ p. IfOk c.copy.result (λ folder. folder ≡ p))
    (folder_of_root c.args.path.now (rw c.in-None.is at c.in_ok-parent.ensures.parent)) c.copy.ensures.same

pub returns-in-Some : goal.returns-in-Some
returns-in-Some c =
    folder_by_parent c.in-Some.folder c.args.path.now (rw c.in-Some.is at c.in_ok-parent.ensures.parent)
