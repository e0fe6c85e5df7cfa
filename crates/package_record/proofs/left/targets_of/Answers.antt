use Rattle.package_record.proofs.LeftLemmas.{object_left}
use Rattle.package_record.proofs.left.targets_of.Goals as goal

pub returns-in-Object : goal.returns-in-Object
returns-in-Object c =
    object_left (λ made. made.items) c.args.conditions.now c.args.imports c.args.value.now c.in-Object.members c.each_left.result
    c.in-Object.is (rw c.as_slice.ensures at c.each_left.ensures)
