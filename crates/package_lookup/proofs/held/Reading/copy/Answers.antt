use Rattle.package_lookup.proofs.ReadingLemmas.{copied}
use Rattle.package_lookup.proofs.held.Reading.copy.Goals as goal

pub returns-in_ok-clone-in-Found : goal.returns-in_ok-clone-in-Found
returns-in_ok-clone-in-Found c = λ look is.
    copied look c.in-Found.package c.in_ok-clone-in-Found.field-0 c.in_ok-clone-in-Found.ensures.cases
    (rw c.in-Found.is at is)
