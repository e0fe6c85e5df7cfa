use Rattle.package_record.proofs.LeftLemmas.{as_it_is, comes_under}
use Rattle.package_record.proofs.subpaths.Subpaths.target_at.Goals as goal

pub returns-in-None : goal.returns-in-None
returns-in-None c = λ imports key is stands. as_it_is _ _ _

pub returns-then-is_same : goal.returns-then-is_same
returns-then-is_same c = λ imports key is stands.
    let left = rw c.in-Some.is at is.left in
    comes_under _ _ _ _ _ (c.is_same.ensures c.if-is_same.true) (c.left_at.ensures imports c.args.self.now.value key left stands)

pub returns-else-is_same : goal.returns-else-is_same
returns-else-is_same c = λ imports key is stands. as_it_is _ _ _
