use Rattle.package_lookup.proofs.packages.ready.Goals as goal

pub returns-then-keeps : goal.returns-then-keeps
returns-then-keeps c = λ look are. rw c.in-Some.is at are
