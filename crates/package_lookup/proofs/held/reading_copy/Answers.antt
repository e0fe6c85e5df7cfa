use Rattle.package_lookup.proofs.held.reading_copy.Goals as goal

pub returns-in_ok-copy-in-Some : goal.returns-in_ok-copy-in-Some
returns-in_ok-copy-in-Some c = λ look are. c.in_ok-copy-in-Some.ensures look (rw c.in-Some.is at are)
