use Rattle.page_spec.proofs.Existence.{size}
use Rattle.html_scan.proofs.Listed.{Listing}
use Rattle.html_scan.proofs.whole.pieces.Given as goal

abbrev pub invariant-read : goal.invariant-read
invariant-read l = Listing l.text l.scanner l.list

abbrev pub decreases-read : goal.decreases-read
decreases-read l = size l.scanner.1.0 l.scanner.1.1
