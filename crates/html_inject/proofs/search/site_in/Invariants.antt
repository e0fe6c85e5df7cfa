use Rattle.html_inject.proofs.Searching.{Searching, left_to_search}
use Rattle.html_inject.proofs.search.site_in.Given as goal

abbrev pub invariant-loop-next : goal.invariant-loop-next
invariant-loop-next l = Searching l.text l.scanner l.next l.found

abbrev pub decreases-loop-next : goal.decreases-loop-next
decreases-loop-next l = left_to_search l.scanner l.next
