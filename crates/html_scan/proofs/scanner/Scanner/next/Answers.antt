use Rattle.std.proofs.Common.{sym}
use Rattle.html_scan.proofs.Calls.{call, found_in, stepped_in}
use Rattle.html_scan.proofs.scanner.Scanner.next.Goals as goal

pub overflow_sub-to : goal.overflow_sub-to
overflow_sub-to c = (call c.self.inside.page.now c.self.inside.within c.self.inside.rest.now c.in-Some.front.kind c.in-Some.front.within c.in-Some.front.rest.now c.self.invariant c.in-Some.ensures).fits

pub invariant_of-self : goal.invariant_of-self
invariant_of-self c = (call c.self.inside.page.now c.self.inside.within c.self.inside.rest.now c.in-Some.front.kind c.in-Some.front.within c.in-Some.front.rest.now c.self.invariant c.in-Some.ensures).scanner

pub returns-in-Some-clause-piece : goal.returns-in-Some-clause-piece
returns-in-Some-clause-piece c = found_in c.args.self.now c.self.inside.page.now c.self.inside.within c.self.inside.rest.now c.in-Some.front.kind c.in-Some.front.within c.in-Some.front.rest.now (sym c.self.view_is) c.self.invariant c.in-Some.ensures

pub returns-in-Some-clause-next : goal.returns-in-Some-clause-next
returns-in-Some-clause-next c = stepped_in c.args.self.now c.self.inside.page.now c.self.inside.within c.self.inside.rest.now c.in-Some.front.kind c.in-Some.front.within c.in-Some.front.rest.now (sym c.self.view_is) c.self.invariant c.in-Some.ensures
