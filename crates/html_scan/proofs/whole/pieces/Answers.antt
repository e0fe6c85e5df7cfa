use Rattle.std.proofs.Common.{ap}
use Rattle.page_spec.specs.ImportMaps.{is_broken}
use Rattle.html_scan.proofs.Listed.{all_listed, fault_found, one_more_listed, less_left, whole_kind}
use Rattle.html_scan.proofs.whole.pieces.Goals as goal

pub returns-in-None-clause-pieces : goal.returns-in-None-clause-pieces
returns-in-None-clause-pieces c = all_listed c.args.text.now c.read.scanner c.read.list c.read.invariant c.in-None.ensures.next.0

pub returns-in-Broken-clause-fault : goal.returns-in-Broken-clause-fault
returns-in-Broken-clause-fault c = fault_found c.args.text.now c.read.scanner c.read.list c.in-Some.piece c.next.new.self.1.0 c.next.new.self.1.1 c.read.invariant c.in-Some.ensures.next (ap is_broken c.in-Broken.is)

pub read-smaller : goal.read-smaller
read-smaller c = less_left c.args.text.now c.read.scanner c.in-Some.piece c.next.new.self.1.0 c.next.new.self.1.1 c.in-Some.ensures.next

pub read-preserved : goal.read-preserved
read-preserved c = one_more_listed c.args.text.now c.read.scanner c.next.new.self c.read.list c.push.new.self c.in-Some.piece c.read.invariant c.in-Some.ensures.page c.in-Some.ensures.next (whole_kind c.in-Some.piece.kind c.in_default.not-Broken) c.in_ok-push-in_default.ensures
